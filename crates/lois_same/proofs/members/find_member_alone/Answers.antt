use Rattle.std.proofs.Common.{refl, sym, ap, subst}
use Rattle.std.specs.Prelude.{IsNone}
use Rattle.std.proofs.lemmas.List.Elements.{All-more}
use Rattle.lois_base.specs.Fits.{Fits}
use Rattle.lois_base.specs.Tree.{tree, comp_of}
use Rattle.lois_base.specs.Validity.{AdmitsTerm}
use Rattle.lois_base.specs.declared.values.Comp.{Comp}
use Rattle.lois_deciders.proofs.OnlyAsked.{only_asked_then}
use Rattle.lois_deciders.proofs.Oracle.{some_is}
use Rattle.lois_printer.proofs.Fitting.{item_fits}
use Rattle.lois_same.specs.Members.{CompIsIncluded, IsSampleAlone, IsMemberAlone}
use Rattle.lois_same.proofs.SetMembers.{included_so_far, item_admits, member_alone}
use Rattle.lois_same.proofs.members.find_member_alone.Goals as goal

pub find_item_alone-requires-clause-over : goal.find_item_alone-requires-clause-over
find_item_alone-requires-clause-over g c =
    let o = g.T.Structure.ordered in
    record {
      levels = item_fits c.args.size c.in-Coll.comps c.as_slice-comp-items.result.now c.loop-comp.comp-index c.comp-item.result c.as_slice-comp-items.ensures c.loop-comp-test.true c.comp-item.is (subst (Fits c.args.size) (ap tree c.in-Coll.is) c.requires.over.levels);
      operators = item_admits o c.in-Coll.comps c.as_slice-comp-items.result.now c.loop-comp.comp-index c.comp-item.result c.as_slice-comp-items.ensures c.loop-comp-test.true c.comp-item.is (subst (AdmitsTerm o) (ap tree c.in-Coll.is) c.requires.over.operators);
    }

pub loop-comp-preserved : goal.loop-comp-preserved
loop-comp-preserved g c =
    let P : Comp → Type 0 = λ x. CompIsIncluded c.args.size c.args.under.now (comp_of x) (tree c.args.other.now) in
    record {
      sofar =
          All-more P c.as_slice-comp-items.result.now c.loop-comp.comp-index c.comp-item.result c.loop-comp-test.true c.loop-comp.invariant.sofar
          (subst P c.comp-item.is (c.in_ok-found.ensures.none (subst IsNone (sym c.in_default-found.is) refl)));
      only_asked = only_asked_then (λ d. (goal.Decider-dyn g (d.vtable, d.value)).kind_of d.value) (λ d. (goal.Decider-dyn g (d.vtable, d.value)).questions d.value) c.args.chosen.now c.loop-comp.chosen c.find_item_alone.new.chosen c.loop-comp.invariant.only_asked c.find_item_alone.ensures.only_asked;
    }

pub returns-clause-none : goal.returns-clause-none
returns-clause-none g c = λ _.
    included_so_far c.args.size c.args.under.now c.in-Coll.comps c.as_slice-comp-items.result.now c.loop-comp.comp-index c.args.set.now (tree c.args.other.now) (ap tree c.in-Coll.is) c.as_slice-comp-items.ensures c.loop-comp-test.false c.loop-comp.invariant.sofar

pub returns-in-Some-clause-member : goal.returns-in-Some-clause-member
returns-in-Some-clause-member g c =
    let n = c.args.size in
    let u = c.args.under.now in
    let t = tree c.args.other.now in
    let x = c.comp-item.result in
    let s = c.in-Some.sample in
    let fits = item_fits n c.in-Coll.comps c.as_slice-comp-items.result.now c.loop-comp.comp-index x c.as_slice-comp-items.ensures c.loop-comp-test.true c.comp-item.is (subst (Fits n) (ap tree c.in-Coll.is) c.requires.over.levels) in
    let alone = some_is (IsSampleAlone n u (comp_of x) t) c.in_ok-found.found s c.in-Some.is c.in_ok-found.ensures.sample in
    subst (λ i. IsMemberAlone n u (tree c.args.set.now) t (record { sample = s; item = i })) (sym c.in_ok-item.ensures)
    (member_alone n u c.in-Coll.comps c.as_slice-comp-items.result.now c.loop-comp.comp-index x c.args.set.now t s (ap tree c.in-Coll.is) c.as_slice-comp-items.ensures c.loop-comp-test.true c.comp-item.is fits alone)
