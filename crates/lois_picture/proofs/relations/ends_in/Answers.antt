use Rattle.std.proofs.Common.{◌<◌, take, length, sym, subst, arith}
use Rattle.std.proofs.lemmas.List.{length-map, take_all, take_more}
use Rattle.std.proofs.lemmas.List.Elements.{All-push, All-map}
use Rattle.std.specs.List.{All}
use Rattle.lois_base.proofs.Viewed.{item_at}
use Rattle.lois_base.specs.Data.{comps_of}
use Rattle.lois_base.specs.Tree.{comp_of}
use Rattle.lois_base.specs.Validity.{AdmitsComp}
use Rattle.lois_relate.proofs.Parts.{is_comp_of}
use Rattle.lois_automata.proofs.Loops.{ones_more, ones_end}
use Rattle.lois_deciders.proofs.OnlyAsked.{only_asked_then}
use Rattle.lois_picture.specs.Drawing.{MakesPairs}
use Rattle.lois_picture.specs.Graphs.{IsEndOf}
use Rattle.lois_picture.proofs.Pairs.{ends_added, no_relation_of, are_ends}
use Rattle.lois_picture.proofs.relations.ends_in.Goals as goal

pub add_ends-requires : goal.add_ends-requires
add_ends-requires g c =
    (is_comp_of c.as_slice-comp-items.result.now c.args.pairs.now c.loop-comp.comp-index c.comp-item.result c.as_slice-comp-items.ensures c.loop-comp-test.true c.comp-item.is).fits 0 c.requires.over.levels

pub returns-then-not-branch-clause-ends : goal.returns-then-not-branch-clause-ends
returns-then-not-branch-clause-ends g c =
    let items = c.as_slice-comp-items.result.now in
    let i = c.loop-comp.comp-index in
    let k = c.comp-item.result in
    let l : i < length c.args.pairs.now = subst (λ z. i < length z) c.as_slice-comp-items.ensures (omega (arith, c.loop-comp-test.true, length-map items comp_of)) in
    no_relation_of c.args.pairs.now i (comp_of k) (comps_of c.loop-comp.ends) (comps_of c.add_ends.new.ends) c.in_ok-add_ends.field-0 l (item_at comp_of items c.args.pairs.now i k c.as_slice-comp-items.ensures c.loop-comp-test.true c.comp-item.is) c.in_ok-add_ends.ensures.added c.if-not-branch.true

pub loop-comp-preserved : goal.loop-comp-preserved
loop-comp-preserved g c =
    let items = c.as_slice-comp-items.result.now in
    let i = c.loop-comp.comp-index in
    let k = c.comp-item.result in
    let added = ends_added (comp_of k) (comps_of c.loop-comp.ends) (comps_of c.add_ends.new.ends) c.in_ok-add_ends.field-0 c.in_ok-add_ends.ensures.added c.if-not-branch.false in
    record {
      pairs =
          subst (All (λ x. MakesPairs (comp_of x))) (sym (take_more items i k c.loop-comp-test.true))
          (All-push (λ x. MakesPairs (comp_of x)) (take i items) _ c.loop-comp.invariant.pairs (subst (λ x. MakesPairs (comp_of x)) c.comp-item.is added.0));
      sofar = ones_more (λ _. IsEndOf) (λ _. Unit {0}) 0 c.args.pairs.now (λ o. AdmitsComp o (comp_of k)) items i k (comps_of c.loop-comp.ends) (comps_of c.add_ends.new.ends) c.as_slice-comp-items.ensures c.loop-comp-test.true c.comp-item.is (λ o a. a.0) c.loop-comp.invariant.sofar added.1;
      only_asked = only_asked_then (λ d. (goal.Decider-dyn g (d.vtable, d.value)).kind_of d.value) (λ d. (goal.Decider-dyn g (d.vtable, d.value)).questions d.value) c.args.chosen.now c.loop-comp.chosen c.add_ends.new.chosen c.loop-comp.invariant.only_asked c.add_ends.ensures.only_asked;
    }

pub returns-clause-ends : goal.returns-clause-ends
returns-clause-ends g c =
    let items = c.as_slice-comp-items.result.now in
    let i = c.loop-comp.comp-index in
    let whole = take_all i items c.loop-comp-test.false in
    are_ends g.T.Structure.ordered c.args.pairs.now (comps_of c.loop-comp.ends) c.requires.over.levels c.requires.over.operators
    (subst (All MakesPairs) c.as_slice-comp-items.ensures (All-map MakesPairs comp_of items (subst (All (λ x. MakesPairs (comp_of x))) whole c.loop-comp.invariant.pairs)))
    (ones_end (λ _. IsEndOf) (λ _. Unit {0}) 0 c.args.pairs.now items i (comps_of c.loop-comp.ends) c.loop-comp-test.false c.loop-comp.invariant.sofar)
