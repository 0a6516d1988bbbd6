use Rattle.std.proofs.Common.{◌+◌, refl, sym, subst, arith}
use Rattle.std.specs.Prelude.{IsNone}
use Rattle.lois_base.specs.Tree.{tree}
use Rattle.lois_constraint.proofs.Shifting.{fits_more}
use Rattle.lois_deciders.specs.Satisfaction.{IsConstraintSample}
use Rattle.lois_deciders.proofs.Oracle.{some_is}
use Rattle.lois_same.specs.Members.{IsItemAlone}
use Rattle.lois_same.proofs.SetMembers.{comp_included, item_alone}
use Rattle.lois_same.proofs.members.find_item_alone.Goals as goal

pub ask-requires : goal.ask-requires
ask-requires g c =
    let n = c.args.size + c.args.comp.now.binders in
    c.in_ok-left.ensures.fits n (c.in_ok-admitted.ensures.fits n (fits_more c.args.size n c.args.under.now (omega arith) c.requires.under) c.requires.over.levels.1) c.in_ok-found.ensures.fits

pub returns-in-Some-clause-sample : goal.returns-in-Some-clause-sample
returns-in-Some-clause-sample g c =
    let x = c.args.comp.now in
    let n = c.args.size in
    let left = c.in_ok-left.left in
    let is = some_is (λ s. IsConstraintSample (n + x.binders) left s.items) c.in_ok-sample.field-0 c.in-Some.sample c.in-Some.is c.in_ok-sample.ensures.sample in
    subst (IsItemAlone n c.args.under.now x.binders x.guard (tree x.item) (tree c.args.other.now)) (sym c.from_vec.ensures)
    (item_alone n x.binders c.args.under.now x.guard (tree x.item) (tree c.args.other.now) c.in_ok-admitted.admitted c.in_ok-found.found left c.requires.under c.in_ok-found.ensures.truth c.in_ok-admitted.ensures.truth c.in_ok-left.ensures.truth c.in-Some.sample.items is)

pub returns-clause-none : goal.returns-clause-none
returns-clause-none g c = λ _.
    let x = c.args.comp.now in
    comp_included c.args.size x.binders c.args.under.now x.guard (tree x.item) (tree c.args.other.now) c.in_ok-admitted.admitted c.in_ok-found.found c.in_ok-left.left c.requires.under c.in_ok-found.ensures.truth c.in_ok-admitted.ensures.truth c.in_ok-left.ensures.truth
    (c.in_ok-sample.ensures.none.0 (subst IsNone (sym c.in-None.is) refl))
