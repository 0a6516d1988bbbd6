use Rattle.std.proofs.Common.{◌+◌, [], ◌∙◌, sym, subst}
use Rattle.std.proofs.lemmas.List.{length-map}
use Rattle.lois_base.specs.Atom.{whole}
use Rattle.lois_base.specs.Data.{comps_of}
use Rattle.lois_base.specs.Fits.{ItemsFit}
use Rattle.lois_base.specs.FormulaView.{view}
use Rattle.lois_base.specs.Tree.{tree}
use Rattle.lois_base.specs.Truth.{sampled}
use Rattle.lois_base.specs.Validity.{AdmitsItems}
use Rattle.lois_base.proofs.Validity.{fits_longer}
use Rattle.lois_deciders.specs.Satisfiability.{IsCounterexample}
use Rattle.lois_relate.specs.Relations.{HoldsWhereItemIn}
use Rattle.lois_simplify.proofs.Asked.{none_there, some_there}
use Rattle.lois_simplify.proofs.Beside.{is_asked, asked_covered, asked_own, failing_own, alone_has_own}
use Rattle.lois_simplify.proofs.covering.is_covered_by.Goals as goal

pub item_formula-requires-clause-levels : goal.item_formula-requires-clause-levels
item_formula-requires-clause-levels g c =
    subst (λ z. ItemsFit c.args.size (comps_of z)) (sym c.as_slice-items.ensures) c.requires.other.levels

pub fails_at_sample-requires-clause-here : goal.fails_at_sample-requires-clause-here
fails_at_sample-requires-clause-here g c =
    c.in_ok-here.ensures.fits (c.args.size + c.args.comp.now.binders) (fits_longer c.args.size c.args.comp.now.binders c.args.under.now c.requires.under_levels) c.requires.over.levels.1

pub returns-then-is_false_formula-clause-own : goal.returns-then-is_false_formula-clause-own
returns-then-is_false_formula-clause-own g c = λ e.
    let k = c.args.comp.now in
    let member = subst (λ z. HoldsWhereItemIn c.args.size k.binders (tree k.item) (comps_of z) (view c.in_ok-membership.membership)) c.as_slice-items.ensures c.in_ok-membership.ensures.truth in
    alone_has_own c.args.under.now c.args.size k.binders k.guard (tree k.item) c.args.others.now (view c.in_ok-membership.membership) c.requires.under_levels member (c.is_false_formula.ensures.0 c.if-is_false_formula.true) c.requires.lean

pub returns-then-branch-clause-own : goal.returns-then-branch-clause-own
returns-then-branch-clause-own g c = λ f.
    let k = c.args.comp.now in
    let member = subst (λ z. HoldsWhereItemIn c.args.size k.binders (tree k.item) (comps_of z) (view c.in_ok-membership.membership)) c.as_slice-items.ensures c.in_ok-membership.ensures.truth in
    failing_own c.args.under.now c.args.size k.binders k.guard (tree k.item) c.args.others.now c.in_ok-here.here [] (view c.in_ok-membership.membership) c.requires.under_levels c.in_ok-here.ensures.truth member (c.in_ok-fails_at_sample.ensures.fails c.if-branch.true)

pub quantifier_free-requires-clause-operators : goal.quantifier_free-requires-clause-operators
quantifier_free-requires-clause-operators g c =
    c.in_ok-membership.ensures.operators g.T.Structure.ordered c.requires.over.operators.1 (subst (λ z. AdmitsItems g.T.Structure.ordered (comps_of z)) (sym c.as_slice-items.ensures) c.requires.other.operators)

pub counterexample-requires-clause-first : goal.counterexample-requires-clause-first
counterexample-requires-clause-first g c =
    c.in_ok-here.ensures.fits (c.args.size + c.args.comp.now.binders) (fits_longer c.args.size c.args.comp.now.binders c.args.under.now c.requires.under_levels) c.requires.over.levels.1

pub returns-clause-covered : goal.returns-clause-covered
returns-clause-covered g c = λ t.
    let k = c.args.comp.now in
    let others = c.args.others.now in
    let member = subst (λ z. HoldsWhereItemIn c.args.size k.binders (tree k.item) (comps_of z) (view c.in_ok-membership.membership)) c.as_slice-items.ensures c.in_ok-membership.ensures.truth in
    let asked = is_asked c.args.under.now c.args.size k.binders k.guard (tree k.item) others c.in_ok-here.here c.in_ok-within.within (view c.in_ok-membership.membership) c.requires.under_levels c.in_ok-here.ensures.truth member c.in_ok-within.ensures.truth in
    asked_covered c.args.under.now c.args.size k.binders k.guard (tree k.item) others c.in_ok-here.here c.in_ok-within.within asked
    (c.in_ok-counterexample.ensures.none.0 (none_there c.in_ok-counterexample.counterexample c.is_none.result c.is_none.ensures t))

pub returns-clause-own : goal.returns-clause-own
returns-clause-own g c = λ f.
    let k = c.args.comp.now in
    let others = c.args.others.now in
    let member = subst (λ z. HoldsWhereItemIn c.args.size k.binders (tree k.item) (comps_of z) (view c.in_ok-membership.membership)) c.as_slice-items.ensures c.in_ok-membership.ensures.truth in
    let asked = is_asked c.args.under.now c.args.size k.binders k.guard (tree k.item) others c.in_ok-here.here c.in_ok-within.within (view c.in_ok-membership.membership) c.requires.under_levels c.in_ok-here.ensures.truth member c.in_ok-within.ensures.truth in
    let s = some_there (λ v. IsCounterexample (c.args.size + k.binders) c.in_ok-here.here c.in_ok-within.within v.items) c.in_ok-counterexample.counterexample c.is_none.result c.is_none.ensures f c.in_ok-counterexample.ensures.some in
    asked_own c.args.under.now c.args.size k.binders k.guard (tree k.item) others c.in_ok-here.here c.in_ok-within.within asked
    (sampled s.0.items) (length-map s.0.items whole ∙ s.1.0.count) s.1.1 s.1.2
