use Rattle.std.proofs.Common.{ℕ, ◌+◌, Bool, map, ap, sym, subst, ◌∙◌}
use Rattle.std.proofs.lemmas.Result.{IfOk-weaker}
use Rattle.lois_base.specs.Data.{comps_of}
use Rattle.lois_base.specs.Fits.{ConstraintFits, ItemsFit}
use Rattle.lois_base.specs.FormulaView.{view}
use Rattle.lois_base.specs.Tree.{tree}
use Rattle.lois_base.specs.Validity.{AdmitsConstraint, AdmitsItems}
use Rattle.lois_relate.specs.Relations.{HoldsWhereItemIn}
use Rattle.lois_terms.specs.Shapes.{item_shape}
use Rattle.lois_algebra.specs.Selected.{IsSelectedPart}
use Rattle.lois_algebra.proofs.Selections.{selects}
use Rattle.lois_algebra.proofs.selecting.guard_by_index.Goals as goal

pub item_formula_indexed-requires-clause-levels : goal.item_formula_indexed-requires-clause-levels
item_formula_indexed-requires-clause-levels g c =
    subst (λ z. ItemsFit c.args.size (comps_of z)) (sym c.as_slice-items.ensures) c.requires.right.levels

pub item_formula_indexed-requires-clause-shapes : goal.item_formula_indexed-requires-clause-shapes
item_formula_indexed-requires-clause-shapes g c = c.requires.shapes ∙ ap (map item_shape) (sym c.as_slice-items.ensures)

pub quantifier_free-requires-clause-operators : goal.quantifier_free-requires-clause-operators
quantifier_free-requires-clause-operators g c =
    c.in_ok-formula.ensures.operators g.T.Structure.ordered c.requires.left.operators.1 (subst (λ z. AdmitsItems g.T.Structure.ordered (comps_of z)) (sym c.as_slice-items.ensures) c.requires.right.operators)

pub returns-clause-truth : goal.returns-clause-truth
returns-clause-truth g c =
    let comp = c.args.comp.now in
    let own = c.in_ok-found.ensures in
    let member = subst (λ z. HoldsWhereItemIn c.args.size comp.binders (tree comp.item) (comps_of z) (view c.in_ok-formula.formula)) c.as_slice-items.ensures c.in_ok-formula.ensures.truth in
    IfOk-weaker c.narrowed.result (IsSelectedPart c.args.wanted comp.guard c.in_ok-found.found) _ (λ r narrowed. selects c.args.size comp.binders (comps_of c.args.others.now) (tree comp.item) (view c.in_ok-formula.formula) c.in_ok-found.found member own.truth c.args.wanted comp.guard r narrowed) c.narrowed.ensures.truth

pub returns-clause-levels : goal.returns-clause-levels
returns-clause-levels g c =
    let comp = c.args.comp.now in
    let n = c.args.size + comp.binders in
    IfOk-weaker c.narrowed.result (λ r. (n : ℕ) → ConstraintFits n comp.guard → ConstraintFits n c.in_ok-found.found → ConstraintFits n r) (ConstraintFits n) (λ r fits. fits n c.requires.left.levels.1 c.in_ok-found.ensures.levels) c.narrowed.ensures.fits

pub returns-clause-operators : goal.returns-clause-operators
returns-clause-operators g c =
    let comp = c.args.comp.now in
    IfOk-weaker c.narrowed.result (λ r. (o : Bool) → AdmitsConstraint o comp.guard → AdmitsConstraint o c.in_ok-found.found → AdmitsConstraint o r) _ (λ r admits o a b. admits o a.0 (c.in_ok-found.ensures.operators o (c.in_ok-formula.ensures.operators o a.1 (subst (λ z. AdmitsItems o (comps_of z)) (sym c.as_slice-items.ensures) b)))) c.narrowed.ensures.operators
