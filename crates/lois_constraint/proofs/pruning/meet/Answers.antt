use Rattle.std.proofs.Common.{ℕ, Bool, List, ◌++◌}
use Rattle.std.proofs.lemmas.Result.{IfOk-weaker}
use Rattle.lois_base.proofs.Validity.{uses_only-refl, uses_only-append_left, uses_only-append_right}
use Rattle.lois_base.specs.Fits.{ConstraintFits}
use Rattle.lois_base.specs.UsedLevels.{UsesOnly}
use Rattle.lois_base.specs.Validity.{AdmitsConstraint}
use Rattle.lois_base.specs.declared.guards.Lit.{Lit}
use Rattle.lois_constraint.specs.Rules.{Rule, uses, fits, admits, ConstraintObeys}
use Rattle.lois_constraint.proofs.pruning.meet.Goals as goal

-- a: one constraint; b: the other one
module _ (a b : List (List Lit)) where
  abbrev Obeyed : List (List Lit) → Type 0
  Obeyed r = (rule : Rule) → ConstraintObeys rule a → ConstraintObeys rule b → ConstraintObeys rule r

pub returns-clause-levels : goal.returns-clause-levels
returns-clause-levels c =
    let a : List (List Lit) = c.args.a.now in
    let b : List (List Lit) = c.args.b.now in
    IfOk-weaker c.meet_pruned.result (Obeyed a b) (UsesOnly (a ++ b)) (λ r h. h (uses (a ++ b)) (uses_only-append_left a b a (uses_only-refl a)) (uses_only-append_right a b b (uses_only-refl b))) c.meet_pruned.ensures.rules

pub returns-clause-fits : goal.returns-clause-fits
returns-clause-fits c =
    let a : List (List Lit) = c.args.a.now in
    let b : List (List Lit) = c.args.b.now in
    IfOk-weaker c.meet_pruned.result (Obeyed a b)
    (λ (r : List (List Lit)). (n : ℕ) → ConstraintFits n a → ConstraintFits n b → ConstraintFits n r)
    (λ r h n. h (fits n)) c.meet_pruned.ensures.rules

pub returns-clause-operators : goal.returns-clause-operators
returns-clause-operators c =
    let a : List (List Lit) = c.args.a.now in
    let b : List (List Lit) = c.args.b.now in
    IfOk-weaker c.meet_pruned.result (Obeyed a b)
    (λ (r : List (List Lit)). (o : Bool) → AdmitsConstraint o a → AdmitsConstraint o b → AdmitsConstraint o r)
    (λ r h o. h (admits o)) c.meet_pruned.ensures.rules
