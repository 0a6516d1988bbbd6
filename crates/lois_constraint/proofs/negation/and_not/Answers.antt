use Rattle.std.proofs.Common.{not, ◌++◌, ◌&&◌, ap, ◌∙◌}
use Rattle.lois_base.proofs.Validity.{uses_only-refl, uses_only-append_left, uses_only-append_right}
use Rattle.lois_base.specs.Truth.{holds}
use Rattle.lois_constraint.specs.Rules.{Rule, IsKeptByDenial, uses, fits, admits, ConstraintObeys}
use Rattle.lois_constraint.proofs.Uses.{same_answer}
use Rattle.lois_constraint.proofs.negation.and_not.Goals as goal

pub returns-clause-truth : goal.returns-clause-truth
returns-clause-truth c =
    same_answer c.into_constraint.result c.in_ok-rest.rest _ c.into_constraint.ensures.same (λ e. c.in_ok-rest.ensures.truth e ∙ ap (λ p. p && not (holds e c.args.c.now)) (c.in_ok-of.ensures.truth e))

pub returns-clause-levels : goal.returns-clause-levels
returns-clause-levels c =
    let obeys : (rule : Rule) → IsKeptByDenial rule → ConstraintObeys rule c.args.a.now → ConstraintObeys rule c.args.c.now → ConstraintObeys rule c.in_ok-rest.rest = λ rule d h k. c.in_ok-rest.ensures.rules rule d (c.in_ok-of.ensures.rules rule h) k in
    same_answer c.into_constraint.result c.in_ok-rest.rest _ c.into_constraint.ensures.same (obeys (uses (c.args.a.now ++ c.args.c.now)) tt (uses_only-append_left c.args.a.now c.args.c.now c.args.a.now (uses_only-refl c.args.a.now)) (uses_only-append_right c.args.a.now c.args.c.now c.args.c.now (uses_only-refl c.args.c.now)))

pub returns-clause-fits : goal.returns-clause-fits
returns-clause-fits c =
    let obeys : (rule : Rule) → IsKeptByDenial rule → ConstraintObeys rule c.args.a.now → ConstraintObeys rule c.args.c.now → ConstraintObeys rule c.in_ok-rest.rest = λ rule d h k. c.in_ok-rest.ensures.rules rule d (c.in_ok-of.ensures.rules rule h) k in
    same_answer c.into_constraint.result c.in_ok-rest.rest _ c.into_constraint.ensures.same (λ n. obeys (fits n) tt)

pub returns-clause-operators : goal.returns-clause-operators
returns-clause-operators c =
    let obeys : (rule : Rule) → IsKeptByDenial rule → ConstraintObeys rule c.args.a.now → ConstraintObeys rule c.args.c.now → ConstraintObeys rule c.in_ok-rest.rest = λ rule d h k. c.in_ok-rest.ensures.rules rule d (c.in_ok-of.ensures.rules rule h) k in
    same_answer c.into_constraint.result c.in_ok-rest.rest _ c.into_constraint.ensures.same (λ o. obeys (admits o) tt)
