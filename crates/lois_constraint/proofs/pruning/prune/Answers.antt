use Rattle.lois_base.proofs.Validity.{uses_only-refl}
use Rattle.lois_constraint.specs.Rules.{uses, fits, admits, strict}
use Rattle.lois_constraint.proofs.Uses.{same_answer}
use Rattle.lois_constraint.proofs.pruning.prune.Goals as goal

pub returns-clause-levels : goal.returns-clause-levels
returns-clause-levels c =
    same_answer c.into_constraint.result c.in_ok-of.field-0 _ c.into_constraint.ensures.same (c.in_ok-of.ensures.rules (uses c.args.c.now) (uses_only-refl c.args.c.now))

pub returns-clause-fits : goal.returns-clause-fits
returns-clause-fits c =
    same_answer c.into_constraint.result c.in_ok-of.field-0 _ c.into_constraint.ensures.same (λ n. c.in_ok-of.ensures.rules (fits n))

pub returns-clause-operators : goal.returns-clause-operators
returns-clause-operators c =
    same_answer c.into_constraint.result c.in_ok-of.field-0 _ c.into_constraint.ensures.same (λ o. c.in_ok-of.ensures.rules (admits o))

pub returns-clause-strict : goal.returns-clause-strict
returns-clause-strict c =
    same_answer c.into_constraint.result c.in_ok-of.field-0 _ c.into_constraint.ensures.same (c.in_ok-of.ensures.rules strict)
