use Rattle.std.proofs.Common.{not, ◌&&◌, sym, ap, ◌∙◌, subst}
use Rattle.lois_base.specs.Truth.{holds}
use Rattle.lois_constraint.specs.Rules.{fits, ConstraintObeys}
use Rattle.lois_constraint.proofs.negation.and_not_partly.Goals as goal

pub returns-clause-part : goal.returns-clause-part
returns-clause-part c =
    λ e h. ap (λ p. p && not (holds e c.args.c.now)) (sym (c.in_ok-of.ensures.truth e)) ∙ c.in_ok-left.ensures.part e (ap (holds e) (sym c.in_ok-into_constraint.ensures.same) ∙ h)

pub returns-clause-whole : goal.returns-clause-whole
returns-clause-whole c =
    λ w e. ap (holds e) c.in_ok-into_constraint.ensures.same ∙ c.in_ok-left.ensures.whole w e ∙ ap (λ p. p && not (holds e c.args.c.now)) (c.in_ok-of.ensures.truth e)

pub returns-clause-fits : goal.returns-clause-fits
returns-clause-fits c =
    λ n h k. subst (ConstraintObeys (fits n)) (sym c.in_ok-into_constraint.ensures.same) (c.in_ok-left.ensures.rules (fits n) tt (c.in_ok-of.ensures.rules (fits n) h) k)
