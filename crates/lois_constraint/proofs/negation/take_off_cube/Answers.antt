use Rattle.std.proofs.Common.{◌&&◌, sym, ap, ◌∙◌, subst}
use Rattle.lois_base.specs.Truth.{holds}
use Rattle.lois_constraint.specs.Rules.{ConstraintObeys}
use Rattle.lois_constraint.proofs.NegatedLiterals.{denials_hold, denials_obey}
use Rattle.lois_constraint.proofs.negation.take_off_cube.Goals as goal

pub returns-clause-truth : goal.returns-clause-truth
returns-clause-truth c =
    λ e. c.in_ok-meet.ensures.truth e ∙ ap (λ p. holds e c.args.antichain && p) (ap (holds e) c.in_ok-refused.ensures ∙ denials_hold e c.args.cube.now)

pub returns-clause-rules : goal.returns-clause-rules
returns-clause-rules c =
    λ rule d h k. c.in_ok-meet.ensures.rules rule h (subst (ConstraintObeys rule) (sym c.in_ok-refused.ensures) (denials_obey rule d c.args.cube.now k))
