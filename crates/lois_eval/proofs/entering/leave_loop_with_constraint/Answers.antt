use Rattle.std.proofs.Common.{◌≡◌, List, not, sym, ap, subst, ◌∙◌}
use Rattle.std.specs.Prelude.{IsOkAnd, if◌then◌else◌}
use Rattle.lois_base.specs.Atom.{Atom}
use Rattle.lois_base.specs.Fits.{ConstraintFits}
use Rattle.lois_base.specs.Truth.{holds}
use Rattle.lois_eval.proofs.entering.leave_loop_with_constraint.Goals as goal

pub returns-in_ok-negate-in-Ok-clause-truth : goal.returns-in_ok-negate-in-Ok-clause-truth
returns-in_ok-negate-in-Ok-clause-truth c =
    subst (λ z. IsOkAnd z (λ g. (d : List Atom) → holds d c.in_ok-negate-in-Ok.field-0 ≡ (if c.args.some then holds d g else not (holds d g)))) (sym c.in-Ok.is)
    (λ d. c.in_ok-negate-in-Ok.ensures.truth d ∙ ap (λ b. if b then holds d c.in-Ok.found else not (holds d c.in-Ok.found)) (sym c.if-some.false))

pub returns-in_ok-negate-in-Ok-clause-levels : goal.returns-in_ok-negate-in-Ok-clause-levels
returns-in_ok-negate-in-Ok-clause-levels c =
    subst (λ z. IsOkAnd z (λ g. ConstraintFits c.args.size g → ConstraintFits c.args.size c.in_ok-negate-in-Ok.field-0)) (sym c.in-Ok.is) (λ f. c.in_ok-negate-in-Ok.ensures.fits c.args.size f)
