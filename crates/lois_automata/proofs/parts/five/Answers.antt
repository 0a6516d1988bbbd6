use Rattle.std.proofs.Common.{ap, subst, arith}
use Rattle.lois_base.specs.Tree.{tree}
use Rattle.lois_automata.specs.Machines.{IsAutomatonAt}
use Rattle.lois_automata.proofs.Written.{not_five}
use Rattle.lois_automata.proofs.parts.five.Goals as goal

pub returns-then-parts-ne5-clause-none : goal.returns-then-parts-ne5-clause-none
returns-then-parts-ne5-clause-none c d h =
    not_five c.as_slice-parts.result.now c.in-Tup.parts d c.as_slice-parts.ensures (λ e. absurd (omega (arith, c.if-parts-ne5.true, e))) (subst (λ z. IsAutomatonAt z d) (ap tree c.in-Tup.is) h)
