use Rattle.std.proofs.Common.{ap, sym, ◌∙◌, arith}
use Rattle.lois_base.specs.Tree.{tree}
use Rattle.lois_automata.proofs.Written.{not_three}
use Rattle.lois_automata.proofs.parts.into_step.Goals as goal

pub returns-then-len-ne3-clause-none : goal.returns-then-len-ne3-clause-none
returns-then-len-ne3-clause-none c p l q e =
    not_three c.into_vec-parts.result.items _ p l q c.into_vec-parts.ensures (λ h. absurd (omega (arith, c.if-len-ne3.true, c.len.ensures, h))) (sym (ap tree c.in-Tup.is) ∙ e)
