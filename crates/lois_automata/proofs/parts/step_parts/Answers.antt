use Rattle.std.proofs.Common.{ap, sym, ◌∙◌, arith}
use Rattle.lois_base.specs.Tree.{tree}
use Rattle.lois_automata.proofs.Written.{not_three, three_parts}
use Rattle.lois_automata.proofs.parts.step_parts.Goals as goal

pub returns-then-parts-ne3-clause-none : goal.returns-then-parts-ne3-clause-none
returns-then-parts-ne3-clause-none c p l q e =
    not_three c.as_slice-parts.result.now c.in-Tup.parts p l q c.as_slice-parts.ensures (λ h. absurd (omega (arith, c.if-parts-ne3.true, h))) (sym (ap tree c.in-Tup.is) ∙ e)

pub returns-clause-some : goal.returns-clause-some
returns-clause-some c =
    ap tree c.in-Tup.is ∙ three_parts c.as_slice-parts.result.now c.in-Tup.parts c.index-parts-0.result c.index-parts-1.result c.index-parts-2.result c.as_slice-parts.ensures (omega (arith, c.if-parts-ne3.false)) c.index-parts-0.is c.index-parts-1.is c.index-parts-2.is
