use Rattle.std.proofs.Common.{ap, sym, ◌∙◌, arith}
use Rattle.lois_base.specs.Tree.{tree}
use Rattle.lois_automata.proofs.Written.{not_two, two_parts}
use Rattle.lois_automata.proofs.parts.pair_parts.Goals as goal

pub returns-then-parts-ne2-clause-none : goal.returns-then-parts-ne2-clause-none
returns-then-parts-ne2-clause-none c a b e =
    not_two c.as_slice-parts.result.now c.in-Tup.parts a b c.as_slice-parts.ensures (λ h. absurd (omega (arith, c.if-parts-ne2.true, h))) (sym (ap tree c.in-Tup.is) ∙ e)

pub returns-clause-some : goal.returns-clause-some
returns-clause-some c =
    ap tree c.in-Tup.is ∙ two_parts c.as_slice-parts.result.now c.in-Tup.parts c.index-parts-0.result c.index-parts-1.result c.as_slice-parts.ensures (omega (arith, c.if-parts-ne2.false)) c.index-parts-0.is c.index-parts-1.is
