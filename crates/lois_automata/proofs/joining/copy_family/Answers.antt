use Rattle.std.proofs.Common.{arith, ◌∙◌}
use Rattle.lois_automata.proofs.Families.{copied_end}
use Rattle.lois_automata.proofs.joining.copy_family.Goals as goal

pub returns : goal.returns
returns c = copied_end c.as_slice-member-items.result.now c.loop-member.copied c.loop-member.member-index (omega (arith, c.loop-member-test.false)) c.loop-member.invariant ∙ c.as_slice-member-items.ensures.items
