use Rattle.std.proofs.Common.{arith, sym, subst}
use Rattle.std.proofs.lemmas.Bool.{false≢true}
use Rattle.lois_automata.proofs.Families.{not_blank}
use Rattle.lois_automata.specs.Built.{IsEmptyFamily}
use Rattle.lois_automata.proofs.joining.is_empty_family.Goals as goal

pub returns-then-len-gt0 : goal.returns-then-len-gt0
returns-then-len-gt0 c = (
  λ h. absurd (false≢true h),
  λ h. absurd (not_blank c.as_slice-member-items.result.now c.loop-member.member-index c.member-item.result c.loop-member-test.true c.member-item.is (omega arith) (subst IsEmptyFamily (sym c.as_slice-member-items.ensures.items) h)),
)
