use Rattle.std.proofs.Common.{◌≡◌, ◌↔◌, drop}
use Rattle.lois_same.proofs.comparing.are_equal.Given as goal

abbrev pub invariant-loop-i : goal.invariant-loop-i
invariant-loop-i l = (l.names ≡ l.others) ↔ (drop l.i l.ours ≡ drop l.i l.theirs)
