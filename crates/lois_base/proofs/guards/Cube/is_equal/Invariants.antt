use Rattle.std.proofs.Common.{◌≡◌, ◌↔◌, drop}
use Rattle.lois_base.proofs.guards.Cube.is_equal.Given as goal

abbrev pub invariant-loop-i : goal.invariant-loop-i
invariant-loop-i l = (l.self ≡ l.other) ↔ (drop l.i l.literals ≡ drop l.i l.others)
