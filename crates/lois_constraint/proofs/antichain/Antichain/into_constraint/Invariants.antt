use Rattle.std.proofs.Common.{◌≡◌}
use Rattle.lois_constraint.proofs.antichain.Antichain.into_constraint.Given as goal

abbrev pub invariant-loop-cube : goal.invariant-loop-cube
invariant-loop-cube l = l.c ≡ l.yielded
