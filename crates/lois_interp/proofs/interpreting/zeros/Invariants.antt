use Rattle.std.proofs.Common.{◌≡◌, length}
use Rattle.lois_interp.proofs.interpreting.zeros.Given as goal

abbrev pub invariant-loop-place : goal.invariant-loop-place
invariant-loop-place l = length l.numbers ≡ l._place
