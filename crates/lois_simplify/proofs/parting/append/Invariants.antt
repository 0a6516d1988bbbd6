use Rattle.std.proofs.Common.{◌≡◌, ◌++◌}
use Rattle.lois_simplify.proofs.parting.append.Given as goal

abbrev pub invariant-loop-cube : goal.invariant-loop-cube
invariant-loop-cube l = l.constraint ≡ l.initial.constraint ++ l.yielded
