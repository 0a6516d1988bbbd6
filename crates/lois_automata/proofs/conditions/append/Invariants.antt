use Rattle.std.proofs.Common.{◌≡◌, ◌++◌}
use Rattle.lois_automata.proofs.conditions.append.Given as goal

abbrev pub invariant-loop-cube : goal.invariant-loop-cube
invariant-loop-cube l = l.cubes ≡ l.initial.cubes ++ l.yielded
