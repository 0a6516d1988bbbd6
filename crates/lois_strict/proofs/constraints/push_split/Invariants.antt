use Rattle.std.proofs.Common.{◌≡◌, ◌++◌}
use Rattle.lois_strict.proofs.constraints.push_split.Given as goal

abbrev pub invariant-loop-part : goal.invariant-loop-part
invariant-loop-part l = l.split ≡ l.initial.split ++ l.yielded
