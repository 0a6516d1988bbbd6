use Rattle.std.proofs.Common.{◌≡◌, ◌-◌, ◌≤◌, ◌++◌}
use Rattle.lois_relate.specs.Named.{level_range}
use Rattle.lois_relate.proofs.naming.extend_names.Given as goal

abbrev pub invariant-loop-level : goal.invariant-loop-level
invariant-loop-level l = (l.size ≤ l.level) × (l.longer.items ≡ l.names ++ level_range l.size (l.level - l.size))
