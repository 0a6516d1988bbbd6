use Rattle.std.proofs.Common.{◌-◌, [], get_or}
use Rattle.lois_deciders.specs.Satisfaction.{IsConstraintSample}
use Rattle.lois_deciders.proofs.plain.sample.Given as goal

abbrev pub invariant-loop-level : goal.invariant-loop-level
invariant-loop-level l = IsConstraintSample l.level (get_or l.stages.items (l.size - l.level) []) l.sample.items
