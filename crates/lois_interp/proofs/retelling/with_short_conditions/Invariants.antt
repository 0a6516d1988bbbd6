use Rattle.std.specs.List.{AllZip}
use Rattle.lois_interp.specs.Retold.{HasConditionLike}
use Rattle.lois_interp.proofs.retelling.with_short_conditions.Given as goal

abbrev pub invariant-loop-context : goal.invariant-loop-context
invariant-loop-context l = AllZip HasConditionLike l.yielded l.short.items
