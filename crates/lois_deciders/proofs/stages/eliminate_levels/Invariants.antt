use Rattle.std.proofs.Common.{[], ◌∷◌}
use Rattle.lois_deciders.specs.Stages.{AreStages}
use Rattle.lois_deciders.proofs.stages.eliminate_levels.Given as goal

abbrev pub invariant-loop-done : goal.invariant-loop-done
invariant-loop-done l = AreStages l.size (l.cube ∷ []) l.done l.stages.items
