use Rattle.std.proofs.Common.{◌≡◌, ◌∷◌, take, map}
use Rattle.lois_base.specs.Data.{tag}
use Rattle.lois_registers.specs.Placed.{content_term}
use Rattle.lois_registers.proofs.placements.configuration.Given as goal

abbrev pub invariant-loop-level : goal.invariant-loop-level
invariant-loop-level l = l.parts ≡ tag l.state ∷ map content_term (take l.level-index l.contents)
