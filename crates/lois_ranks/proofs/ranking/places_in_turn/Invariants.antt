use Rattle.std.proofs.Common.{take}
use Rattle.lois_ranks.specs.Numberings.{IsNumbering}
use Rattle.lois_ranks.proofs.ranking.places_in_turn.Given as goal

abbrev pub invariant-loop-number : goal.invariant-loop-number
invariant-loop-number l = IsNumbering (take l.number-index l.sample) l.values.items l.places
