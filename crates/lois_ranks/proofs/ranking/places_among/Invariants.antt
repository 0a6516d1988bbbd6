use Rattle.std.proofs.Common.{take}
use Rattle.lois_ranks.specs.Numberings.{ArePlaces}
use Rattle.lois_ranks.proofs.ranking.places_among.Given as goal

abbrev pub invariant-loop-number : goal.invariant-loop-number
invariant-loop-number l = ArePlaces l.values (take l.number-index l.sample) l.places
