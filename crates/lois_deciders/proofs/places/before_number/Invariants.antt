use Rattle.std.proofs.Common.{◌≡◌, map, take}
use Rattle.lois_deciders.specs.Places.{raised_from}
use Rattle.lois_deciders.proofs.places.before_number.Given as goal

abbrev pub invariant-loop-other : goal.invariant-loop-other
invariant-loop-other l = l.longer.items ≡ map (raised_from l.number) (take l.other-index l.sample)
