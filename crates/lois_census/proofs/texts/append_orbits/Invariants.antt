use Rattle.std.proofs.Common.{◌≡◌, ◌++◌, take}
use Rattle.std.specs.List.{flat_map}
use Rattle.lois_census.specs.CensusText.{orbit_text}
use Rattle.lois_census.specs.OrbitView.{orbit_of}
use Rattle.lois_census.proofs.texts.append_orbits.Given as goal

abbrev pub invariant-loop-orbit : goal.invariant-loop-orbit
invariant-loop-orbit l =
    l.text.items ≡ l.initial.text.items ++ flat_map (λ x. orbit_text (orbit_of x)) (take l.orbit-index l.orbit-items)
