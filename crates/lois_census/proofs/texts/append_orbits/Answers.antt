use Rattle.lois_printer.proofs.Fitting.{holds_of_each}
use Rattle.lois_printer.proofs.Written.{piece_is_written, pieces_are_written}
use Rattle.lois_census.specs.CensusText.{orbit_text}
use Rattle.lois_census.specs.OrbitView.{orbit_of}
use Rattle.lois_census.specs.Orbits.{FitsSample}
use Rattle.lois_census.proofs.texts.append_orbits.Goals as goal

pub append_orbit-requires : goal.append_orbit-requires
append_orbit-requires c =
    holds_of_each FitsSample orbit_of _ _ _ _ c.as_slice-orbit-items.ensures.items c.loop-orbit-test.true c.orbit-item.is c.requires

pub loop-orbit-preserved : goal.loop-orbit-preserved
loop-orbit-preserved c =
    piece_is_written (λ x. orbit_text (orbit_of x)) _ _ _ _ _ _ _ c.loop-orbit-test.true c.orbit-item.is c.loop-orbit.invariant c.in_ok-append_orbit.ensures

pub returns : goal.returns
returns c =
    pieces_are_written orbit_text orbit_of _ _ _ _ _ c.as_slice-orbit-items.ensures.items c.loop-orbit-test.false c.loop-orbit.invariant
