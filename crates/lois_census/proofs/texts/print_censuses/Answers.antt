use Rattle.std.proofs.Common.{[]}
use Rattle.std.specs.List.{All}
use Rattle.lois_printer.proofs.Fitting.{holds_of_each}
use Rattle.lois_printer.proofs.Written.{pieces_are_written}
use Rattle.lois_census.specs.CensusText.{census_text}
use Rattle.lois_census.specs.CensusView.{entry_of}
use Rattle.lois_census.specs.Orbits.{FitsSample}
use Rattle.lois_census.proofs.texts.print_censuses.Goals as goal

pub append_census-requires : goal.append_census-requires
append_census-requires c =
    holds_of_each (λ e. All FitsSample e.orbits) entry_of _ _ _ _ c.as_slice-census-items.ensures.items c.loop-census-test.true c.census-item.is c.requires

pub returns : goal.returns
returns c =
    pieces_are_written census_text entry_of _ _ _ [] _ c.as_slice-census-items.ensures.items c.loop-census-test.false c.loop-census.invariant
