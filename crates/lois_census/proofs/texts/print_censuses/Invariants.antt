use Rattle.std.proofs.Common.{◌≡◌, take}
use Rattle.std.specs.List.{flat_map}
use Rattle.lois_census.specs.CensusText.{census_text}
use Rattle.lois_census.specs.CensusView.{entry_of}
use Rattle.lois_census.proofs.texts.print_censuses.Given as goal

abbrev pub invariant-loop-census : goal.invariant-loop-census
invariant-loop-census l =
    l.text.items ≡ flat_map (λ x. census_text (entry_of x)) (take l.census-index l.census-items)
