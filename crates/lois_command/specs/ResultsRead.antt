-- What a text is that is to be results.
use Rattle.std.specs.Prelude.{ℕ, List}
use Rattle.lois_reader.specs.Refusal.{IsResultsOf}
use Rattle.lois_command.specs.declared.results.ResultsRead.{ResultsRead}
use Rattle.lois_command.specs.declared.results.ResultsRead.TheVariants.{Results as Read, NotResults as NotRead}
use Rattle.lois_command.specs.NoResults.{IsNoResults}

abbrev pub IsResultsRead : List ℕ → ResultsRead → Type 0
IsResultsRead text (Read r) = IsResultsOf text r
IsResultsRead text (NotRead place) = IsNoResults text place
