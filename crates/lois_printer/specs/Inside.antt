-- Lines and cases whose terms are inside n levels.
use Rattle.std.specs.Prelude.{ℕ}
use Rattle.std.specs.List.{All}
use Rattle.lois_base.specs.Fits.{Fits}
use Rattle.lois_answers.specs.ResultsData.{LineD, CaseD}

abbrev pub LineFits : ℕ → LineD → Type 0
LineFits n l = Fits n l.term

abbrev pub CaseFits : ℕ → CaseD → Type 0
CaseFits n c = All (LineFits n) c.lines
