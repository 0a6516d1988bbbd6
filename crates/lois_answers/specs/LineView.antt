-- What a line says, as data.
use Rattle.lois_base.specs.Tree.{tree}
use Rattle.lois_answers.specs.ResultsData.{LineD}
use Rattle.lois_answers.specs.declared.results.Line.{Line}

abbrev pub line_of : Line → LineD
line_of l = record { name = l.name; term = tree l.term }
