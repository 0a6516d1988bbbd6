-- The values that lines have at a choice of atoms.
use Rattle.std.specs.Prelude.{List, map}
use Rattle.lois_base.specs.Atom.{Atom}
use Rattle.lois_base.specs.Values.{point}
use Rattle.lois_answers.specs.ResultsData.{LineD}
use Rattle.lois_meaning.specs.Store.{NamedValue, NamedValues, named}

-- the values of lines at a choice
abbrev pub line_value : List Atom → LineD → NamedValue
line_value c l = named l.name (point l.term c)

abbrev pub line_values : List Atom → List LineD → NamedValues
line_values c = map (line_value c)
