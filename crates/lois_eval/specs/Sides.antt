-- The two sides of a comparison, with their values.
use Rattle.std.specs.Prelude.{List, [], ◌∷◌}
use Rattle.lois_base.specs.Data.{TermD}
use Rattle.lois_base.specs.Tree.{tree}
use Rattle.lois_eval.specs.declared.forms.Sides.{Sides}

abbrev pub sides_listed : Sides → List TermD
sides_listed s = tree s.left ∷ tree s.right ∷ []
