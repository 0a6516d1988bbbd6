-- The two parts of a literal with `<=`.
use Rattle.std.specs.Prelude.{ℕ, Bool, ◌||◌, List}
use Rattle.lois_base.specs.Atom.{Atom}
use Rattle.lois_base.specs.Truth.{lit_holds}
use Rattle.lois_base.specs.declared.guards.Lit.{Lit}
use Rattle.lois_base.specs.declared.guards.Op.TheVariants.{Eq, Ne, Lt}

abbrev pub with_less : Lit → Lit
with_less l = record { op = Lt; left = l.left; right = l.right }

abbrev pub with_equal : Lit → Lit
with_equal l = record { op = Eq; left = l.left; right = l.right }

abbrev pub difference : ℕ → ℕ → Lit
difference x y = record { op = Ne; left = x; right = y }

-- one of the two parts holds
abbrev pub a_part_holds : List Atom → Lit → Bool
a_part_holds e l = lit_holds e (with_less l) || lit_holds e (with_equal l)
