-- Formulas that say how the values of two terms stand to one another.
use Rattle.std.specs.Prelude.{◌≡◌, ℕ, List, ◌++◌, length, ◌↔◌}
use Rattle.lois_base.specs.Atom.{Atom}
use Rattle.lois_base.specs.Data.{TermD, CompsD}
use Rattle.lois_base.specs.FormulaData.{FormulaD}
use Rattle.lois_base.specs.FormulaTruth.{FormulaHolds}
use Rattle.lois_base.specs.Values.{point, IsSame, InAt, IsIn, IsIncluded}

-- at each choice of n atoms the formula holds exactly where s and t have the same value
abbrev pub HoldsWhereSame : ℕ → TermD → TermD → FormulaD → Type 0
HoldsWhereSame n s t f = (c : List Atom) → length c ≡ n → FormulaHolds c f ↔ IsSame (point s c) (point t c)

-- at each choice of n atoms the formula holds exactly where the value of s is in the set t
abbrev pub HoldsWhereIn : ℕ → TermD → TermD → FormulaD → Type 0
HoldsWhereIn n s t f = (c : List Atom) → length c ≡ n → FormulaHolds c f ↔ IsIn (point s c) (point t c)

-- at each choice of n atoms and m more the formula holds exactly where the value of t there is in the set ks at the first n
abbrev pub HoldsWhereItemIn : ℕ → ℕ → TermD → CompsD → FormulaD → Type 0
HoldsWhereItemIn n m t ks f =
    (c e : List Atom) → length c ≡ n → length e ≡ m → FormulaHolds (c ++ e) f ↔ InAt t (c ++ e) ks c

-- at each choice of n atoms the formula holds exactly where each member of the set s is in the set t
abbrev pub HoldsWhereIncluded : ℕ → TermD → TermD → FormulaD → Type 0
HoldsWhereIncluded n s t f =
    (c : List Atom) → length c ≡ n → FormulaHolds c f ↔ IsIncluded (point s c) (point t c)
