-- Levels of one term that are tied to levels of another, and the names that ties give to levels.
use Rattle.std.specs.Prelude.{◌≡◌, ℕ, ◌+◌, ◌<◌, List, ◌++◌, length, get_or, map, slice_index, IsTrue, ◌↔◌}
use Rattle.std.specs.List.{All}
use Rattle.lois_base.specs.Atom.{Atom, equal}
use Rattle.lois_base.specs.Data.{TermD, CompD}
use Rattle.lois_base.specs.Truth.{atom_at, holds}
use Rattle.lois_base.specs.Values.{IsExtension, OneIsAt}
use Rattle.lois_base.specs.declared.guards.Lit.{Lit}
use Rattle.lois_base.specs.declared.guards.Op.TheVariants.{Eq}
use Rattle.lois_relate.specs.Named.{named_lit}
use Rattle.lois_minimise.specs.declared.tying.Tie.{Tie}

-- the atoms at the two levels of each tie are equal
abbrev pub IsTied : List Atom → List Atom → Tie → Type 0
IsTied c d t = IsTrue (equal (atom_at c t.own) (atom_at d t.other))

abbrev pub AreTied : List Atom → List Atom → List Tie → Type 0
AreTied c d = All (IsTied c d)

-- the levels of the one term are below n, and those of the other below m
abbrev pub TiesFit : ℕ → ℕ → List Tie → Type 0
TiesFit n m = All (λ t. (t.own < n) × (t.other < m))

-- with those before, the ties say S of two choices; where F holds of two sizes their levels are below these
pub record AddsTies (S : List Atom → List Atom → Type 0) (F : ℕ → ℕ → Type 0) (before after : List Tie) : Type 0 where
  pub same : (c d : List Atom) → AreTied c d after ↔ (AreTied c d before × S c d)
  pub levels : (n m : ℕ) → F n m → TiesFit n m before → TiesFit n m after

-- Of n levels and further binders, x is the name of a level among the n, m more, and then the binders: the atom there is equal wherever
-- the ties hold.
pub record IsName (n m : ℕ) (ties : List Tie) (level x : ℕ) : Type 0 where
  pub below : (k : ℕ) → level < n + k → x < n + m + k
  pub own : level < n → x ≡ level
  pub tied : (c e d : List Atom) → length c ≡ n → length e ≡ m → level < n + length d → AreTied (c ++ d) (c ++ e) ties → IsTrue (equal (atom_at (c ++ d) level) (atom_at ((c ++ e) ++ d) x))

-- a name for each of n levels and k binders
pub record AreNames (n m k : ℕ) (ties : List Tie) (names : List ℕ) : Type 0 where
  pub count : length names ≡ n + k
  pub each : (i : ℕ) → i < n + k → IsName n m ties i (get_or names i 0)

-- the literal that the name of a level and the level that it is tied to have the same atom
abbrev pub tie_lit : List ℕ → Tie → Lit
tie_lit names t = record { op = Eq; left = slice_index names t.own; right = t.other }

abbrev pub named_constraint : List ℕ → List (List Lit) → List (List Lit)
named_constraint names = map (map (named_lit names))

-- with m further atoms, r holds exactly where the ties do with some binders that the guard admits
abbrev pub HoldsWhereTied : ℕ → ℕ → ℕ → List (List Lit) → List Tie → List (List Lit) → Type 0
HoldsWhereTied n m k g ties r =
    (c e : List Atom) → length c ≡ n → length e ≡ m → IsTrue (holds (c ++ e) r) ↔ ((d : List Atom) × IsExtension c k g d × AreTied (c ++ d) (c ++ e) ties)

-- with m further atoms, r holds exactly where the item is the value of a member of the comprehension, whose levels are the first n
abbrev pub HoldsWhereOne : ℕ → ℕ → TermD → CompD → List (List Lit) → Type 0
HoldsWhereOne n m item k r =
    (c e : List Atom) → length c ≡ n → length e ≡ m → IsTrue (holds (c ++ e) r) ↔ OneIsAt k c item (c ++ e)
