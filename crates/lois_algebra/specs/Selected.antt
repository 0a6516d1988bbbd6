-- The members of one set that are, or aren't, in another.
use Rattle.std.specs.Prelude.{◌≡◌, ℕ, Bool, true, false, List, ◌++◌, length, IsTrue, ◌↔◌}
use Rattle.lois_base.specs.Atom.{Atom}
use Rattle.lois_base.specs.Data.{TermD}
use Rattle.lois_base.specs.Truth.{holds}
use Rattle.lois_base.specs.Values.{PointValue, point, IsIn}
use Rattle.lois_base.specs.declared.guards.Lit.{Lit}

-- the fact where it is wanted, and its negation where it isn't
abbrev pub HasTruthValue : Bool → Type 0 → Type 0
HasTruthValue true P = P
HasTruthValue false P = P → ⊥

-- at each choice of n atoms r has exactly the members of s whose being in t is wanted
abbrev pub IsSelection : ℕ → Bool → TermD → TermD → TermD → Type 0
IsSelection n wanted s t r =
    (c : List Atom) → length c ≡ n → (w : PointValue) → IsIn w (point r c) ↔ (IsIn w (point s c) × HasTruthValue wanted (IsIn w (point t c)))

-- r holds where g does and the truth of q is wanted
abbrev pub IsSelectedPart : Bool → List (List Lit) → List (List Lit) → List (List Lit) → Type 0
IsSelectedPart wanted g q r =
    (d : List Atom) → IsTrue (holds d r) ↔ (IsTrue (holds d g) × HasTruthValue wanted (IsTrue (holds d q)))

-- h holds where g does and the item's being in t, whose levels are the first n, is wanted
abbrev pub IsSelectedGuard : ℕ → ℕ → Bool → List (List Lit) → TermD → TermD → List (List Lit) → Type 0
IsSelectedGuard n m wanted g item t h =
    (c e : List Atom) → length c ≡ n → length e ≡ m → IsTrue (holds (c ++ e) h) ↔ (IsTrue (holds (c ++ e) g) × HasTruthValue wanted (IsIn (point item (c ++ e)) (point t c)))
