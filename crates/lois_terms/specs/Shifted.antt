-- The same value among more levels.
use Rattle.std.specs.Prelude.{◌≡◌, ℕ, ◌+◌, ◌<◌, ◌≤◌, ◌^◌, List, ◌++◌, length}
use Rattle.lois_base.specs.Atom.{Atom}
use Rattle.lois_base.specs.Data.{TermD}
use Rattle.lois_base.specs.Fits.{Fits}
use Rattle.lois_base.specs.Truth.{holds}
use Rattle.lois_base.specs.Values.{point, IsSame}
use Rattle.lois_base.specs.declared.guards.Lit.{Lit}

-- for some number n of levels, of at least `from`, the term fits n and n + by
abbrev pub CanShift : ℕ → ℕ → TermD → Type 0
CanShift from by t = (n : ℕ) × (from ≤ n) × (n + by < 2 ^ 64) × Fits n t × Fits (n + by) t

-- where `by` atoms are put in after the first `from`, r has the value that t has without them
abbrev pub IsShifted : ℕ → ℕ → TermD → TermD → Type 0
IsShifted from by t r =
    (a x d : List Atom) → length a ≡ from → length x ≡ by → IsSame (point r (a ++ (x ++ d))) (point t (a ++ d))

-- Atoms for the binders follow a choice of `size` atoms in g and t, and a choice of `at` atoms, which begins with these, in h
-- and r. Then h holds exactly where g does, and r has the value of t.
abbrev pub IsPlacedGuard : ℕ → ℕ → List (List Lit) → List (List Lit) → Type 0
IsPlacedGuard size at g h =
    (a x e : List Atom) → length a ≡ size → length (a ++ x) ≡ at → holds ((a ++ x) ++ e) h ≡ holds (a ++ e) g

abbrev pub IsPlacedItem : ℕ → ℕ → TermD → TermD → Type 0
IsPlacedItem size at t r =
    (a x e : List Atom) → length a ≡ size → length (a ++ x) ≡ at → IsSame (point r ((a ++ x) ++ e)) (point t (a ++ e))
