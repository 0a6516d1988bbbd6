-- What is answered about constraints.
use Rattle.std.specs.Prelude.{◌≡◌, ℕ, ◌<◌, List, length, IsTrue}
use Rattle.std.specs.List.{All}
use Rattle.lois_base.specs.Atom.{Atom}
use Rattle.lois_base.specs.Truth.{holds, sampled}
use Rattle.lois_base.specs.declared.guards.Lit.{Lit}

-- a list of n numbers below n
pub record IsSmall (n : ℕ) (s : List ℕ) : Type 0 where
  pub count : length s ≡ n
  pub small : All (λ i. i < n) s

-- n numbers below n at which the constraint holds
abbrev pub IsConstraintSample : ℕ → List (List Lit) → List ℕ → Type 0
IsConstraintSample n g s = IsSmall n s × IsTrue (holds (sampled s) g)

-- at n atoms, h holds wherever g does
abbrev pub IsEntailed : ℕ → List (List Lit) → List (List Lit) → Type 0
IsEntailed n g h = (c : List Atom) → length c ≡ n → IsTrue (holds c g) → IsTrue (holds c h)
