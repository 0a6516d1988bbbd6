-- What a structure and a decider answer.
use Rattle.std.specs.Prelude.{◌≡◌, ℕ, ◌+◌, ◌-◌, ◌<◌, ◌^◌, min, List, [], ◌∷◌, ◌++◌, length, IsTrue, ◌↔◌}
use Rattle.std.specs.List.{All}
use Rattle.lois_base.specs.Atom.{Atom}
use Rattle.lois_base.specs.Truth.{cube_holds, holds, sampled}
use Rattle.lois_base.specs.declared.guards.Lit.{Lit}

-- at each choice of n atoms, r holds exactly where some atom at level n makes the cube hold
abbrev pub Eliminates : ℕ → List Lit → List (List Lit) → Type 0
Eliminates n cube r =
    (c : List Atom) → length c ≡ n → IsTrue (holds c r) ↔ ((a : Atom) × IsTrue (cube_holds (c ++ a ∷ []) cube))

-- the cube holds at some choice of n atoms
abbrev pub IsSatisfiable : ℕ → List Lit → Type 0
IsSatisfiable n cube = (c : List Atom) × (length c ≡ n) × IsTrue (cube_holds c cube)

-- a list of n numbers below n at which the cube holds
pub record IsSampleOf (n : ℕ) (cube : List Lit) (s : List ℕ) : Type 0 where
  pub count : length s ≡ n
  pub small : All (λ i. i < n) s
  pub met : IsTrue (cube_holds (sampled s) cube)

-- a count after one more, which stands at the greatest u64
abbrev pub risen : ℕ → ℕ
risen n = min (n + 1) (2 ^ 64 - 1)
