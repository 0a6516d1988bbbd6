-- Comprehensions that are joined, which changes a value nowhere.
use Rattle.std.specs.Prelude.{◌≡◌, ℕ, List, [], ◌∷◌, slice_get, Some}
use Rattle.lois_base.specs.Data.{TermD, CompD, comp}
use Rattle.lois_base.specs.declared.guards.Lit.{Lit}
use Rattle.lois_simplify.specs.Simplification.{IsSimplification}

-- r stands for t at all choices of atoms
pub record IsKept (t r : TermD) : Type 0 where
  pub everywhere : (n : ℕ) → IsSimplification ([] ∷ []) n t r

-- the comprehension at p has the binders and the item of this one
abbrev pub HasSameItemAt : CompD → List CompD → ℕ → Type 0
HasSameItemAt (comp m d t) ks p = (g : List (List Lit)) × (slice_get ks p ≡ Some (comp m g t))
