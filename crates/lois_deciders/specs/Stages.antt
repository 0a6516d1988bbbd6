-- Constraints with one level less from each to the next.
use Rattle.std.specs.Prelude.{◌≡◌, ℕ, ◌+◌, ◌-◌, ◌<◌, ◌≤◌, List, [], length, get_or}
use Rattle.lois_base.specs.Bound.{HoldsForSome}
use Rattle.lois_base.specs.Fits.{ConstraintFits}
use Rattle.lois_base.specs.declared.guards.Lit.{Lit}

-- g over n levels, and `done` constraints after it, each without the last level of the one before
pub record AreStages (n : ℕ) (g : List (List Lit)) (done : ℕ) (stages : List (List (List Lit))) : Type 0 where
  pub count : length stages ≡ done + 1
  pub first : get_or stages 0 [] ≡ g
  pub levels : (k : ℕ) → k ≤ done → ConstraintFits (n - k) (get_or stages k [])
  pub steps : (k : ℕ) → k < done → HoldsForSome (n - k - 1) (get_or stages k []) (get_or stages (k + 1) [])
