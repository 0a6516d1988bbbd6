-- What a simplified term keeps of the term that it stands for.
use Rattle.std.specs.Prelude.{◌≡◌, ℕ, ◌≤◌, Bool, List, length, IsTrue}
use Rattle.lois_base.specs.Atom.{Atom}
use Rattle.lois_base.specs.Data.{TermD, coll, CompD, comps_of, depth}
use Rattle.lois_base.specs.Fits.{Fits}
use Rattle.lois_base.specs.Truth.{holds}
use Rattle.lois_base.specs.Validity.{AdmitsTerm, HasBoundedWidths}
use Rattle.lois_base.specs.Values.{point, IsSame}
use Rattle.lois_base.specs.declared.guards.Lit.{Lit}

-- the same value at each choice of n atoms at which u holds
abbrev pub IsSameWhere : List (List Lit) → ℕ → TermD → TermD → Type 0
IsSameWhere u n t r = (c : List Atom) → length c ≡ n → IsTrue (holds c u) → IsSame (point t c) (point r c)

-- r stands for t where u holds, inside n levels
pub record IsSimplification (u : List (List Lit)) (n : ℕ) (t r : TermD) : Type 0 where
  pub value : IsSameWhere u n t r
  pub levels : Fits n t → Fits n r
  pub operators : (ordered : Bool) → AdmitsTerm ordered t → AdmitsTerm ordered r
  pub widths : HasBoundedWidths t → HasBoundedWidths r
  pub depth : depth r ≤ depth t

-- the set with these comprehensions
abbrev pub set_of : List CompD → TermD
set_of cs = coll (comps_of cs)
