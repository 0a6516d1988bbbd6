-- Comprehensions of a set that have a value.
use Rattle.std.specs.Prelude.{◌≡◌, ℕ, Some, List, slice_get}
use Rattle.lois_base.specs.Atom.{Atom}
use Rattle.lois_base.specs.Data.{TermD, CompD}
use Rattle.lois_base.specs.Values.{OneIsAt}

-- at some two choices the comprehension at the place has the value of t
pub record HasValueAt (ks : List CompD) (t : TermD) (place : ℕ) : Type 0 where
  pub comprehension : CompD
  pub at : slice_get ks place ≡ Some comprehension
  pub own : List Atom
  pub other : List Atom
  pub same : OneIsAt comprehension own t other
