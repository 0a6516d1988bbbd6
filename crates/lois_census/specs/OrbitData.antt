-- Orbits as contracts see them.
use Rattle.std.specs.Prelude.{List, ℕ}
use Rattle.lois_base.specs.Data.{TermD}

-- the orbit of the term's value at the choice of these whole numbers
pub record OrbitD : Type 0 where
  pub item : TermD
  pub sample : List ℕ
