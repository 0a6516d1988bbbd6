-- A reader or a writer of std, as contracts see its adapter.
use Rattle.std.specs.Prelude.{ℕ}

-- the reader or writer, and how many of its calls have failed
pub record Counted (X : Type 0) : Type 0 where
  pub inner : X
  pub faults : ℕ
