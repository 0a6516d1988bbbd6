-- A list that has one item more, unless it has it already.
use Rattle.std.specs.Prelude.{◌≡◌, List, Contains, ◌⊎◌}

pub record KeepsOnce {Y : Type 0} (y : Y) (before after : List Y) : Type 0 where
  pub kept : (z : Y) → Contains before z → Contains after z
  pub there : Contains after y
  pub only : (z : Y) → Contains after z → Contains before z ⊎ (y ≡ z)
