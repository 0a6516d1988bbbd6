-- The first of several deciders that is of a wanted kind.
use Rattle.std.specs.Prelude.{ℕ, ◌<◌, List, length, Option}
use Rattle.std.specs.List.{HoldsAt}
use Rattle.lois_base.specs.declared.deciding.Kind.{Kind}
use Rattle.lois_deciders.specs.Choice.{IsWanted, IsUnwanted}

-- the first place at which a wanted kind stands
pub record IsFirstWanted (kind : Option Kind) (kinds : List Kind) (at : ℕ) : Type 0 where
  pub place : at < length kinds
  pub wanted : HoldsAt (IsWanted kind) kinds at
  pub first : (i : ℕ) → i < at → HoldsAt (IsUnwanted kind) kinds i
