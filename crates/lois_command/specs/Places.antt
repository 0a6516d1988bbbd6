-- The place of an offset, as a line and a column.
use Rattle.std.specs.Prelude.{◌≡◌, ℕ, ◌+◌, ◌==◌, List, take, not, count_by}
use Rattle.std.specs.List.{suffix_len}
use Rattle.lois_lexer.specs.declared.Place.{Place}

-- the line is one more than the LFs (10) before the offset, and the column one more than the bytes since the last of them
pub record IsPlaceOf (text : List ℕ) (offset : ℕ) (place : Place) : Type 0 where
  pub line : place.line ≡ 1 + count_by (λ b. b == 10) (take offset text)
  pub column : place.column ≡ 1 + suffix_len (λ b. not (b == 10)) (take offset text)
