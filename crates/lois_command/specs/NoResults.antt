-- Texts that are no results, and where.
use Rattle.std.specs.Prelude.{ℕ, List, length}
use Rattle.lois_lexer.specs.declared.Place.{Place}
use Rattle.lois_reader.specs.Pieces.{Piece, results_pieces}
use Rattle.lois_reader.specs.Refusal.{NoValueHolds, IsResultsOf, IsOffsetInText, IsErrorPlace}
use Rattle.lois_reader.specs.Shape.{HasResultsShape, SpellsResults}
use Rattle.lois_reader.specs.declared.ResultError.TheVariants as results
use Rattle.lois_command.specs.Places.{IsPlaceOf}

-- Nothing of a kind has the text. It is refused at k: where it leaves the shape of all texts of the kind, or, where it is of that
-- shape, at the first side rule that it breaks.
pub record IsNoneAt {V D : Type 0} (Holds : V → Type 0) (Shape : List ℕ → Type 0) (SpelledBy : List ℕ → D → Type 0) (pieces : D → List Piece) (text : List ℕ) (k : ℕ) : Type 0 where
  pub none : NoValueHolds Holds (results.NotResults k)
  pub place : IsErrorPlace Shape SpelledBy pieces text (results.NotResults k)
  pub inside : IsOffsetInText (length text) (results.NotResults k)

-- no sound results
abbrev pub IsNoResultsAt : List ℕ → ℕ → Type 0
IsNoResultsAt text k = IsNoneAt (IsResultsOf text) HasResultsShape SpellsResults results_pieces text k

-- so at a line and a column
abbrev pub IsAtPlace : (List ℕ → ℕ → Type 0) → List ℕ → Place → Type 0
IsAtPlace At text place = (k : ℕ) × At text k × IsPlaceOf text k place

abbrev pub IsNoResults : List ℕ → Place → Type 0
IsNoResults = IsAtPlace IsNoResultsAt
