-- Words whose letters have no `<=`, of the same values.
use Rattle.std.specs.Prelude.{◌≡◌, ℕ, ◌≤◌, Bool, List, length, Option, Some, None}
use Rattle.std.specs.List.{All}
use Rattle.lois_base.specs.Atom.{Atom}
use Rattle.lois_base.specs.Data.{TermD, depth}
use Rattle.lois_base.specs.Fits.{Fits}
use Rattle.lois_base.specs.Validity.{AdmitsTerm, HasBoundedWidths, IsStrictTerm}
use Rattle.lois_base.specs.Values.{point, IsSame}
use Rattle.lois_shortest_word.specs.Shortened.{IsShortenedWord}
use Rattle.lois_shortest_word.specs.Words.{AreUsedBetween}
use Rattle.lois_shortest_word.specs.declared.words.Word.{Word}

-- each letter of r is the same value as that of w and has no `<=`; each further number is for a level that stands in one
pub record IsSplitWord (n : ℕ) (w r : Word) : Type 0 where
  pub short : IsShortenedWord n w r
  pub used : AreUsedBetween n (length r.sample) r.letters
  pub strict : All IsStrictTerm r.letters

-- ---- what private contracts say
abbrev pub IsSplitOrNone : ℕ → Option Word → Option Word → Type 0
IsSplitOrNone n None None = Unit {0}
IsSplitOrNone n (Some w) (Some r) = IsSplitWord n w r
IsSplitOrNone n _ _ = ⊥

-- the letters fit the sample, which has n numbers at least
abbrev pub MaySplit : ℕ → Word → Type 0
MaySplit n w = (n ≤ length w.sample) × All (Fits (length w.sample)) w.letters

-- s has no `<=` and is the same value as t at each choice, in the same bounds
pub record IsSplitLetter (t s : TermD) : Type 0 where
  pub value : (c : List Atom) → IsSame (point t c) (point s c)
  pub strict : IsStrictTerm s
  pub levels : (n : ℕ) → Fits n t → Fits n s
  pub operators : (o : Bool) → AdmitsTerm o t → AdmitsTerm o s
  pub widths : HasBoundedWidths t → HasBoundedWidths s
  pub depths : depth s ≡ depth t
