-- Words whose numbers are those of the levels that letters use.
use Rattle.std.specs.Prelude.{◌≡◌, ℕ, ◌-◌, ◌≤◌, Bool, List, length, map, take, nat_lt, if◌then◌else◌}
use Rattle.std.specs.List.{All, remove}
use Rattle.lois_base.specs.Atom.{Atom}
use Rattle.lois_base.specs.Data.{depth}
use Rattle.lois_base.specs.Fits.{Fits}
use Rattle.lois_base.specs.Patterns.{AreAlike}
use Rattle.lois_base.specs.Rename.{rename}
use Rattle.lois_base.specs.Truth.{sampled}
use Rattle.lois_base.specs.Validity.{AdmitsTerm, HasBoundedWidths, IsStrictTerm}
use Rattle.lois_meaning.specs.Kinds.{AreSame}
use Rattle.lois_shortest_word.specs.Words.{values_at, first_sampled}
use Rattle.lois_shortest_word.specs.declared.words.Word.{Word}

-- the levels above the one that is gone go one down
abbrev pub lowered : ℕ → ℕ → ℕ
lowered gone i = if (nat_lt gone i) then (i - 1) else i

-- r is the word without the level, which has no number either
pub record IsWithoutLevel (level : ℕ) (w r : Word) : Type 0 where
  pub sample : r.sample ≡ remove w.sample level
  pub letters : r.letters ≡ map (rename (lowered level)) w.letters

-- each letter of r is the same value as that of w, at the sample of each, whose first n numbers are the same
pub record IsShortenedWord (n : ℕ) (w r : Word) : Type 0 where
  pub count : n ≤ length r.sample
  pub first : first_sampled n r.sample ≡ first_sampled n w.sample
  pub levels : All (Fits (length r.sample)) r.letters
  pub values : AreSame (values_at (sampled w.sample) w.letters) (values_at (sampled r.sample) r.letters)
  pub depths : map depth r.letters ≡ map depth w.letters
  pub operators : (o : Bool) → All (AdmitsTerm o) w.letters → All (AdmitsTerm o) r.letters
  pub widths : All HasBoundedWidths w.letters → All HasBoundedWidths r.letters
  pub strict : All IsStrictTerm w.letters → All IsStrictTerm r.letters

-- At all atoms that stand as the numbers of r do its letters are the same values as those of w at some that stand as the numbers
-- of w do, and the first n atoms are the same.
abbrev pub IsShortenedEverywhere : ℕ → Word → Word → Type 0
IsShortenedEverywhere n w r = (o : Bool) (d : List Atom) → AreAlike o (sampled r.sample) d →
    (c : List Atom) × AreAlike o (sampled w.sample) c × (take n c ≡ take n d) × AreSame (values_at c w.letters) (values_at d r.letters)
