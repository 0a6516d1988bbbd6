-- Words whose numbers are ranks.
use Rattle.std.specs.Prelude.{◌≡◌, Bool, Option, Some, None}
use Rattle.lois_base.specs.Patterns.{AreAlike}
use Rattle.lois_base.specs.Truth.{sampled}
use Rattle.lois_ranks.specs.Ranks.{AreRanks}
use Rattle.lois_shortest_word.specs.declared.words.Word.{Word}

-- r is the word with ranks for its numbers, which stand to one another as before
pub record IsRankedWord (o : Bool) (w r : Word) : Type 0 where
  pub alike : AreAlike o (sampled w.sample) (sampled r.sample)
  pub ranked : AreRanks o r.sample
  pub letters : r.letters ≡ w.letters

-- ---- what private contracts say
abbrev pub IsRankedOrNone : Bool → Option Word → Option Word → Type 0
IsRankedOrNone o None None = Unit {0}
IsRankedOrNone o (Some w) (Some r) = IsRankedWord o w r
IsRankedOrNone o _ _ = ⊥
