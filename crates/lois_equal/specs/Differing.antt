-- Whether two automata accept the same words, and a word that tells them apart.
use Rattle.std.specs.Prelude.{ℕ, ◌≤◌, ◌<◌, Bool, true, false, List, length, IsTrue, IsFalse, ◌⊎◌}
use Rattle.std.specs.List.{All}
use Rattle.lois_base.specs.Atom.{Atom}
use Rattle.lois_base.specs.Data.{TermD}
use Rattle.lois_base.specs.Fits.{Fits}
use Rattle.lois_base.specs.Truth.{holds, sampled}
use Rattle.lois_base.specs.Values.{PointValue}
use Rattle.lois_base.specs.declared.guards.Lit.{Lit}
use Rattle.lois_automata.specs.Throughout.{HoldsThroughout}
use Rattle.lois_shortest_word.specs.Words.{values_at, first_sampled, AreUsedBetween}
use Rattle.lois_equal.specs.Distinguishing.{AcceptsOnlyFirst, TellsApart, HasLetterAt}
use Rattle.lois_equal.specs.declared.differing.Difference.{Difference}

-- at no choice of n atoms that u admits a list of values tells the two apart
abbrev pub HaveSameLanguage : ℕ → List (List Lit) → TermD → TermD → Type 0
HaveSameLanguage n u t s = HoldsThroughout n u (λ c. (word : List PointValue) → TellsApart t s c word → ⊥)

-- the first of the two alone accepts the word where `left` says so, and otherwise the second alone
abbrev pub IsAcceptedByOne : Bool → TermD → TermD → List Atom → List PointValue → Type 0
IsAcceptedByOne true t s c word = AcceptsOnlyFirst t s c word
IsAcceptedByOne false t s c word = AcceptsOnlyFirst s t c word

-- A word that tells the two apart at the choice of the first n numbers, which u admits; its terms are read at the whole sample,
-- and the further numbers are for levels that stand in them. No shorter word tells the two apart, at any choice that u admits; and the second alone accepts it
-- only where each word that the first alone accepts, at any such choice, is longer.
pub record IsDistinguishingWord (n : ℕ) (u : List (List Lit)) (t s : TermD) (d : Difference) : Type 0 where
  pub count : n ≤ length d.sample
  pub admitted : IsTrue (holds (first_sampled n d.sample) u)
  pub levels : All (Fits (length d.sample)) d.word
  pub letters : All (λ l. HasLetterAt t (first_sampled n d.sample) l ⊎ HasLetterAt s (first_sampled n d.sample) l) (values_at (sampled d.sample) d.word)
  pub apart : IsAcceptedByOne d.left t s (first_sampled n d.sample) (values_at (sampled d.sample) d.word)
  pub shortest : HoldsThroughout n u (λ c. (word : List PointValue) → TellsApart t s c word → length d.word ≤ length word)
  pub preferred : IsFalse d.left → HoldsThroughout n u (λ c. (word : List PointValue) → AcceptsOnlyFirst t s c word → length d.word < length word)
  pub used : AreUsedBetween n (length d.sample) d.word
