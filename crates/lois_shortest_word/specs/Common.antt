-- Words that two automata accept, as terms with numbers for their levels.
use Rattle.std.specs.Prelude.{ℕ, ◌≤◌, List, length, IsTrue}
use Rattle.std.specs.List.{All}
use Rattle.lois_base.specs.Atom.{Atom}
use Rattle.lois_base.specs.Data.{TermD}
use Rattle.lois_base.specs.Fits.{Fits}
use Rattle.lois_base.specs.Truth.{holds, sampled}
use Rattle.lois_base.specs.Values.{PointValue}
use Rattle.lois_base.specs.declared.guards.Lit.{Lit}
use Rattle.lois_automata.specs.Throughout.{HoldsThroughout}
use Rattle.lois_shortest_word.specs.Words.{AcceptsAt, values_at, first_sampled, AreUsedBetween}
use Rattle.lois_shortest_word.specs.declared.words.Word.{Word}

-- both terms are automata that accept the word
abbrev pub AcceptBothAt : TermD → TermD → List Atom → List PointValue → Type 0
AcceptBothAt t s c word = AcceptsAt t c word × AcceptsAt s c word

-- at no choice of n atoms that u admits both accept a word
abbrev pub AcceptNoneInCommon : ℕ → List (List Lit) → TermD → TermD → Type 0
AcceptNoneInCommon n u t s = HoldsThroughout n u (λ c. (word : List PointValue) → AcceptBothAt t s c word → ⊥)

-- a word that both accept at the choice of the first n numbers, which u admits, and no shorter one at any choice that u admits; its
-- terms are read at the whole sample, and the further numbers are for levels that stand in them
pub record IsShortestCommonWord (n : ℕ) (u : List (List Lit)) (t s : TermD) (w : Word) : Type 0 where
  pub count : n ≤ length w.sample
  pub admitted : IsTrue (holds (first_sampled n w.sample) u)
  pub levels : All (Fits (length w.sample)) w.letters
  pub accepted : AcceptBothAt t s (first_sampled n w.sample) (values_at (sampled w.sample) w.letters)
  pub shortest : HoldsThroughout n u (λ c. (word : List PointValue) → AcceptBothAt t s c word → length w.letters ≤ length word)
  pub used : AreUsedBetween n (length w.sample) w.letters
