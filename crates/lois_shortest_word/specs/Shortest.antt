-- A shortest word of the letters of an automaton.
use Rattle.std.specs.Prelude.{ℕ, ◌≤◌, List, length, IsTrue}
use Rattle.std.specs.List.{All}
use Rattle.lois_base.specs.Atom.{Atom}
use Rattle.lois_base.specs.Data.{TermD}
use Rattle.lois_base.specs.Fits.{Fits}
use Rattle.lois_base.specs.Truth.{holds, sampled}
use Rattle.lois_base.specs.Values.{PointValue, point}
use Rattle.lois_base.specs.declared.guards.Lit.{Lit}
use Rattle.lois_automata.specs.Throughout.{HoldsThroughout}
use Rattle.lois_meaning.specs.Automata.{Automaton, IsAutomatonOf}
use Rattle.lois_meaning.specs.Operations.{AreLetters}
use Rattle.lois_shortest_word.specs.declared.words.Word.{Word}
use Rattle.lois_shortest_word.specs.Words.{AcceptsAt, values_at, first_sampled, AreUsedBetween}

-- t is an automaton, and each value of the word is one of its letters
abbrev pub HasLettersAt : TermD → List Atom → List PointValue → Type 0
HasLettersAt t c word = (a : Automaton) × IsAutomatonOf (point t c) a × AreLetters a word

-- each word that t accepts, at any choice that u admits, has at least k letters
abbrev pub AreAsLong : ℕ → List (List Lit) → TermD → ℕ → Type 0
AreAsLong n u t k = HoldsThroughout n u (λ c. (word : List PointValue) → AcceptsAt t c word → k ≤ length word)

-- a word that t accepts at the choice of the first n numbers, which u admits; its terms are read at the whole sample, and the further
-- numbers are for levels that stand in them
pub record IsShortestWord (n : ℕ) (u : List (List Lit)) (t : TermD) (w : Word) : Type 0 where
  pub count : n ≤ length w.sample
  pub admitted : IsTrue (holds (first_sampled n w.sample) u)
  pub levels : All (Fits (length w.sample)) w.letters
  pub letters : HasLettersAt t (first_sampled n w.sample) (values_at (sampled w.sample) w.letters)
  pub accepted : AcceptsAt t (first_sampled n w.sample) (values_at (sampled w.sample) w.letters)
  pub shortest : AreAsLong n u t (length w.letters)
  pub used : AreUsedBetween n (length w.sample) w.letters
