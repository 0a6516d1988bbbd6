-- Words that are made letter by letter.
use Rattle.std.specs.Prelude.{◌≡◌, ℕ, ◌+◌, ◌≤◌, Bool, List, [], ◌∷◌, ◌++◌, length, IsTrue}
use Rattle.std.specs.List.{All}
use Rattle.lois_base.specs.Atom.{Atom}
use Rattle.lois_base.specs.Data.{TermD}
use Rattle.lois_base.specs.Fits.{Fits}
use Rattle.lois_base.specs.Shift.{shift}
use Rattle.lois_base.specs.Tree.{tree}
use Rattle.lois_base.specs.Truth.{holds, sampled}
use Rattle.lois_base.specs.Validity.{AdmitsTerm, HasBoundedWidths}
use Rattle.lois_base.specs.Values.{PointValue, point}
use Rattle.lois_base.specs.declared.guards.Lit.{Lit}
use Rattle.lois_automata.specs.Throughout.{HoldsThroughout}
use Rattle.lois_meaning.specs.Automata.{Automaton, AcceptsFrom, Accepts}
use Rattle.lois_shortest_word.specs.Layers.{AcceptsIn}
use Rattle.lois_shortest_word.specs.SymbolicStates.{IsSymbolicState}
use Rattle.lois_shortest_word.specs.Words.{values_at, first_sampled}
use Rattle.lois_shortest_word.specs.declared.symbolic_states.SymbolicState.{SymbolicState}
use Rattle.lois_shortest_word.specs.declared.words.Word.{Word}

-- p is a value from which a word of k letters is accepted; and each word that is accepted from p is, behind the values of the letters
-- at d, accepted by a
pub record IsOnWay (a : Automaton) (k : ℕ) (letters : List TermD) (p : PointValue) (d : List Atom) : Type 0 where
  pub onward : AcceptsIn a k p
  pub behind : (rest : List PointValue) → AcceptsFrom a p rest → Accepts a (values_at d letters ++ rest)

-- wherever the constraint of the stage holds, u does, and the letters lead to the state, from which a word of k letters is accepted
pub record IsWay (n : ℕ) (u : List (List Lit)) (m : List Atom → Automaton) (k : ℕ) (letters : List TermD) (s : SymbolicState) : Type 0 where
  pub stage : IsSymbolicState n s
  pub letter_levels : All (Fits (n + s.more)) letters
  pub admitted : (c e : List Atom) → length c ≡ n → length e ≡ s.more → IsTrue (holds (c ++ e) s.admitted) → IsTrue (holds c u)
  pub on_way : (c e : List Atom) → length c ≡ n → length e ≡ s.more → IsTrue (holds (c ++ e) s.admitted) → IsOnWay (m c) k letters (point (tree s.state) (c ++ e)) (c ++ e)

-- each word that is accepted, at any choice that u admits, has at least k letters
abbrev pub HaveAtLeast : ℕ → List (List Lit) → (List Atom → Automaton) → ℕ → Type 0
HaveAtLeast n u m k = HoldsThroughout n u (λ c. (word : List PointValue) → Accepts (m c) word → k ≤ length word)

-- r is t among `by` further levels
pub record IsShiftedLetter (n by : ℕ) (t r : TermD) : Type 0 where
  pub raised : r ≡ shift n by t
  pub levels : Fits (n + by) r
  pub operators : (o : Bool) → AdmitsTerm o t → AdmitsTerm o r
  pub widths : HasBoundedWidths t → HasBoundedWidths r

abbrev pub AreShiftedLetters : ℕ → ℕ → List TermD → List TermD → Type 0
AreShiftedLetters n by [] [] = Unit {0}
AreShiftedLetters n by (t ∷ ts) (r ∷ rs) = IsShiftedLetter n by t r × AreShiftedLetters n by ts rs
AreShiftedLetters n by _ _ = ⊥

-- the letters among further levels, and then the letter t
abbrev pub IsLengthened : ℕ → ℕ → List TermD → TermD → List TermD → Type 0
IsLengthened n by ts t rs = (moved : List TermD) × AreShiftedLetters n by ts moved × (rs ≡ moved ++ t ∷ [])

-- a word that is accepted at the choice of the first n numbers, which u admits, and no shorter one is at any choice that u admits
pub record IsWordOf (n : ℕ) (u : List (List Lit)) (m : List Atom → Automaton) (w : Word) : Type 0 where
  pub count : n ≤ length w.sample
  pub admitted : IsTrue (holds (first_sampled n w.sample) u)
  pub levels : All (Fits (length w.sample)) w.letters
  pub accepted : Accepts (m (first_sampled n w.sample)) (values_at (sampled w.sample) w.letters)
  pub shortest : HaveAtLeast n u m (length w.letters)
