-- Words that an automaton accepts, as terms with numbers for their levels.
use Rattle.std.specs.Prelude.{ℕ, ◌≤◌, ◌<◌, List, map, take}
use Rattle.lois_base.specs.Atom.{Atom}
use Rattle.lois_base.specs.Data.{TermD, terms_of}
use Rattle.lois_base.specs.Normal.{OccursInPart}
use Rattle.lois_base.specs.Truth.{sampled}
use Rattle.lois_base.specs.Values.{PointValue, point}
use Rattle.lois_meaning.specs.Automata.{Automaton, IsAutomatonOf, Accepts}

-- t is an automaton that accepts the word
abbrev pub AcceptsAt : TermD → List Atom → List PointValue → Type 0
AcceptsAt t c word = (a : Automaton) × IsAutomatonOf (point t c) a × Accepts a word

-- the values of terms at a choice
abbrev pub values_at : List Atom → List TermD → List PointValue
values_at c = map (λ t. point t c)

-- the choice that the first n numbers of a sample stand for
abbrev pub first_sampled : ℕ → List ℕ → List Atom
first_sampled n s = sampled (take n s)

-- each level from `from` on and below `to` stands in one of the terms
abbrev pub AreUsedBetween : ℕ → ℕ → List TermD → Type 0
AreUsedBetween from to ts = (i : ℕ) → from ≤ i → i < to → OccursInPart i (terms_of ts)
