-- Automata that are made complete: with a sink, to which each state and letter lead that had no step.
use Rattle.std.specs.Prelude.{◌≡◌, ℕ, List, length, ◌↔◌, ◌⊎◌}
use Rattle.lois_base.specs.Atom.{Atom}
use Rattle.lois_base.specs.Data.{TermD, CompD, CompsD}
use Rattle.lois_base.specs.Fits.{CompFits}
use Rattle.lois_base.specs.Validity.{AdmitsTerm, AdmitsComp, HasBoundedWidths, CompHasBoundedWidths}
use Rattle.lois_base.specs.Values.{PointValue, point, IsIn, IsSame}
use Rattle.lois_algebra.specs.Gathered.{IsAmong, IsCompMember}
use Rattle.lois_meaning.specs.Automata.{Automaton, IsPair, IsTriple}
use Rattle.lois_meaning.specs.Kinds.{IsSet, IsSetOf}
use Rattle.lois_automata.specs.Adding.{Adds, IsMadeOfOne}
use Rattle.lois_automata.specs.Projections.{HasStepIn}
use Rattle.lois_automata.specs.Machines.{IsCompleteDeterministicAt}
use Rattle.lois_shortest_word.specs.Words.{AcceptsAt}
use Rattle.lois_equal.specs.Distinguishing.{HasLetterAt}

-- a complete deterministic automaton that accepts the words that t accepts; its letters are those of t and the members of a set
pub record IsCompletionAt (t more r : TermD) (c : List Atom) : Type 0 where
  pub whole : IsCompleteDeterministicAt r c
  pub words : (word : List PointValue) → AcceptsAt r c word ↔ AcceptsAt t c word
  pub letters : (l : PointValue) → HasLetterAt r c l ↔ (HasLetterAt t c l ⊎ IsIn l (point more c))

-- ---- what private contracts say
-- the set r has the members of s, and x
abbrev pub HasOneMore : PointValue → PointValue → PointValue → Type 0
HasOneMore s x r = (w : PointValue) → IsIn w r ↔ (IsIn w s ⊎ IsSame w x)

-- w leads from a state by a letter to the sink, and no step leads from the state by the letter
abbrev pub IsSinkStep : PointValue → PointValue → PointValue → PointValue → PointValue → Type 0
IsSinkStep states letters steps sink w =
    (p l : PointValue) × IsIn p states × IsIn l letters × ((q : PointValue) → HasStepIn steps p l q → ⊥) × IsTriple w p l sink

-- v has the steps and such ways out, so that some step leads from each state by each letter
pub record AreTotal (states letters steps sink v : PointValue) : Type 0 where
  pub members : (w : PointValue) → IsIn w v ↔ (IsIn w steps ⊎ IsSinkStep states letters steps sink w)
  pub each : (p l : PointValue) → IsIn p states → IsIn l letters → (q : PointValue) × HasStepIn v p l q

-- x is a pair that isn't in the set `there`, and w leads by it to the sink
abbrev pub LeadsToSink : TermD → TermD → List Atom → PointValue → PointValue → Type 0
LeadsToSink there sink c x w =
    (IsIn x (point there c) → ⊥) × ((p l : PointValue) × IsPair x p l × IsTriple w p l (point sink c))

-- if x is a pair, it is in the set `there`, or something that was made leads by it to the sink
abbrev pub IsProvided : TermD → TermD → CompsD → List Atom → PointValue → Type 0
IsProvided there sink made c x =
    (p l : PointValue) → IsPair x p l → IsIn x (point there c) ⊎ ((w : PointValue) × IsAmong made c w × IsTriple w p l (point sink c))

-- what leads by the pairs of a comprehension to the sink is added, but for the pairs in the set `there`
pub record AddsSinkSteps (n : ℕ) (k : CompD) (there sink : TermD) (before after : CompsD) : Type 0 where
  pub adds : Adds n (λ c. IsMadeOfOne (LeadsToSink there sink c) (IsCompMember k c)) (CompFits n k) (λ o. AdmitsComp o k × (AdmitsTerm o there × AdmitsTerm o sink)) (CompHasBoundedWidths k × HasBoundedWidths sink) before after
  pub each : (c : List Atom) → length c ≡ n → (x : PointValue) → IsCompMember k c x → IsProvided there sink after c x

-- v has what leads by the pairs of a set to the sink, but for those that are in the set `there`
pub record LeadToSink (pairs there sink v : PointValue) : Type 0 where
  pub members : (w : PointValue) → IsIn w v ↔ ((x p l : PointValue) × IsIn x pairs × (IsIn x there → ⊥) × IsPair x p l × IsTriple w p l sink)
  pub each : (x p l : PointValue) → IsIn x pairs → IsPair x p l → IsIn x there ⊎ ((w : PointValue) × IsIn w v × IsTriple w p l sink)

-- m is a with a further state that is no state of a, the sink, with further letters, and with total steps
pub record IsCompletedOf (m a : Automaton) (more sink : PointValue) : Type 0 where
  pub states : IsSetOf m.states (λ p. IsIn p a.states ⊎ IsSame p sink)
  pub letters : IsSetOf m.letters (λ l. IsIn l a.letters ⊎ IsIn l more)
  pub steps_set : IsSet m.steps
  pub steps : AreTotal m.states m.letters a.steps sink m.steps
  pub initial : IsSetOf m.initial (λ p. IsIn p a.initial)
  pub final : IsSetOf m.final (λ p. IsIn p a.final)
  pub apart : IsIn sink a.states → ⊥
