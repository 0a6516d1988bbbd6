-- What the search for a word that tells two automata apart answers.
use Rattle.std.specs.Prelude.{◌≡◌, ℕ, ◌≤◌, ◌<◌, Bool, true, false, List, length, IsTrue, ◌⊎◌, Option, Some, None}
use Rattle.std.specs.List.{All}
use Rattle.lois_base.specs.Data.{TermD}
use Rattle.lois_base.specs.Fits.{Fits}
use Rattle.lois_base.specs.Truth.{holds, sampled}
use Rattle.lois_base.specs.Validity.{AdmitsTerm, HasBoundedWidths, IsStrictTerm}
use Rattle.lois_base.specs.Values.{PointValue}
use Rattle.lois_base.specs.declared.guards.Lit.{Lit}
use Rattle.lois_automata.specs.Throughout.{HoldsThroughout}
use Rattle.lois_shortest_word.specs.Words.{values_at, first_sampled, AreUsedBetween}
use Rattle.lois_shortest_word.specs.declared.words.Word.{Word}
use Rattle.lois_equal.specs.Distinguishing.{AcceptsOnlyFirst}
use Rattle.lois_equal.specs.declared.differing.Difference.{Difference}
use Rattle.lois_equal.specs.declared.differing.Equality.{Equality}
use Rattle.lois_equal.specs.declared.differing.Equality.TheVariants.{Same, Differs}

abbrev pub IsSameAnswer : Equality → Type 0
IsSameAnswer Same = Unit {0}
IsSameAnswer (Differs d) = ⊥

abbrev pub IfDiffers : (Difference → Type 0) → Equality → Type 0
IfDiffers P Same = Unit {0}
IfDiffers P (Differs d) = P d

-- at no choice of n atoms that u admits t accepts a list of values that s doesn't
abbrev pub IsLanguageIncluded : ℕ → List (List Lit) → TermD → TermD → Type 0
IsLanguageIncluded n u t s = HoldsThroughout n u (λ c. (word : List PointValue) → AcceptsOnlyFirst t s c word → ⊥)

-- a word that t alone accepts, and no shorter one at any choice that u admits
pub record IsShortestDifference (n : ℕ) (u : List (List Lit)) (t s : TermD) (w : Word) : Type 0 where
  pub count : n ≤ length w.sample
  pub admitted : IsTrue (holds (first_sampled n w.sample) u)
  pub levels : All (Fits (length w.sample)) w.letters
  pub accepted : AcceptsOnlyFirst t s (first_sampled n w.sample) (values_at (sampled w.sample) w.letters)
  pub shortest : HoldsThroughout n u (λ c. (word : List PointValue) → AcceptsOnlyFirst t s c word → length w.letters ≤ length word)
  pub used : AreUsedBetween n (length w.sample) w.letters

-- each term admits the operators, has no `<=`, and has tuples of 2 to 8 parts
pub record AreBounded (o : Bool) (ts : List TermD) : Type 0 where
  pub operators : All (AdmitsTerm o) ts
  pub strict : All IsStrictTerm ts
  pub widths : All HasBoundedWidths ts

-- the word, with the side that accepts it
abbrev pub sided : Word → Bool → Equality
sided w left = Differs (record { sample = w.sample; word = w.letters; left = left })

-- the one word where there is one alone, and otherwise the shorter one: the first where they are equally long
abbrev pub IsShorterOf : Option Word → Option Word → Equality → Type 0
IsShorterOf None None r = r ≡ Same
IsShorterOf (Some w) None r = r ≡ sided w true
IsShorterOf None (Some w) r = r ≡ sided w false
IsShorterOf (Some v) (Some w) r = ((length v.letters ≤ length w.letters) × (r ≡ sided v true)) ⊎ ((length w.letters < length v.letters) × (r ≡ sided w false))
