-- What is found in the results of a run is true of what the script prints.
use Rattle.std.specs.Prelude.{◌≡◌, ℕ, List, [], ◌∷◌, length}
use Rattle.std.specs.List.{All, AllPairs}
use Rattle.lois_base.specs.Atom.{Atom}
use Rattle.lois_base.specs.Truth.{sampled}
use Rattle.lois_base.specs.Values.{PointValue, IsIn}
use Rattle.lois_answers.specs.declared.results.Results.{Results}
use Rattle.lois_census.specs.CensusData.{CensusD}
use Rattle.lois_census.specs.Orbits.{IsInListedOrbit, AreDisjointOrbits, value_of}
use Rattle.lois_census.specs.Refusals.{IsCensusAnswer}
use Rattle.lois_census.specs.declared.counting.Answer.TheVariants.{Listed}
use Rattle.lois_equal.specs.Comparing.{IsComparison}
use Rattle.lois_equal.specs.declared.comparing.Comparison.TheVariants.{Alike, Differ}
use Rattle.lois_equal.specs.declared.differing.Difference.{Difference}
use Rattle.lois_interp.specs.Interpreted.{AreResultsOf, IsChoiceOf}
use Rattle.lois_languages.specs.Inclusions.{IsInclusion}
use Rattle.lois_languages.specs.Witnesses.{IsWitness}
use Rattle.lois_languages.specs.declared.inclusions.Inclusion.TheVariants.{Within, Beyond}
use Rattle.lois_languages.specs.declared.witnesses.Witness.TheVariants.{Nothing, Found}
use Rattle.lois_meaning.specs.Kinds.{IsSet}
use Rattle.lois_script.specs.Tree.{ScriptD}
use Rattle.lois_shortest_word.specs.Words.{first_sampled, values_at}
use Rattle.lois_shortest_word.specs.declared.words.Word.{Word}
use Rattle.lois_laws.specs.Printed.{PrintsAs, PrintBoth, AcceptsWord, AcceptsWordOnlyFirst, AcceptsWordOnlyOne, AreToldApart}

-- `equal`: at no choice a word tells apart what is printed
abbrev pub EqualIsOfTheRun : Type 0
EqualIsOfTheRun = (s : ScriptD) (r : Results) (a b : List ℕ) → AreResultsOf s r → IsComparison (length r.parameters) a b r.cases Alike →
    (c : List Atom) → IsChoiceOf s c →
    (v w : PointValue) × PrintBoth s c a b v w × ((word : List PointValue) → AreToldApart v w word → ⊥)

-- a difference tells it apart at its choice
abbrev pub DifferenceIsOfTheRun : Type 0
DifferenceIsOfTheRun = (s : ScriptD) (r : Results) (a b name : List ℕ) (k : ℕ) (d : Difference) → AreResultsOf s r →
    IsComparison (length r.parameters) a b r.cases (Differ k d name) →
    (v w : PointValue) × PrintBoth s (first_sampled (length r.parameters) d.sample) a b v w ×
    AcceptsWordOnlyOne d.left v w (values_at (sampled d.sample) d.word)

-- `word`: at no choice a word is accepted by what is printed
abbrev pub NoWordIsOfTheRun : Type 0
NoWordIsOfTheRun = (s : ScriptD) (r : Results) (a : List ℕ) → AreResultsOf s r → IsWitness (length r.parameters) a r.cases Nothing →
    (c : List Atom) → IsChoiceOf s c → (v : PointValue) × PrintsAs s c a v × ((word : List PointValue) → AcceptsWord v word → ⊥)

-- a word is accepted by it at the word's choice
abbrev pub WordIsOfTheRun : Type 0
WordIsOfTheRun = (s : ScriptD) (r : Results) (a : List ℕ) (k : ℕ) (w : Word) → AreResultsOf s r →
    IsWitness (length r.parameters) a r.cases (Found k w) →
    (v : PointValue) × PrintsAs s (first_sampled (length r.parameters) w.sample) a v × AcceptsWord v (values_at (sampled w.sample) w.letters)

-- `within`: at no choice a word is accepted by what is printed under the first name and not by what is printed under the second
abbrev pub WithinIsOfTheRun : Type 0
WithinIsOfTheRun = (s : ScriptD) (r : Results) (a b : List ℕ) → AreResultsOf s r → IsInclusion (length r.parameters) a b r.cases Within →
    (c : List Atom) → IsChoiceOf s c →
    (v w : PointValue) × PrintBoth s c a b v w × ((word : List PointValue) → AcceptsWordOnlyFirst v w word → ⊥)

-- a word beyond is so accepted at its choice
abbrev pub BeyondIsOfTheRun : Type 0
BeyondIsOfTheRun = (s : ScriptD) (r : Results) (a b name : List ℕ) (k : ℕ) (d : Difference) → AreResultsOf s r →
    IsInclusion (length r.parameters) a b r.cases (Beyond k d name) →
    (v w : PointValue) × PrintBoth s (first_sampled (length r.parameters) d.sample) a b v w ×
    AcceptsWordOnlyFirst v w (values_at (sampled d.sample) d.word)

-- `census`: there is one entry, and it lists the orbits of the printed set
abbrev pub CensusIsOfTheRun : Type 0
CensusIsOfTheRun = (s : ScriptD) (r : Results) (a : List ℕ) (es : List CensusD) → AreResultsOf s r →
    IsCensusAnswer r.order r a (Listed es) →
    (v : PointValue) × (e : CensusD) × PrintsAs s [] a v × IsSet v × (es ≡ e ∷ []) ×
    ((x : PointValue) → IsIn x v → IsInListedOrbit r.order e.orbits x) ×
    All (λ k. IsIn (value_of k) v) e.orbits × AllPairs (AreDisjointOrbits r.order) e.orbits
