-- Where a text is refused: where it leaves the shape, or where it has the shape and first breaks a side rule.
use Rattle.std.specs.Prelude.{◌≡◌, ℕ, ◌≤◌, ◌⊎◌, List}
use Rattle.lois_reader.specs.Pieces.{Piece}
use Rattle.lois_reader.specs.Shape.{LeavesShapeAt, BreaksRuleAt}
use Rattle.lois_reader.specs.declared.ResultError.{ResultError}
use Rattle.lois_reader.specs.declared.ResultError.TheVariants.{NotResults, NoMemory}
use Rattle.lois_answers.specs.Sound.{IsSound, IsSoundTrace}
use Rattle.lois_answers.specs.declared.faults.Answer.{Answer}
use Rattle.lois_answers.specs.declared.faults.Answer.TheVariants as answers
use Rattle.lois_answers.specs.declared.results.Results.{Results}
use Rattle.lois_answers.specs.ResultsText.{results_text}
use Rattle.lois_answers.specs.TraceText.{answer_text}

abbrev pub IsSoundAnswer : Answer → Type 0
IsSoundAnswer (answers.Results r) = IsSound r
IsSoundAnswer (answers.Trace t) = IsSoundTrace t

-- The text is no value's. Want of memory says nothing of the text.
abbrev pub NoValueHolds : {V : Type 0} → (V → Type 0) → ResultError → Type 0
NoValueHolds {V} Holds NoMemory = Unit {0}
NoValueHolds {V} Holds (NotResults k) = (v : V) → Holds v → ⊥

-- The error is at the place where the text leaves the shape, or where it first breaks a side rule.
abbrev pub IsErrorPlace : {D : Type 0} → (List ℕ → Type 0) → (List ℕ → D → Type 0) → (D → List Piece) → List ℕ → ResultError → Type 0
IsErrorPlace {D} Shape Spells pieces text NoMemory = Unit {0}
IsErrorPlace {D} Shape Spells pieces text (NotResults k) = LeavesShapeAt Shape text k ⊎ BreaksRuleAt (Spells text) pieces k

-- the place of an error is a byte of a text of this length, or its end
abbrev pub IsOffsetInText : ℕ → ResultError → Type 0
IsOffsetInText len (NotResults k) = k ≤ len
IsOffsetInText len NoMemory = Unit {0}

abbrev pub IsResultsOf : List ℕ → Results → Type 0
IsResultsOf text r = IsSound r × (results_text r ≡ text)

abbrev pub IsAnswerOf : List ℕ → Answer → Type 0
IsAnswerOf text a = IsSoundAnswer a × (answer_text a ≡ text)
