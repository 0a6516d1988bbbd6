-- The status and the text of each outcome.
use Rattle.std.specs.Prelude.{ℕ, List, [], ◌++◌, length, codes}
use Rattle.std.specs.Fmt.{decimal}
use Rattle.std.specs.List.{All, flat_map}
use Rattle.lois_base.specs.Data.{TermD}
use Rattle.lois_base.specs.Fits.{Fits}
use Rattle.lois_base.specs.Validity.{HasBoundedWidths}
use Rattle.lois_answers.specs.ResultsText.{lined, spaced}
use Rattle.lois_command.specs.Texts.{placed_text, refused_case_text}
use Rattle.lois_equal.specs.DifferenceText.{difference_text}
use Rattle.lois_languages.specs.WordText.{word_text}
use Rattle.lois_lexer.specs.declared.Place.{Place}
use Rattle.lois_picture.specs.GraphText.{graph_text}
use Rattle.lois_picture.specs.Graphs.{HasGraphText}
use Rattle.lois_same.specs.ContrastText.{contrast_text, ContrastFits}
use Rattle.lois_questions.specs.declared.outcomes.Input.{Input}
use Rattle.lois_questions.specs.declared.outcomes.Input.TheVariants as inputs
use Rattle.lois_questions.specs.declared.outcomes.Outcome.{Outcome}
use Rattle.lois_questions.specs.declared.outcomes.Outcome.TheVariants.{Word, NoWord, Within, Beyond, Same, Structure, Parameters, Differ, Picture, Refused, ReadFault, Usage}
use Rattle.lois_questions.specs.declared.outcomes.Refusal.{Refusal}
use Rattle.lois_questions.specs.declared.outcomes.Refusal.TheVariants.{TooLong, NotResults, SecondNotResults, NoLine, NotAutomaton, NotDeterministic, NotGraph, HasParameters, NoCase, TwoCases}

abbrev pub status_of : Outcome → ℕ
status_of (Word k w parameters) = 0
status_of NoWord = 10
status_of Within = 0
status_of (Beyond k d name parameters) = 10
status_of Same = 0
status_of Structure = 10
status_of Parameters = 10
status_of (Differ d parameters) = 10
status_of (Picture g) = 0
status_of (Refused refusal) = 5
status_of ReadFault = 6
status_of Usage = 9

-- behind what is said of one of two texts
abbrev pub input_text : Input → List ℕ
input_text inputs.Only = []
input_text inputs.First = codes " of the first"
input_text inputs.Second = codes " of the second"

-- the numbers of a choice, and which text it is about
abbrev pub at_choice_text : List ℕ → Input → List ℕ
at_choice_text sample input = codes " at choice" ++ flat_map (λ a. spaced (decimal a)) sample ++ input_text input

-- a refusal at a place of the second text
abbrev pub second_placed_text : Place → List ℕ
second_placed_text place = codes "refused at " ++ decimal place.line ++ codes ":" ++ decimal place.column ++ codes " of the second: not results"

abbrev pub refusal_text : Refusal → List ℕ
refusal_text (TooLong n) = codes "refused: input over " ++ decimal n ++ codes " bytes"
refusal_text (NotResults place) = placed_text place (codes "not results")
refusal_text (SecondNotResults place) = second_placed_text place
refusal_text (NoLine name k) = refused_case_text (codes "no line ") name k []
refusal_text (NotAutomaton name k) = refused_case_text [] name k (codes " is no automaton")
refusal_text (NotDeterministic name k) = refused_case_text [] name k (codes " is no deterministic automaton")
refusal_text (NotGraph name k) = refused_case_text [] name k (codes " is no automaton and no set of pairs")
refusal_text HasParameters = codes "refused: picture of results with parameters"
refusal_text (NoCase input sample) = codes "refused: no case" ++ at_choice_text sample input
refusal_text (TwoCases input i j sample) = codes "refused: cases " ++ decimal i ++ codes " and " ++ decimal j ++ at_choice_text sample input

abbrev pub outcome_text : Outcome → List ℕ
outcome_text (Word k w parameters) = word_text parameters k w
outcome_text NoWord = lined (codes "none")
outcome_text Within = lined (codes "within")
outcome_text (Beyond k d name parameters) = difference_text parameters k d name
outcome_text Same = lined (codes "same")
outcome_text Structure = lined (codes "differ in structure")
outcome_text Parameters = lined (codes "differ in parameters")
outcome_text (Differ d parameters) = contrast_text parameters d
outcome_text (Picture g) = graph_text g
outcome_text (Refused refusal) = lined (refusal_text refusal)
outcome_text ReadFault = []
outcome_text Usage = lined (codes "usage: lois_ask word A|within A B|same|picture A")

-- each letter is inside as many levels as the choice has numbers, and has the usual widths
pub record CanBeWritten (size : ℕ) (letters : List TermD) : Type 0 where
  pub levels : All (Fits size) letters
  pub widths : All HasBoundedWidths letters

-- the outcome can be written
abbrev pub HasText : Outcome → Type 0
HasText (Word k w parameters) = CanBeWritten (length w.sample) w.letters
HasText (Beyond k d name parameters) = CanBeWritten (length d.sample) d.word
HasText (Differ d parameters) = ContrastFits d
HasText (Picture g) = HasGraphText g
HasText _ = Unit {0}
