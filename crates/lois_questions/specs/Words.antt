-- The words that the program takes, each the list of its bytes: `word` and `picture` with a name, `within` with two names, and `same`.
use Rattle.std.specs.Prelude.{◌≡◌, ℕ, List, [], ◌∷◌, Option, Some, None, option_map, option_and_then, codes, if◌then◌else◌, bytes_eq}
use Rattle.std.specs.List.{All}
use Rattle.lois_base.specs.declared.deciding.Kind.{Kind}
use Rattle.lois_base.specs.declared.limits.TheConstants.{LONGEST_TEXT}
use Rattle.lois_command.specs.FreeNames.{free_name}
use Rattle.lois_deciders.specs.Choice.{IsUnwanted}
use Rattle.lois_questions.specs.declared.command_line.TheConstants.{LONGEST_PAIR}
use Rattle.lois_questions.specs.declared.command_line.Question.{Question}
use Rattle.lois_questions.specs.declared.command_line.Question.TheVariants.{Word, Within, Same, Picture}

abbrev pub question_with_name : Option (List ℕ) → Option Question
question_with_name name = option_map (λ n. Word n) name

abbrev pub question_with_names : Option (List ℕ) → Option (List ℕ) → Option Question
question_with_names first second = option_and_then (λ one. option_map (λ other. Within one other) second) first

abbrev pub question_with_graph : Option (List ℕ) → Option Question
question_with_graph name = option_map (λ n. Picture n) name

-- the words behind `word`; behind `within`; behind `same`; behind `picture`
abbrev pub one_name : List (List ℕ) → Option Question
one_name (name ∷ []) = question_with_name (free_name name)
one_name _ = None

abbrev pub two_names : List (List ℕ) → Option Question
two_names (first ∷ second ∷ []) = question_with_names (free_name first) (free_name second)
two_names _ = None

abbrev pub no_name : List (List ℕ) → Option Question
no_name [] = Some Same
no_name _ = None

abbrev pub one_graph : List (List ℕ) → Option Question
one_graph (name ∷ []) = question_with_graph (free_name name)
one_graph _ = None

abbrev pub question_of : List (List ℕ) → Option Question
question_of [] = None
question_of (word ∷ words) =
    if (bytes_eq word (codes "word")) then (one_name words) else
    (if (bytes_eq word (codes "within")) then (two_names words) else
    (if (bytes_eq word (codes "same")) then (no_name words) else
    (if (bytes_eq word (codes "picture")) then (one_graph words) else None)))

-- the words ask this
abbrev pub Asks : Question → List (List ℕ) → Type 0
Asks question words = question_of words ≡ Some question

-- The words ask nothing, or no decider was handed in. They ask one thing at most.
abbrev pub IsUsage : List (List ℕ) → List Kind → Type 0
IsUsage words kinds = (question : Question) → Asks question words → All (IsUnwanted None) kinds

-- how many bytes are read for a question at most: `same` is asked of two texts
abbrev pub limit_of : Question → ℕ
limit_of Same = LONGEST_PAIR
limit_of _ = LONGEST_TEXT

-- so for the question that the words ask
abbrev pub limit_if_asked : Option Question → ℕ
limit_if_asked None = LONGEST_TEXT
limit_if_asked (Some question) = limit_of question

abbrev pub limit_in : List (List ℕ) → ℕ
limit_in words = limit_if_asked (question_of words)
