-- The command line as clap is told of it, and what is read of what clap found.
use Rattle.std.specs.Prelude.{ℕ, true, List, Option, Some, None, option_and_then, codes, if◌then◌else◌, bytes_eq}
use Rattle.clap.specs.Simple.{on_top}
use Rattle.clap.specs.Walk.{Row}
use Rattle.clap.specs.Words.{App, first_of, new_app, new_rule, with_rule, with_subcommand}
use Rattle.lois_command.specs.FreeNames.{free_name}
use Rattle.lois_questions.specs.Words.{question_with_name, question_with_names, question_with_graph}
use Rattle.lois_questions.specs.declared.command_line.Question.{Question}
use Rattle.lois_questions.specs.declared.command_line.Question.TheVariants.{Same}

abbrev pub bare_program : App
bare_program = on_top (λ s. record s { no_binary_name = true; disable_help_flag = true; disable_help_subcommand = true; subcommand_required = true }) (new_app (codes "lois_ask"))

abbrev pub word_command : App
word_command = with_rule (new_app (codes "word")) (new_rule (codes "first"))

abbrev pub within_command : App
within_command = with_rule (with_rule (new_app (codes "within")) (new_rule (codes "first"))) (new_rule (codes "second"))

abbrev pub same_command : App
same_command = new_app (codes "same")

abbrev pub picture_command : App
picture_command = with_rule (new_app (codes "picture")) (new_rule (codes "first"))

-- one command with four subcommands; three of them have positional arguments
abbrev pub program : App
program = with_subcommand (with_subcommand (with_subcommand (with_subcommand bare_program word_command.top) within_command.top) same_command.top) picture_command.top

-- the question of a subcommand, of its positional arguments
abbrev pub question_named : List ℕ → Option (List ℕ) → Option (List ℕ) → Option Question
question_named name first second =
    if (bytes_eq name (codes "word")) then (question_with_name (option_and_then free_name first)) else
    (if (bytes_eq name (codes "within")) then (question_with_names (option_and_then free_name first) (option_and_then free_name second)) else
    (if (bytes_eq name (codes "same")) then (Some Same) else
    (if (bytes_eq name (codes "picture")) then (question_with_graph (option_and_then free_name first)) else None)))

abbrev pub question_found : Option (List ℕ × List Row) → Option Question
question_found None = None
question_found (Some p) = question_named p.0 (first_of (codes "first") p.1) (first_of (codes "second") p.1)
