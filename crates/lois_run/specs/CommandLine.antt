-- The command line as clap is told of it, which words clap is asked about, and what is read of what clap found.
use Rattle.std.specs.Prelude.{◌&&◌, ◌||◌, Bool, true, false, not, List, [], ◌∷◌, Option, Some, None, option_map, option_and_then, codes, if◌then◌else◌, bytes_eq, nat_eq, ℕ}
use Rattle.std.specs.List.{starts_with}
use Rattle.std.specs.Option.{option_map_or}
use Rattle.clap.specs.Simple.{on_top}
use Rattle.clap.specs.Walk.{Row}
use Rattle.clap.specs.Words.{App, Rule, first_of, new_app, new_rule, with_rule, with_subcommand}
use Rattle.clap.specs.declared.builder.action.ArgAction.TheVariants.{Set}
use Rattle.lois_base.specs.declared.deciding.Kind.{Kind}
use Rattle.lois_command.specs.CommandWords.{is_dashed}
use Rattle.lois_command.specs.FreeNames.{free_name}
use Rattle.lois_run.specs.Words.{kind_named, number_named, command_with_number, command_with_names}
use Rattle.lois_run.specs.declared.words.Command.{Command}
use Rattle.lois_run.specs.declared.words.Command.TheVariants.{Run, Check, Reread, Registers, Census}

-- the option as one word, or as the first of two
abbrev pub is_option : List ℕ → Bool
is_option word = bytes_eq word (codes "--decider") || starts_with nat_eq word (codes "--decider=")

-- whether the option was seen, behind one more word; `None` where a word starts with a hyphen and isn't the option for the first time
abbrev pub seen_behind : Bool → List ℕ → Option Bool
seen_behind seen word = if (is_dashed word) then (if (not seen && is_option word) then (Some true) else None) else (Some seen)

-- each word that starts with a hyphen is the option, which stands there once at most, and not at all where it was seen before
abbrev pub are_expected : Bool → List (List ℕ) → Bool
are_expected seen [] = true
are_expected seen (word ∷ words) = option_map_or (λ behind. are_expected behind words) (seen_behind seen word) false

abbrev pub decider_option : Rule
decider_option = record (new_rule (codes "decider")) { long = Some (codes "decider"); action = Some Set }

abbrev pub bare_program : App
bare_program = on_top (λ s. record s { no_binary_name = true; disable_help_flag = true; disable_help_subcommand = true; subcommand_required = true }) (new_app (codes "lois"))

abbrev pub run_command : App
run_command = with_rule (new_app (codes "run")) decider_option

abbrev pub make_command : App
make_command = with_rule (with_rule (new_app (codes "make")) decider_option) (new_rule (codes "first"))

abbrev pub equal_command : App
equal_command = with_rule (with_rule (new_app (codes "equal")) (new_rule (codes "first"))) (new_rule (codes "second"))

abbrev pub census_command : App
census_command = with_rule (new_app (codes "census")) (new_rule (codes "first"))

-- the subcommands about scripts; the others
abbrev pub with_script_commands : App → App
with_script_commands app = with_subcommand (with_subcommand (with_subcommand app run_command.top) make_command.top) (new_app (codes "check")).top

abbrev pub with_answer_commands : App → App
with_answer_commands app =
    with_subcommand (with_subcommand (with_subcommand (with_subcommand app (new_app (codes "reread")).top) equal_command.top) (new_app (codes "registers")).top) census_command.top

-- one command with seven subcommands: `run` and `make` have an option, `make`, `equal` and `census` positional arguments
abbrev pub program : App
program = with_answer_commands (with_script_commands bare_program)

-- the kind that the value of the option names, where it was given
abbrev pub kind_given : Option (List ℕ) → Option (Option Kind)
kind_given None = Some None
kind_given (Some word) = option_map (λ kind. Some kind) (kind_named word)

-- the command of a subcommand about scripts or of `reread`, of the value of its option and of its positional argument
abbrev pub script_command : List ℕ → Option (List ℕ) → Option (List ℕ) → Option Command
script_command name decider first =
    if (bytes_eq name (codes "run")) then (option_map (λ kind. Run kind) (kind_given decider)) else
    (if (bytes_eq name (codes "make")) then (command_with_number (option_and_then number_named first) (kind_given decider)) else
    (if (bytes_eq name (codes "check")) then (Some Check) else
    (if (bytes_eq name (codes "reread")) then (Some Reread) else None)))

-- the command of any subcommand
abbrev pub command_named : List ℕ → Option (List ℕ) → Option (List ℕ) → Option (List ℕ) → Option Command
command_named name decider first second =
    if (bytes_eq name (codes "equal")) then (command_with_names (option_and_then free_name first) (option_and_then free_name second)) else
    (if (bytes_eq name (codes "census")) then (option_map (λ n. Census n) (option_and_then free_name first)) else
    (if (bytes_eq name (codes "registers")) then (Some Registers) else (script_command name decider first)))

abbrev pub command_found : Option (List ℕ × List Row) → Option Command
command_found None = None
command_found (Some p) = command_named p.0 (first_of (codes "decider") p.1) (first_of (codes "first") p.1) (first_of (codes "second") p.1)
