-- The words that the program takes, each the list of its bytes: `run`, `check`, `reread`, `make` with a number from
-- 1 to 10,000, `equal` with two names, `registers`, and `census` with a name. `run` and `make` take the option
-- `--decider plain`, `--decider=plain` or the like, `make` behind the number or before it.
use Rattle.std.specs.Prelude.{◌≡◌, ◌&&◌, Bool, true, false, IsTrue, not, List, [], ◌∷◌, Option, Some, None, option_map, option_and_then, codes, if◌then◌else◌, bytes_eq, nat_eq, nat_le, ℕ}
use Rattle.std.specs.Char.{is_ascii_digit}
use Rattle.std.specs.List.{All, list_all, starts_with}
use Rattle.std.specs.Option.{option_or}
use Rattle.lois_base.specs.declared.deciding.Kind.{Kind}
use Rattle.lois_base.specs.declared.deciding.Kind.TheVariants.{Plain, Graph, Memo}
use Rattle.lois_deciders.specs.Choice.{IsUnwanted}
use Rattle.lois_command.specs.FreeNames.{free_name}
use Rattle.lois_script.specs.Grammar.{decimal}
use Rattle.lois_run.specs.declared.words.Command.{Command}
use Rattle.lois_run.specs.declared.words.Command.TheVariants.{Run, Check, Reread, Make, Equal, Registers, Census}

abbrev pub kind_named : List ℕ → Option Kind
kind_named word =
    if (bytes_eq word (codes "plain")) then (Some Plain) else
    (if (bytes_eq word (codes "graph")) then (Some Graph) else
    (if (bytes_eq word (codes "memo")) then (Some Memo) else None))

abbrev pub kind_chosen : List ℕ → Option Kind
kind_chosen option =
    if (bytes_eq option (codes "--decider=plain")) then (Some Plain) else
    (if (bytes_eq option (codes "--decider=graph")) then (Some Graph) else
    (if (bytes_eq option (codes "--decider=memo")) then (Some Memo) else None))

-- decimal digits that don't begin with 0, for a number from 1 to 10,000
abbrev pub is_loop_count : List ℕ → Bool
is_loop_count word = list_all is_ascii_digit word && not (starts_with nat_eq word (codes "0")) && nat_le 1 (decimal word) && nat_le (decimal word) 10000

abbrev pub number_named : List ℕ → Option ℕ
number_named word = if (is_loop_count word) then (Some (decimal word)) else None

abbrev pub command_with_names : Option (List ℕ) → Option (List ℕ) → Option Command
command_with_names first second = option_and_then (λ one. option_map (λ other. Equal one other) second) first

-- the words behind `equal`; behind `census`
abbrev pub two_names : List (List ℕ) → Option Command
two_names (first ∷ second ∷ []) = command_with_names (free_name first) (free_name second)
two_names _ = None

abbrev pub one_name : List (List ℕ) → Option Command
one_name (name ∷ []) = option_map (λ n. Census n) (free_name name)
one_name _ = None

-- the kind that is wanted by no option, by the option in one word and by the option in two words
abbrev pub option_named : List (List ℕ) → Option (Option Kind)
option_named [] = Some None
option_named (option ∷ []) = option_map (λ kind. Some kind) (kind_chosen option)
option_named (option ∷ kind ∷ []) = if (bytes_eq option (codes "--decider")) then (option_map (λ k. Some k) (kind_named kind)) else None
option_named _ = None

abbrev pub command_with_number : Option ℕ → Option (Option Kind) → Option Command
command_with_number number kind = option_and_then (λ n. option_map (λ k. Make n k) kind) number

-- the words behind `make`: a number, then no option or one
abbrev pub number_first : List (List ℕ) → Option Command
number_first [] = None
number_first (number ∷ option) = command_with_number (number_named number) (option_named option)

-- the words behind `make`: an option, then a number
abbrev pub number_last : List (List ℕ) → Option Command
number_last (word ∷ number ∷ []) = command_with_number (number_named number) (option_named (word ∷ []))
number_last (word ∷ kind ∷ number ∷ []) = command_with_number (number_named number) (option_named (word ∷ kind ∷ []))
number_last _ = None

-- a command that takes no further words
abbrev pub command_alone : Command → List (List ℕ) → Option Command
command_alone command [] = Some command
command_alone command _ = None

abbrev pub command_of : List (List ℕ) → Option Command
command_of [] = None
command_of (word ∷ words) =
    if (bytes_eq word (codes "run")) then (option_map (λ kind. Run kind) (option_named words)) else
    (if (bytes_eq word (codes "make")) then (option_or (number_first words) (number_last words)) else
    (if (bytes_eq word (codes "check")) then (command_alone Check words) else
    (if (bytes_eq word (codes "reread")) then (command_alone Reread words) else
    (if (bytes_eq word (codes "equal")) then (two_names words) else
    (if (bytes_eq word (codes "registers")) then (command_alone Registers words) else
    (if (bytes_eq word (codes "census")) then (one_name words) else None))))))

-- the words ask for this
abbrev pub Requests : Command → List (List ℕ) → Type 0
Requests command words = command_of words ≡ Some command

-- which decider the command wants, of which kind where one is named
abbrev pub wanted_kind : Command → Option Kind
wanted_kind (Run kind) = kind
wanted_kind (Make number kind) = kind
wanted_kind _ = None

abbrev pub asks_decider : Command → Bool
asks_decider Check = false
asks_decider Reread = false
asks_decider Registers = false
asks_decider _ = true

-- a command that asks a decider has none of the named kind, or none at all
abbrev pub LacksDecider : Command → List Kind → Type 0
LacksDecider command kinds = IsTrue (asks_decider command) × All (IsUnwanted (wanted_kind command)) kinds

-- The words ask for nothing, or for something that lacks its decider. They ask for one thing at most.
abbrev pub IsUsage : List (List ℕ) → List Kind → Type 0
IsUsage words kinds = (command : Command) → Requests command words → LacksDecider command kinds
