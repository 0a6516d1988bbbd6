-- What each command does with the text that it reads.
use Rattle.std.specs.Prelude.{◌≡◌, ◌≤◌, ◌⊎◌, ℕ, List, length}
use Rattle.lois_script.specs.Limits.{Spells}
use Rattle.lois_script.specs.Scope.{IsWellScoped}
use Rattle.lois_script.specs.Tree.{ScriptD}
use Rattle.lois_script.specs.View.{script_tree}
use Rattle.lois_answers.specs.declared.results.Results.{Results}
use Rattle.lois_interp.specs.Interpreted.{AreResultsOf}
use Rattle.lois_make.specs.MadeCounts.{HasMadeCounts}
use Rattle.lois_make.specs.MadeTree.{made_tree}
use Rattle.lois_reader.specs.Refusal.{IsAnswerOf, IsResultsOf}
use Rattle.lois_registers.specs.Places.{IsRegistersOf}
use Rattle.lois_base.specs.declared.limits.TheConstants.{LONGEST_TEXT}
use Rattle.lois_command.specs.NoResults.{IsNoResults}
use Rattle.lois_run.specs.Headline.{Headline, Completes, NamesFailure, UnlessReadFault}
use Rattle.lois_run.specs.Lines.{Compares, Lists, Translates}
use Rattle.lois_run.specs.MadeCounts.{made_counts}
use Rattle.lois_run.specs.Refusals.{IsRefusedAs, IsNoAnswer, IsNoRegisters}
use Rattle.lois_run.specs.declared.outcomes.Outcome.{Outcome}
use Rattle.lois_run.specs.declared.outcomes.Outcome.TheVariants.{Completed, Failed, Reread, Checked, Made, Translated, Refused}
use Rattle.lois_run.specs.declared.outcomes.Refusal.{Refusal}
use Rattle.lois_run.specs.declared.outcomes.Refusal.TheVariants.{NotResults, NotRegisters}
use Rattle.lois_run.specs.declared.words.Command.{Command}
use Rattle.lois_run.specs.declared.words.Command.TheVariants as commands

-- What a command does with a text: the outcomes that it comes to unless it is refused, the refusals other than for its length, each
-- with its cause, and what is promised of a text, whatever comes. A fault is that the source's count of faults rose.
pub record Service : Type 1 where
  pub answers : List ℕ → Outcome → Type 0
  pub refuses : List ℕ → Refusal → Type 0
  pub promises : List ℕ → Type 0 → Outcome → Type 0

-- what the text is, in the form in which it is told
abbrev pub Tells : {A B : Type 0} → (A → B) → (List ℕ → A → Type 0) → List ℕ → B → Type 0
Tells {A} told IsOf text b = (a : A) × IsOf text a × (b ≡ told a)

-- each text of a value, within the limit, has an answer, unless reading failed
abbrev pub AnswersEach : {A : Type 0} → (List ℕ → A → Type 0) → (List ℕ → Outcome → Type 0) → List ℕ → Type 0 → Outcome → Type 0
AnswersEach {A} IsOf Answers text fault o = length text ≤ LONGEST_TEXT → (a : A) → IsOf text a → UnlessReadFault (Answers text o) fault o

-- of a command that is about the value whose text it is
abbrev pub serving : {A : Type 0} → (List ℕ → A → Type 0) → (List ℕ → Outcome → Type 0) → (List ℕ → Refusal → Type 0) → Service
serving IsOf Answers Refuses = record { answers = Answers; refuses = Refuses; promises = AnswersEach IsOf Answers }

abbrev pub SpellsScoped : List ℕ → ScriptD → Type 0
SpellsScoped text s = Spells text s × IsWellScoped s

-- what completes or fails is the well-scoped script that the text spells
abbrev pub RunsTo : List ℕ → Outcome → Type 0
RunsTo text (Completed r) = (s : ScriptD) × Spells text s × IsWellScoped s × Completes s r
RunsTo text (Failed t) = (s : ScriptD) × Spells text s × IsWellScoped s × NamesFailure text s t
RunsTo text _ = ⊥

abbrev pub run : Service
run = record { answers = RunsTo; refuses = IsRefusedAs; promises = Headline }

-- each well-scoped script passes, as it is
abbrev pub check : Service
check = serving SpellsScoped (Tells (λ s. Checked s) (λ text s. SpellsScoped text (script_tree s))) IsRefusedAs

-- sound results and sound traces are written again
abbrev pub reread : Service
reread = serving IsAnswerOf (Tells (λ a. Reread a) IsAnswerOf) (Tells (λ place. NotResults place) IsNoAnswer)

-- register automata are translated
abbrev pub registers : Service
registers = serving IsRegistersOf (Tells (λ r. Translated r) Translates) (Tells (λ place. NotRegisters place) IsNoRegisters)

-- what is found in the lines of results is told, also where it is a refusal
abbrev pub about_lines : (List ℕ → Outcome → Type 0) → Service
about_lines Finds = serving IsResultsOf Finds (λ text refusal. Tells (λ place. NotResults place) IsNoResults text refusal ⊎ Finds text (Refused refusal))

-- results of the made script with n loops, and what they come to
abbrev pub HasMadeResults : ℕ → Type 0
HasMadeResults n = (r : Results) × AreResultsOf (made_tree n) r × HasMadeCounts n r

-- no text is read and nothing refused; the counts are those of so many loops, and the made script has results, which come to them
abbrev pub make : ℕ → Service
make n = record { answers = λ text o. (o ≡ Made (made_counts n)) × HasMadeResults n; refuses = λ text refusal. ⊥; promises = λ text fault o. o ≡ Made (made_counts n) }

abbrev pub service_of : Command → Service
service_of (commands.Run kind) = run
service_of commands.Check = check
service_of commands.Reread = reread
service_of (commands.Make n kind) = make n
service_of (commands.Equal first second) = about_lines (Compares first second)
service_of commands.Registers = registers
service_of (commands.Census name) = about_lines (Lists name)
