-- What the reading of a text comes to.
use Rattle.std.specs.Prelude.{◌≡◌, List, ℕ}
use Rattle.lois_script.specs.Limits.{Spells}
use Rattle.lois_script.specs.Scope.{IsWellScoped}
use Rattle.lois_script.specs.Tree.{ScriptD}
use Rattle.lois_script.specs.View.{script_tree}
use Rattle.lois_scope.specs.declared.checking.ScopeError.{ScopeError}
use Rattle.lois_scope.specs.declared.checking.ScopeError.TheVariants.{Unknown, Again, OuterAssign, PrintInLoop, OrderInEquality}
use Rattle.lois_command.specs.Places.{IsPlaceOf}
use Rattle.lois_run.specs.Outcomes.{HasCauseNumber}
use Rattle.lois_run.specs.Refusals.{IsRefusedAs}
use Rattle.lois_run.specs.declared.outcomes.Refusal.{Refusal}
use Rattle.lois_run.specs.declared.outcomes.Refusal.TheVariants.{Scope}
use Rattle.lois_run.specs.declared.reading.Read.{Read}
use Rattle.lois_run.specs.declared.reading.Read.TheVariants.{Script, Refused}

abbrev pub IsScope : List ℕ → ℕ → ℕ → Refusal → Type 0
IsScope text number at (Scope n place) = (n ≡ number) × IsPlaceOf text at place
IsScope text number at _ = ⊥

-- the refusal tells the broken rule
abbrev pub ScopeTells : List ℕ → ScopeError → Refusal → Type 0
ScopeTells text (Unknown p) refusal = IsScope text 1 p.offset refusal
ScopeTells text (Again p) refusal = IsScope text 2 p.offset refusal
ScopeTells text (OuterAssign p) refusal = IsScope text 3 p.offset refusal
ScopeTells text (PrintInLoop p) refusal = IsScope text 4 p.offset refusal
ScopeTells text (OrderInEquality p) refusal = IsScope text 5 p.offset refusal
ScopeTells text _ refusal = ⊥

-- the text spells no well-scoped script
abbrev pub SpellsNone : List ℕ → Type 0
SpellsNone text = (s : ScriptD) → Spells text s → IsWellScoped s → ⊥

abbrev pub IsReadOf : List ℕ → Read → Type 0
IsReadOf text (Script s) = Spells text (script_tree s) × IsWellScoped (script_tree s)
IsReadOf text (Refused refusal) = IsRefusedAs text refusal × SpellsNone text × HasCauseNumber refusal
