-- What is proved of the made script.
use Rattle.std.specs.Prelude.{◌≡◌, ℕ, min, List, [], ◌∷◌, codes}
use Rattle.lois_script.specs.Limits.{Spells}
use Rattle.lois_script.specs.Scope.{IsWellScoped}
use Rattle.lois_make.specs.MadeScript.{made_script}
use Rattle.lois_answers.specs.declared.faults.FaultKind.{FaultKind}
use Rattle.lois_base.specs.Atom.{Atom}
use Rattle.lois_base.specs.Values.{PointValue, point}
use Rattle.lois_base.specs.Data.{TermD}
use Rattle.lois_base.specs.Fits.{Fits}
use Rattle.lois_base.specs.Normal.{IsNormal}
use Rattle.lois_base.specs.OrderFree.{IsOrderFreeTerm}
use Rattle.lois_base.specs.declared.guards.Lit.{Lit}
use Rattle.lois_context.specs.ItemCounts.{comps_in}
use Rattle.lois_meaning.specs.Kinds.{IsSetOf}
use Rattle.lois_meaning.specs.Runs.{ScriptEnds, ScriptFails}
use Rattle.lois_meaning.specs.Store.{NamedValues, named}
use Rattle.lois_make.specs.MadeTree.{made_tree}
use Rattle.lois_make.specs.MadeValue.{IsMade}
use Rattle.lois_answers.specs.declared.results.Results.{Results}
use Rattle.lois_interp.specs.Interpreted.{AreResultsOf}
use Rattle.lois_make.specs.MadeCounts.{HasMadeCounts}

-- The made script spells its tree, which keeps the limits.
abbrev pub MadeIsSpelled : Type 0
MadeIsSpelled = (n : ℕ) → Spells (made_script n) (made_tree n)

abbrev pub MadeIsWellScoped : Type 0
MadeIsWellScoped = (n : ℕ) → IsWellScoped (made_tree n)

-- It prints one line, with the set of the pairs, and fails nowhere.
pub record MadePrintsPairs (n : ℕ) (choice : List Atom) : Type 0 where
  pub pairs : PointValue
  pub ends : ScriptEnds (made_tree n) choice (named (codes "s") pairs ∷ [])
  pub members : IsSetOf pairs (IsMade n)

abbrev pub MadeEnds : Type 0
MadeEnds = (n : ℕ) (choice : List Atom) → MadePrintsPairs n choice

abbrev pub MadeNeverFails : Type 0
MadeNeverFails = (n : ℕ) (choice : List Atom) (at : ℕ) (kind : FaultKind) (path : NamedValues) → ScriptFails (made_tree n) choice at kind path → ⊥

-- A normal set of these pairs has one comprehension for each tag, and there are seven.
abbrev pub NormalHasOneForEach : Type 0
NormalHasOneForEach = (n : ℕ) (t : TermD) (u : List (List Lit)) →
    Fits 0 t → IsOrderFreeTerm t → IsNormal t u 0 → IsSetOf (point t []) (IsMade n) → comps_in t ≡ min n 7

-- All results of the made script have the same counts.
abbrev pub ResultsHaveMadeCounts : Type 0
ResultsHaveMadeCounts = (n : ℕ) (r : Results) → AreResultsOf (made_tree n) r → HasMadeCounts n r
