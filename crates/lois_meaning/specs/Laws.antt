-- Three laws of the meaning, each for every script and every store.
use Rattle.std.specs.Prelude.{◌≡◌, ℕ, Bool, List, ◌++◌, map}
use Rattle.lois_base.specs.Atom.{Atom}
use Rattle.lois_base.specs.Values.{PointValue, IsSame}
use Rattle.lois_meaning.specs.Expressions.{Gives, HasTruth}
use Rattle.lois_meaning.specs.Faults.{Fails, CondFails}
use Rattle.lois_meaning.specs.Runs.{ListEnds, ListFails, ScriptEnds, ScriptFails}
use Rattle.lois_meaning.specs.Store.{NamedValues, AreSameNamed}
use Rattle.lois_meaning.specs.ProperStores.{name_of}
use Rattle.lois_script.specs.Tree.{ExprD, CondD, StmtsD, ScriptD}
use Rattle.lois_answers.specs.declared.faults.FaultKind.{FaultKind}

-- From stores that are the same come the same values, truths, failures and ends.
pub record RunsAlike : Type 0 where
  pub values : (e : ExprD) (s t : NamedValues) (v w : PointValue) → AreSameNamed s t → IsSame v w → Gives e s v → Gives e t w
  pub truths : (c : CondD) (s t : NamedValues) (b : Bool) → AreSameNamed s t → HasTruth c s b → HasTruth c t b
  pub faults : (e : ExprD) (s t : NamedValues) (at : ℕ) (k : FaultKind) → AreSameNamed s t → Fails e s at k → Fails e t at k
  pub cond_faults : (c : CondD) (s t : NamedValues) (at : ℕ) (k : FaultKind) → AreSameNamed s t → CondFails c s at k → CondFails c t at k
  pub ends : (l : StmtsD) (s s' t t' lines lines' : NamedValues) →
      AreSameNamed s s' → AreSameNamed t t' → AreSameNamed lines lines' → ListEnds l s t lines → ListEnds l s' t' lines'
  pub failures : (l : StmtsD) (s t : NamedValues) (at : ℕ) (k : FaultKind) (path : NamedValues) →
      AreSameNamed s t → ListFails l s at k path → ListFails l t at k path

-- What an expression gives, whether a condition is true, and what a run ends with and prints is determined up to `IsSame`.
pub record IsDetermined : Type 0 where
  pub values : (e : ExprD) (s : NamedValues) (v w : PointValue) → Gives e s v → Gives e s w → IsSame v w
  pub truths : (c : CondD) (s : NamedValues) (a b : Bool) → HasTruth c s a → HasTruth c s b → a ≡ b
  pub ends : (l : StmtsD) (s t u lines more : NamedValues) →
      ListEnds l s t lines → ListEnds l s u more → AreSameNamed t u × AreSameNamed lines more
  pub scripts : (script : ScriptD) (choice : List Atom) (lines more : NamedValues) →
      ScriptEnds script choice lines → ScriptEnds script choice more → AreSameNamed lines more

-- Nothing both gives a value and fails, and no run both ends and fails, at any place, in any way, along any path.
pub record NeverBoth : Type 0 where
  pub values : (e : ExprD) (s : NamedValues) (v : PointValue) (at : ℕ) (k : FaultKind) → Gives e s v → Fails e s at k → ⊥
  pub truths : (c : CondD) (s : NamedValues) (b : Bool) (at : ℕ) (k : FaultKind) → HasTruth c s b → CondFails c s at k → ⊥
  pub ends : (l : StmtsD) (s t lines : NamedValues) (at : ℕ) (k : FaultKind) (path : NamedValues) →
      ListEnds l s t lines → ListFails l s at k path → ⊥
  pub scripts : (script : ScriptD) (choice : List Atom) (lines : NamedValues) (at : ℕ) (k : FaultKind) (path : NamedValues) →
      ScriptEnds script choice lines → ScriptFails script choice at k path → ⊥

-- A run keeps the names of its store, first and in order, and adds names after them; so a block's first names are the old ones.
abbrev pub KeepsNames : Type 0
KeepsNames = (l : StmtsD) (s t lines : NamedValues) → ListEnds l s t lines →
    (made : List (List ℕ)) × (map name_of t ≡ map name_of s ++ made)
