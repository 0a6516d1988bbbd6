-- What a fault says of the context that a run began in.
use Rattle.std.specs.Prelude.{◌≡◌, ℕ, ◌≤◌, Bool, List, ◌∷◌, ◌++◌, take, length}
use Rattle.std.specs.List.{All, Contains}
use Rattle.lois_base.specs.Atom.{Atom}
use Rattle.lois_base.specs.Data.{depth}
use Rattle.lois_base.specs.Validity.{AdmitsTerm, HasBoundedWidths}
use Rattle.lois_answers.specs.ResultsData.{LineD}
use Rattle.lois_script.specs.Tree.{StmtD}
use Rattle.lois_script.specs.View.{stmts_of}
use Rattle.lois_meaning.specs.Runs.{ListEnds}
use Rattle.lois_meaning.specs.Store.{NamedValues, AreSameNamed}
use Rattle.lois_meaning.specs.declared.faults.Fault.{Fault}
use Rattle.lois_context.specs.Choices.{IsAdmitted, ContextHasBoundedWidths}
use Rattle.lois_context.specs.Kept.{LinesFit}
use Rattle.lois_context.specs.Slots.{store_at}
use Rattle.lois_context.specs.LineValues.{line_values}
use Rattle.lois_context.specs.declared.contexts.Context.{Context}
use Rattle.lois_eval.specs.Throughout.{Failure, StandFor}
use Rattle.lois_eval.specs.WellFormed.{IsWellFormedIn}
use Rattle.lois_interp.specs.Run.{Run, block_run_at}

-- The elements fit n levels, are written within 64 brackets, and have no operator or width that the context and what is run
-- haven't.
pub record AreElements (stands : Bool → List (List ℕ) → Type 0) (k : Context) (n : ℕ) (elements : List LineD) : Type 0 where
  pub levels : LinesFit n elements
  pub brackets : All (λ l. depth l.term ≤ 64) elements
  pub operators : (ordered : Bool) → IsWellFormedIn stands ordered k → All (λ l. AdmitsTerm ordered l.term) elements
  pub widths : ContextHasBoundedWidths k → All (λ l. HasBoundedWidths l.term) elements

-- The atoms begin with a choice that the context admits. Under it the run fails at the fault's place and in its way, along a
-- path that its elements name at all the atoms.
pub record FailsAt (run : Run) (k : Context) (f : Fault) (c : List Atom) : Type 0 where
  pub admitted : IsAdmitted (take k.size c) k
  pub path : NamedValues
  pub failed : run.fails (store_at (take k.size c) k.store) f.pos.offset f.kind path
  pub named : AreSameNamed path (line_values c f.elements)

-- The run fails at the fault's sample, and at all atoms that stand as its numbers do.
pub record FailsWithin (ordered : Bool) (run : Run) (k : Context) (f : Fault) : Type 0 where
  pub fails_at : (c : List Atom) → StandFor ordered c f → FailsAt run k f c
  pub elements : AreElements run.stands k (length f.sample.items) f.elements

-- The fault is of one of a block's statements, and those before it end at each choice that the context admits.
pub record FailsBehind (ordered : Bool) (block : List StmtD) (k : Context) (f : Fault) : Type 0 where
  pub before : List StmtD
  pub one : StmtD
  pub behind : List StmtD
  pub whole : block ≡ before ++ one ∷ behind
  pub end_always : (c : List Atom) → IsAdmitted c k → (t lines : NamedValues) × ListEnds (stmts_of before) (store_at c k.store) t lines
  pub within : FailsWithin ordered (block_run_at before one behind) k f

-- the run fails with this place and kind, along some path
abbrev pub FailsAlongSome : Run → Failure
FailsAlongSome run s at kind = (path : NamedValues) × run.fails s at kind path

-- the fault is one of a run from one of the contexts
abbrev pub FailsFrom : Bool → Run → List Context → Fault → Type 0
FailsFrom ordered run before f = (k : Context) × Contains before k × FailsWithin ordered run k f
