-- What the contexts are that the body of a loop comes to, from those that stand for the members.
use Rattle.std.specs.Prelude.{◌≡◌, ℕ, ◌≤◌, Bool, true, List, ◌∷◌, length, take, Some}
use Rattle.std.specs.List.{All, Contains}
use Rattle.lois_base.specs.Atom.{Atom}
use Rattle.lois_base.specs.Data.{TermD, depth}
use Rattle.lois_base.specs.Values.{PointValue, point}
use Rattle.lois_script.specs.Tree.{CondD, StmtsD}
use Rattle.lois_meaning.specs.Expressions.{HasTruth}
use Rattle.lois_meaning.specs.Runs.{BlockEnds, ListEnds}
use Rattle.lois_meaning.specs.Store.{NamedValues, named, looked_up, AreSameNamed}
use Rattle.lois_meaning.specs.declared.faults.Fault.{Fault}
use Rattle.lois_context.specs.Choices.{IsAdmitted, AdmitsContext, ContextHasBoundedWidths}
use Rattle.lois_context.specs.Slots.{SlotD, store_at}
use Rattle.lois_context.specs.LineValues.{line_values}
use Rattle.lois_context.specs.declared.contexts.Context.{Context}
use Rattle.lois_eval.specs.Throughout.{StandFor}
use Rattle.lois_eval.specs.WellFormed.{IsWellFormedIn}
use Rattle.lois_interp.specs.Assigned.{ListAssigns}
use Rattle.lois_interp.specs.Failed.{AreElements}
use Rattle.lois_interp.specs.Reached.{IsReachedContext}
use Rattle.lois_interp.specs.Run.{turn_run}
use Rattle.lois_interp.specs.WellScoped.{TurnIsWellScoped}

-- Where the condition holds at a choice of the context d, and what the body comes to from there.
pub record IsPassed (c : CondD) (body : StmtsD) (d f : Context) : Type 0 where
  pub reached : IsReachedContext (BlockEnds (ListEnds body)) (ListAssigns body) d f
  pub passes : (x : List Atom) → IsAdmitted x f → HasTruth c (store_at x d.store) true

-- some end is what the body comes to from d, and admits the choice
abbrev pub HasEndAt : CondD → StmtsD → List Context → Context → List Atom → Type 0
HasEndAt c body ends d x = (f : Context) × Contains ends f × IsAdmitted x f × IsPassed c body d f

-- The condition is decided at each choice of each context inside, and where it is true one of the ends goes on from there.
pub record LoopRuns (c : CondD) (body : StmtsD) (inside ends : List Context) : Type 0 where
  pub decided : (d : Context) → Contains inside d → (x : List Atom) → IsAdmitted x d → (b : Bool) × HasTruth c (store_at x d.store) b
  pub ended : (d : Context) → Contains inside d → (x : List Atom) → IsAdmitted x d → HasTruth c (store_at x d.store) true → HasEndAt c body ends d x
  pub started : (f : Context) → Contains ends f → (d : Context) × Contains inside d × IsPassed c body d f
  pub operators : (ordered : Bool) → All (IsWellFormedIn (TurnIsWellScoped c body) ordered) inside → All (AdmitsContext ordered) ends
  pub widths : All ContextHasBoundedWidths inside → All ContextHasBoundedWidths ends

-- The fault of the condition or of the body, from the context d that stands for members which x names: the atoms begin with
-- a choice that d admits, and the elements name the member there and then the path of the body's failure.
pub record FailsInsideAt (x : List ℕ) (c : CondD) (body : StmtsD) (d : Context) (f : Fault) (a : List Atom) : Type 0 where
  pub admitted : IsAdmitted (take d.size a) d
  pub member : PointValue
  pub rest : NamedValues
  pub held : looked_up x (store_at (take d.size a) d.store) ≡ Some member
  pub failed : (turn_run c body).fails (store_at (take d.size a) d.store) f.pos.offset f.kind rest
  pub path : AreSameNamed (named x member ∷ rest) (line_values a f.elements)

-- So it is at the fault's sample, and at all atoms that stand as its numbers do.
pub record FailsInside (ordered : Bool) (x : List ℕ) (c : CondD) (body : StmtsD) (d : Context) (f : Fault) : Type 0 where
  pub fails_at : (a : List Atom) → StandFor ordered a f → FailsInsideAt x c body d f a
  pub elements : AreElements (TurnIsWellScoped c body) d (length f.sample.items) f.elements

-- at each choice the name holds the term
pub record Holds (x : List ℕ) (store : List SlotD) (t : TermD) : Type 0 where
  pub value : (y : List Atom) → looked_up x (store_at y store) ≡ Some (point t y)
  pub slot : (s : SlotD) × Contains store s × (s.term ≡ t)

-- the name holds a term that is written within 64 brackets
pub record HoldsElement (x : List ℕ) (store : List SlotD) : Type 0 where
  pub item : TermD
  pub held : Holds x store item
  pub brackets : depth item ≤ 64
