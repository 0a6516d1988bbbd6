-- What holds at each choice of atoms that a context admits, and what fails at some.
use Rattle.std.specs.Prelude.{◌≡◌, ℕ, Bool, List, []}
use Rattle.lois_base.specs.Atom.{Atom}
use Rattle.lois_base.specs.Data.{TermD, terms_of}
use Rattle.lois_base.specs.Patterns.{AreAlike}
use Rattle.lois_base.specs.Truth.{holds, sampled}
use Rattle.lois_base.specs.Values.{point}
use Rattle.lois_base.specs.declared.guards.Lit.{Lit}
use Rattle.lois_meaning.specs.Expressions.{Gives, GiveAll, HasTruth}
use Rattle.lois_meaning.specs.Kinds.{part_values}
use Rattle.lois_meaning.specs.Store.{NamedValues}
use Rattle.lois_script.specs.Tree.{ExprD, ExprsD, CondD}
use Rattle.lois_meaning.specs.declared.faults.Fault.{Fault}
use Rattle.lois_answers.specs.declared.faults.FaultKind.{FaultKind}
use Rattle.lois_meaning.specs.declared.faults.Stop.{Stop}
use Rattle.lois_meaning.specs.declared.faults.Stop.TheVariants as Stops
use Rattle.lois_context.specs.Choices.{IsAdmitted}
use Rattle.lois_context.specs.Slots.{store_at}
use Rattle.lois_context.specs.declared.contexts.Context.{Context}

-- at each choice that the context admits, the expression gives the value of the term
abbrev pub IsValueThroughout : Context → ExprD → TermD → Type 0
IsValueThroughout k e t = (c : List Atom) → IsAdmitted c k → Gives e (store_at c k.store) (point t c)

-- the same of the expressions and the terms, one by one
abbrev pub AreValuesThroughout : Context → ExprsD → List TermD → Type 0
AreValuesThroughout k es ts = (c : List Atom) → IsAdmitted c k → GiveAll es (store_at c k.store) (part_values (terms_of ts) c)

-- at each choice that the context admits, the condition has the truth that the constraint has there
abbrev pub IsTruthThroughout : Context → CondD → List (List Lit) → Type 0
IsTruthThroughout k c g = (d : List Atom) → IsAdmitted d k → HasTruth c (store_at d k.store) (holds d g)

-- a way to fail at a store, with a place and a kind
abbrev pub Failure : Type 1
Failure = NamedValues → ℕ → FaultKind → Type 0

-- at no choice that the context admits
abbrev pub FailsNowhere : Context → Failure → Type 0
FailsNowhere k fails = (c : List Atom) → IsAdmitted c k → (at : ℕ) (kind : FaultKind) → fails (store_at c k.store) at kind → ⊥

-- atoms that are equal where the numbers of the fault's sample are, and where they are ordered in the same order
abbrev pub StandFor : Bool → List Atom → Fault → Type 0
StandFor ordered c f = AreAlike ordered (sampled f.sample.items) c

-- At the fault's sample, and at all atoms that stand as its numbers do, the context admits them, and the failure has its place
-- and kind; it names no elements.
pub record IsFaultOf (ordered : Bool) (k : Context) (fails : Failure) (f : Fault) : Type 0 where
  pub admitted : (c : List Atom) → StandFor ordered c f → IsAdmitted c k
  pub failure : (c : List Atom) → StandFor ordered c f → fails (store_at c k.store) f.pos.offset f.kind
  pub elements : f.elements ≡ []

-- if it is a fault and not want of memory
abbrev pub IfFault : Stop → (Fault → Type 0) → Type 0
IfFault (Stops.Fault f) P = P f
IfFault Stops.NoMemory P = Unit {0}
