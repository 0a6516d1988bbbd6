-- A context and the two sides of it on which a condition is true and false.
use Rattle.std.specs.Prelude.{Bool, true, false, List, [], ◌∷◌, ◌++◌, Option, Some, None, IfSome}
use Rattle.lois_base.specs.Atom.{Atom}
use Rattle.lois_script.specs.Tree.{CondD}
use Rattle.lois_meaning.specs.Expressions.{HasTruth}
use Rattle.lois_context.specs.Choices.{IsAdmitted, AdmitsContext, ContextHasBoundedWidths}
use Rattle.lois_context.specs.Counted.{AdmitAlike}
use Rattle.lois_context.specs.Slots.{store_at}
use Rattle.lois_context.specs.declared.contexts.Context.{Context}
use Rattle.lois_context.specs.declared.contexts.Split.{Split}
use Rattle.lois_eval.specs.WellFormed.{IsWellFormedIn, CondIsWellFormed}
use Rattle.lois_interp.specs.Merged.{HoldsTheSame}

-- a context that may be missing, as a list
abbrev pub listed_context : Option Context → List Context
listed_context None = []
listed_context (Some k) = k ∷ []

-- the part of the context at whose choices the condition has the truth b
pub record IsTrueSide (c : CondD) (b : Bool) (before d : Context) : Type 0 where
  pub like : HoldsTheSame before d
  pub within : (x : List Atom) → IsAdmitted x d → IsAdmitted x before
  pub truth : (x : List Atom) → IsAdmitted x d → HasTruth c (store_at x before.store) b
  pub operators : (ordered : Bool) → IsWellFormedIn (CondIsWellFormed c) ordered before → AdmitsContext ordered d
  pub widths : ContextHasBoundedWidths before → ContextHasBoundedWidths d

-- The condition is decided at each choice, which is admitted by exactly the side that its truth there names.
pub record IsDecided (c : CondD) (before : Context) (s : Split) : Type 0 where
  pub decided : (x : List Atom) → IsAdmitted x before → (b : Bool) × HasTruth c (store_at x before.store) b
  pub yes : IfSome s.yes (IsTrueSide c true before)
  pub no : IfSome s.no (IsTrueSide c false before)
  pub choices : AdmitAlike (before ∷ []) (listed_context s.yes ++ listed_context s.no)
