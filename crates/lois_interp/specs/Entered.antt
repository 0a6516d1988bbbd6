-- The contexts that stand for the members of the set of a loop.
use Rattle.std.specs.Prelude.{◌≡◌, ℕ, ◌↔◌, Bool, List, [], ◌∷◌, ◌++◌, map}
use Rattle.std.specs.List.{All}
use Rattle.lois_base.specs.Atom.{Atom}
use Rattle.lois_base.specs.Data.{TermD}
use Rattle.lois_base.specs.Values.{PointValue, point, IsMember}
use Rattle.lois_script.specs.Tree.{ExprD}
use Rattle.lois_meaning.specs.Expressions.{Gives}
use Rattle.lois_meaning.specs.Kinds.{IsSetTerm}
use Rattle.lois_context.specs.Choices.{IsAdmitted, AdmitsContext, ContextHasBoundedWidths}
use Rattle.lois_context.specs.Entered.{IsHeldInside, ExtendsContext}
use Rattle.lois_context.specs.Joined.{IsEnd}
use Rattle.lois_context.specs.Slots.{slot_name, store_at}
use Rattle.lois_context.specs.declared.contexts.Context.{Context}
use Rattle.lois_eval.specs.WellFormed.{IsWellFormedIn, IsWellFormed}
use Rattle.lois_interp.specs.Looped.{HoldsElement}

-- Each of them goes on from the context before, and its last slot is the loop's name.
pub record StandsInside (e : ExprD) (x : List ℕ) (before d : Context) : Type 0 where
  pub goes_on : ExtendsContext before x d
  pub end : IsEnd before d
  pub named : map slot_name d.store ≡ map slot_name before.store ++ x ∷ []
  pub element : HoldsElement x d.store
  pub operators : (ordered : Bool) → IsWellFormedIn (IsWellFormed e) ordered before → AdmitsContext ordered d
  pub widths : ContextHasBoundedWidths before → ContextHasBoundedWidths d

-- The expression gives the set t, and the contexts stand for exactly its members, which x names.
pub record IsEntered (e : ExprD) (x : List ℕ) (before : Context) (inside : List Context) : Type 0 where
  pub elements : TermD
  pub gives : (a : List Atom) → IsAdmitted a before → Gives e (store_at a before.store) (point elements a)
  pub set : IsSetTerm elements
  pub members : (a : List Atom) → IsAdmitted a before → (u : PointValue) → IsMember u (point elements a) ↔ IsHeldInside inside x a u
  pub stand : All (StandsInside e x before) inside
