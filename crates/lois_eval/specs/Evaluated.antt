-- What the steps of the evaluation promise.
use Rattle.std.specs.Prelude.{◌≡◌, ℕ, Bool, List, length}
use Rattle.lois_base.specs.Atom.{Atom}
use Rattle.lois_base.specs.Data.{TermD, terms_of}
use Rattle.lois_base.specs.Fits.{Fits, PartsFit, ConstraintFits}
use Rattle.lois_base.specs.Truth.{holds}
use Rattle.lois_base.specs.Validity.{AdmitsConstraint, AdmitsTerm, AdmitsParts, HasBoundedWidths, PartsHaveBoundedWidths}
use Rattle.lois_base.specs.Values.{PointValue, point, IsMember}
use Rattle.lois_base.specs.declared.guards.Lit.{Lit}
use Rattle.lois_meaning.specs.Store.{NamedValues}
use Rattle.lois_script.specs.Tree.{ExprsD}
use Rattle.lois_context.specs.Choices.{IsAdmitted, ContextHasBoundedWidths}
use Rattle.lois_context.specs.Slots.{store_at}
use Rattle.lois_context.specs.declared.contexts.Context.{Context}
use Rattle.lois_eval.specs.Throughout.{AreValuesThroughout}
use Rattle.lois_eval.specs.WellFormed.{IsWellFormedIn, count_of}

-- The term has, at each choice that the context admits, a value that P holds of at the store there. It fits the context, and
-- has only operators that are admitted wherever what it comes from stands.
pub record IsTermOf (k : Context) (P : NamedValues → PointValue → Type 0) (stands : Bool → List (List ℕ) → Type 0) (t : TermD) : Type 0 where
  pub value : (c : List Atom) → IsAdmitted c k → P (store_at c k.store) (point t c)
  pub levels : Fits k.size t
  pub operators : (o : Bool) → IsWellFormedIn stands o k → AdmitsTerm o t
  pub widths : ContextHasBoundedWidths k → HasBoundedWidths t

-- the same of terms for a list of expressions
pub record AreTermsOf (k : Context) (es : ExprsD) (stands : Bool → List (List ℕ) → Type 0) (ts : List TermD) : Type 0 where
  pub count : length ts ≡ count_of es
  pub values : AreValuesThroughout k es ts
  pub levels : PartsFit k.size (terms_of ts)
  pub operators : (o : Bool) → IsWellFormedIn stands o k → AdmitsParts o (terms_of ts)
  pub widths : ContextHasBoundedWidths k → PartsHaveBoundedWidths (terms_of ts)

-- The constraint has, at each choice that the context admits, the truth of which P holds at the store there.
pub record IsConstraintOf (k : Context) (P : NamedValues → Bool → Type 0) (stands : Bool → List (List ℕ) → Type 0) (g : List (List Lit)) : Type 0 where
  pub truth : (c : List Atom) → IsAdmitted c k → P (store_at c k.store) (holds c g)
  pub levels : ConstraintFits k.size g
  pub operators : (o : Bool) → IsWellFormedIn stands o k → AdmitsConstraint o g

-- The set has members only where the context admits the choice.
abbrev pub HasMembersOnlyWhereAdmitted : Context → TermD → Type 0
HasMembersOnlyWhereAdmitted k t = (c : List Atom) → length c ≡ k.size → (w : PointValue) → IsMember w (point t c) → IsAdmitted c k
