-- Operations on operands that have values: which fit, what comes of them, and which operand fails.
use Rattle.std.specs.Prelude.{◌≡◌, ℕ, ◌⊎◌, ◌↔◌, Bool, List, [], ◌∷◌, ◌++◌}
use Rattle.lois_base.specs.Atom.{Atom}
use Rattle.lois_base.specs.Data.{TermD, TermsD, term, terms_of, CompD}
use Rattle.lois_base.specs.Fits.{Fits}
use Rattle.lois_base.specs.Validity.{AdmitsTerm, HasBoundedWidths}
use Rattle.lois_base.specs.Values.{PointValue, point, IsMember}
use Rattle.lois_meaning.specs.Expressions.{IsValidOperand, AreValidOperands, IsResultOf}
use Rattle.lois_meaning.specs.Faults.{IsInvalidOperand}
use Rattle.lois_meaning.specs.Kinds.{part_values, IsSet}
use Rattle.lois_script.specs.Tree.{ExprsD, expr, pos}
use Rattle.lois_algebra.specs.Sets.{IsSetOfSets}
use Rattle.lois_answers.specs.declared.faults.FaultKind.TheVariants.{NotASet}
use Rattle.lois_meaning.specs.declared.faults.Fault.{Fault}
use Rattle.lois_script.specs.declared.syntax.Operation.{Operation}
use Rattle.lois_script.specs.declared.syntax.Operation.TheVariants.{Union, Inter, Minus}
use Rattle.lois_base.specs.Truth.{sampled}
use Rattle.lois_context.specs.Choices.{IsAdmitted}
use Rattle.lois_context.specs.Entered.{HasNoMembers, item_of}
use Rattle.lois_terms.specs.Collections.{IsColl as IsSetTerm}
use Rattle.lois_context.specs.declared.contexts.Context.{Context}
use Rattle.lois_eval.specs.Throughout.{StandFor}
use Rattle.lois_eval.specs.Checks.{IsFaultAt}

-- the operations on two sets
abbrev pub IsOfTwoSets : Operation → Type 0
IsOfTwoSets Union = Unit {0}
IsOfTwoSets Inter = Unit {0}
IsOfTwoSets Minus = Unit {0}
IsOfTwoSets _ = ⊥

-- at each choice that the context admits the operands fit the operation, and t is what it makes of them
abbrev pub IsAppliedThroughout : Context → Operation → List TermD → TermD → Type 0
IsAppliedThroughout k op ts t =
    (c : List Atom) → IsAdmitted c k → AreValidOperands (part_values (terms_of ts) c) op × IsResultOf (point t c) op (part_values (terms_of ts) c)

-- The fault is of the first operand, and its value is unfit at the fault's sample and at all atoms that stand as its numbers do; or
-- the first operand is valid at each choice that the context admits, and the fault is of one behind it.
abbrev pub IsAtFirstUnfit : Bool → Context → Operation → ExprsD → TermsD → Fault → Type 0
IsAtFirstUnfit ordered k op (expr e es) (term t ts) f =
    ((f.pos.offset ≡ pos e) × ((c : List Atom) → StandFor ordered c f → IsInvalidOperand op (point t c) f.kind)) ⊎
    (((c : List Atom) → IsAdmitted c k → IsValidOperand (point t c) op) × IsAtFirstUnfit ordered k op es ts f)
IsAtFirstUnfit ordered k op _ _ f = ⊥

-- the fault of an operand that is unfit, under a sample that the context admits
pub record IsUnfitFault (ordered : Bool) (k : Context) (op : Operation) (es : ExprsD) (ts : TermsD) (f : Fault) : Type 0 where
  pub admitted : IsAdmitted (sampled f.sample.items) k
  pub first : IsAtFirstUnfit ordered k op es ts f
  pub elements : f.elements ≡ []

-- The sets among the members of t at each choice that the context admits are all of them, and r has these.
pub record HasSetsOf (k : Context) (t r : TermD) : Type 0 where
  pub sets : IsSetOfSets r
  pub members : (c : List Atom) → IsAdmitted c k → (u : PointValue) → IsMember u (point t c) ↔ IsMember u (point r c)
  pub levels : Fits k.size r
  pub operators : (o : Bool) → AdmitsTerm o t → AdmitsTerm o r
  pub widths : HasBoundedWidths t → HasBoundedWidths r

-- The comprehension is put behind the others if its item is a set, and else left out, since it has no members.
abbrev pub IsKeptIfSet : Context → CompD → List CompD → List CompD → Type 0
IsKeptIfSet k l before after = (IsSetTerm (item_of l) × (after ≡ before ++ l ∷ [])) ⊎ (HasNoMembers k l × (after ≡ before))

-- some member of t is no set at the fault's sample, which the context admits, nor at atoms that stand as its numbers do
pub record IsMemberFault (ordered : Bool) (k : Context) (t : TermD) (at : ℕ) (f : Fault) : Type 0 where
  pub fault : IsFaultAt k at f
  pub kind : f.kind ≡ NotASet
  pub no_set : (c : List Atom) → StandFor ordered c f → (u : PointValue) × IsMember u (point t c) × (IsSet u → ⊥)
