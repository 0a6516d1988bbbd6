-- Which operand a fault is of: the leftmost one that fails at any choice which the context admits, not at the fault's alone.
use Rattle.std.specs.Prelude.{Bool, ◌⊎◌}
use Rattle.lois_base.specs.Values.{PointValue}
use Rattle.lois_answers.specs.declared.faults.FaultKind.{FaultKind}
use Rattle.lois_context.specs.declared.contexts.Context.{Context}
use Rattle.lois_meaning.specs.Faults.{IsNoAtom, IsNoSet, IsInvalidOperand, OperandFails, Fails, SomeFails}
use Rattle.lois_meaning.specs.declared.faults.Fault.{Fault}
use Rattle.lois_script.specs.Tree.{ExprD, tuple, listed, part, apply, ExprsD, no_exprs, expr, CondD, below, included}
use Rattle.lois_eval.specs.Forms.{two, sides_of}
use Rattle.lois_eval.specs.Throughout.{FailsNowhere, IsFaultOf}

-- the fault is of one of the expressions, whose value is unfit in this way, and those to its left are unfit nowhere; or none is
abbrev pub IsOfLeftmostUnfit : Bool → Context → (PointValue → FaultKind → Type 0) → ExprsD → Fault → Type 0
IsOfLeftmostUnfit o k row no_exprs f = Unit {0}
IsOfLeftmostUnfit o k row (expr e es) f =
    IsFaultOf o k (OperandFails row e) f ⊎ (FailsNowhere k (OperandFails row e) × IsOfLeftmostUnfit o k row es f)

-- the same where none of the expressions fails by itself
abbrev pub IsOfUnfitIfNoneFails : Bool → Context → (PointValue → FaultKind → Type 0) → ExprsD → Fault → Type 0
IsOfUnfitIfNoneFails o k row es f = FailsNowhere k (SomeFails es) → IsOfLeftmostUnfit o k row es f

abbrev mutual
  -- the fault is of one of the expressions, and those to its left fail nowhere; or none of them fails
  pub IsOfLeftmost : Bool → Context → ExprsD → Fault → Type 0
  IsOfLeftmost o k no_exprs f = Unit {0}
  IsOfLeftmost o k (expr e es) f = (IsFaultOf o k (Fails e) f × IsOfLeftmostOperand o k e f) ⊎ (FailsNowhere k (Fails e) × IsOfLeftmost o k es f)

  -- the same of the expression's operands, and of theirs; where each gives a valid one, the fault is the expression's own
  pub IsOfLeftmostOperand : Bool → Context → ExprD → Fault → Type 0
  IsOfLeftmostOperand o k (tuple p es) f = IsOfLeftmost o k es f
  IsOfLeftmostOperand o k (listed p es) f = IsOfLeftmost o k es f
  IsOfLeftmostOperand o k (apply p op es) f = IsOfLeftmost o k es f × IsOfUnfitIfNoneFails o k (IsInvalidOperand op) es f
  IsOfLeftmostOperand o k (part p e n) f = (IsFaultOf o k (Fails e) f × IsOfLeftmostOperand o k e f) ⊎ FailsNowhere k (Fails e)
  IsOfLeftmostOperand o k _ f = Unit {0}

-- the same of the two sides of a comparison
abbrev pub IsOfLeftmostSide : Bool → Context → CondD → Fault → Type 0
IsOfLeftmostSide o k (below p d e) f = IsOfLeftmost o k (two d e) f × IsOfUnfitIfNoneFails o k IsNoAtom (two d e) f
IsOfLeftmostSide o k (included d e) f = IsOfLeftmost o k (two d e) f × IsOfUnfitIfNoneFails o k IsNoSet (two d e) f
IsOfLeftmostSide o k c f = IsOfLeftmost o k (sides_of c) f
