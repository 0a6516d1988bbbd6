-- Stores that are the same have the same failures of expressions and conditions.
use Rattle.std.proofs.Common.{ℕ, true}
use mathlib.Core.Logic.{inl, inr}
use Rattle.lois_base.specs.Values.{PointValue}
use Rattle.lois_meaning.specs.Expressions.{Reaches}
use Rattle.lois_meaning.specs.Faults.{IsNoSet, HasNoPart, IsNoAutomaton, OperandFails, SomeOperandFails, MakesTooDeep, Failing, Breaks, SomeFails, SomeSetFails, CondFails, SomeCondFails, Fails}
use Rattle.lois_meaning.specs.Store.{NamedValues, stored, AreSameNamed}
use Rattle.lois_script.specs.Tree.{ExprD, atoms, var, tag, tuple, listed, each, part, apply, ExprsD, no_exprs, expr, binding, BindingsD, no_bindings, bind, CondD, truth, falsity, same, differ, below, member, included, empty, not, all, any, exists, every, CondsD, no_conds, cond}
use Rattle.lois_answers.specs.declared.faults.FaultKind.{FaultKind}
use Rattle.lois_meaning.proofs.Moves.{makes_from, gives_from, give_all_from, reaches_from, truth_from}
use Rattle.lois_meaning.proofs.Stores.{stored_in}

deep_move : (e : ExprD) (s t : NamedValues) (at : ℕ) (k : FaultKind) → AreSameNamed s t → MakesTooDeep e s at k → MakesTooDeep e t at k
deep_move e s t at k h (p, q, v, m, deep) = (p, q, v, makes_from e s t v h m, deep)

pub operand_move : (row : PointValue → FaultKind → Type 0) (e : ExprD) (s t : NamedValues) (at : ℕ) (k : FaultKind) → AreSameNamed s t → OperandFails row e s at k → OperandFails row e t at k
operand_move row e s t at k h (p, v, g, r) = (p, v, gives_from e s t v h g, r)

some_operand_move : (fit : PointValue → Type 0) (row : PointValue → FaultKind → Type 0) (es : ExprsD) (s t : NamedValues) (at : ℕ) (k : FaultKind) → AreSameNamed s t → SomeOperandFails fit row es s at k → SomeOperandFails fit row es t at k
some_operand_move fit row es s t at k h (vs, g, b) = (vs, give_all_from es s t vs h g, b)

failed_move : (e : ExprD) (s t : NamedValues) (at : ℕ) (k : FaultKind) → AreSameNamed s t → (Breaks e s at k → Breaks e t at k) → Failing (Breaks e) e s at k → Failing (Breaks e) e t at k
failed_move e s t at k h f (inl b) = inl (f b)
failed_move e s t at k h f (inr b) = inr (deep_move e s t at k h b)

mutual
  pub breaks_move : (e : ExprD) (s t : NamedValues) (at : ℕ) (k : FaultKind) → AreSameNamed s t → Breaks e s at k → Breaks e t at k
  breaks_move (atoms p) s t at k h b = b
  breaks_move (var p x) s t at k h b = b
  breaks_move (tag p name) s t at k h b = b
  breaks_move (tuple p es) s t at k h b = some_fails_move es s t at k h b
  breaks_move (listed p es) s t at k h b = some_fails_move es s t at k h b
  breaks_move (each p item bs c) s t at k h (inl b) = inl (range_fails_move bs s t at k h b)
  breaks_move (each p item bs c) s t at k h (inr (inl (u, r, b))) =
      let to : (u' : NamedValues) × Reaches bs t u' × AreSameNamed u u' = reaches_from bs s t u h r in
      inr (inl (to.0, to.1, cond_fails_move c u to.0 at k to.2 b))
  breaks_move (each p item bs c) s t at k h (inr (inr (u, r, y, b))) =
      let to : (u' : NamedValues) × Reaches bs t u' × AreSameNamed u u' = reaches_from bs s t u h r in
      inr (inr (to.0, to.1, truth_from c u to.0 true to.2 y, failed_move item u to.0 at k to.2 (breaks_move item u to.0 at k to.2) b))
  breaks_move (part p e n) s t at k h (inl b) = inl (failed_move e s t at k h (breaks_move e s t at k h) b)
  breaks_move (part p e n) s t at k h (inr b) = inr (operand_move (HasNoPart n) e s t at k h b)
  breaks_move (apply p op es) s t at k h (inl b) = inl (some_fails_move es s t at k h b)
  breaks_move (apply p op es) s t at k h (inr b) = inr (some_operand_move _ _ es s t at k h b)

  pub some_fails_move : (es : ExprsD) (s t : NamedValues) (at : ℕ) (k : FaultKind) → AreSameNamed s t → SomeFails es s at k → SomeFails es t at k
  some_fails_move no_exprs s t at k h b = b
  some_fails_move (expr e rest) s t at k h (inl b) = inl (failed_move e s t at k h (breaks_move e s t at k h) b)
  some_fails_move (expr e rest) s t at k h (inr (v, g, b)) = inr (v, gives_from e s t v h g, some_fails_move rest s t at k h b)

  pub range_fails_move : (bs : BindingsD) (s t : NamedValues) (at : ℕ) (k : FaultKind) → AreSameNamed s t → SomeSetFails bs s at k → SomeSetFails bs t at k
  range_fails_move no_bindings s t at k h b = b
  range_fails_move (bind (binding p x e) rest) s t at k h (inl b) = inl (failed_move e s t at k h (breaks_move e s t at k h) b)
  range_fails_move (bind (binding p x e) rest) s t at k h (inr (inl b)) = inr (inl (operand_move IsNoSet e s t at k h b))
  range_fails_move (bind (binding p x e) rest) s t at k h (inr (inr (v, m, g, is, b))) =
      inr (inr (v, m, gives_from e s t v h g, is, range_fails_move rest (stored x m s) (stored x m t) at k (stored_in x m s t h) b))

  pub cond_fails_move : (c : CondD) (s t : NamedValues) (at : ℕ) (k : FaultKind) → AreSameNamed s t → CondFails c s at k → CondFails c t at k
  cond_fails_move truth s t at k h b = b
  cond_fails_move falsity s t at k h b = b
  cond_fails_move (same e f) s t at k h (inl b) = inl (failed_move e s t at k h (breaks_move e s t at k h) b)
  cond_fails_move (same e f) s t at k h (inr (v, g, b)) = inr (v, gives_from e s t v h g, failed_move f s t at k h (breaks_move f s t at k h) b)
  cond_fails_move (differ e f) s t at k h (inl b) = inl (failed_move e s t at k h (breaks_move e s t at k h) b)
  cond_fails_move (differ e f) s t at k h (inr (v, g, b)) = inr (v, gives_from e s t v h g, failed_move f s t at k h (breaks_move f s t at k h) b)
  cond_fails_move (below p e f) s t at k h (inl b) = inl (failed_move e s t at k h (breaks_move e s t at k h) b)
  cond_fails_move (below p e f) s t at k h (inr (inl (v, g, b))) = inr (inl (v, gives_from e s t v h g, failed_move f s t at k h (breaks_move f s t at k h) b))
  cond_fails_move (below p e f) s t at k h (inr (inr b)) = inr (inr (some_operand_move _ _ (expr e (expr f no_exprs)) s t at k h b))
  cond_fails_move (member e f) s t at k h (inl b) = inl (failed_move e s t at k h (breaks_move e s t at k h) b)
  cond_fails_move (member e f) s t at k h (inr (inl (v, g, b))) = inr (inl (v, gives_from e s t v h g, failed_move f s t at k h (breaks_move f s t at k h) b))
  cond_fails_move (member e f) s t at k h (inr (inr (v, g, b))) = inr (inr (v, gives_from e s t v h g, operand_move IsNoSet f s t at k h b))
  cond_fails_move (included e f) s t at k h (inl b) = inl (failed_move e s t at k h (breaks_move e s t at k h) b)
  cond_fails_move (included e f) s t at k h (inr (inl (v, g, b))) = inr (inl (v, gives_from e s t v h g, failed_move f s t at k h (breaks_move f s t at k h) b))
  cond_fails_move (included e f) s t at k h (inr (inr b)) = inr (inr (some_operand_move _ _ (expr e (expr f no_exprs)) s t at k h b))
  cond_fails_move (empty e) s t at k h (inl b) = inl (failed_move e s t at k h (breaks_move e s t at k h) b)
  cond_fails_move (empty e) s t at k h (inr b) = inr (operand_move IsNoAutomaton e s t at k h b)
  cond_fails_move (not c) s t at k h b = cond_fails_move c s t at k h b
  cond_fails_move (all cs) s t at k h b = some_cond_move cs s t at k h b
  cond_fails_move (any cs) s t at k h b = some_cond_move cs s t at k h b
  cond_fails_move (exists (binding p x e) c) s t at k h (inl b) = inl (failed_move e s t at k h (breaks_move e s t at k h) b)
  cond_fails_move (exists (binding p x e) c) s t at k h (inr (inl b)) = inr (inl (operand_move IsNoSet e s t at k h b))
  cond_fails_move (exists (binding p x e) c) s t at k h (inr (inr (v, m, g, is, b))) =
      inr (inr (v, m, gives_from e s t v h g, is, cond_fails_move c (stored x m s) (stored x m t) at k (stored_in x m s t h) b))
  cond_fails_move (every (binding p x e) c) s t at k h (inl b) = inl (failed_move e s t at k h (breaks_move e s t at k h) b)
  cond_fails_move (every (binding p x e) c) s t at k h (inr (inl b)) = inr (inl (operand_move IsNoSet e s t at k h b))
  cond_fails_move (every (binding p x e) c) s t at k h (inr (inr (v, m, g, is, b))) =
      inr (inr (v, m, gives_from e s t v h g, is, cond_fails_move c (stored x m s) (stored x m t) at k (stored_in x m s t h) b))

  pub some_cond_move : (cs : CondsD) (s t : NamedValues) (at : ℕ) (k : FaultKind) → AreSameNamed s t → SomeCondFails cs s at k → SomeCondFails cs t at k
  some_cond_move no_conds s t at k h b = b
  some_cond_move (cond c rest) s t at k h (inl b) = inl (cond_fails_move c s t at k h b)
  some_cond_move (cond c rest) s t at k h (inr (b, y, bad)) = inr (b, truth_from c s t b h y, some_cond_move rest s t at k h bad)

pub fails_move : (e : ExprD) (s t : NamedValues) (at : ℕ) (k : FaultKind) → AreSameNamed s t → Fails e s at k → Fails e t at k
fails_move e s t at k h b = failed_move e s t at k h (breaks_move e s t at k h) b
