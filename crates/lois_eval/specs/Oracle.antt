-- Functions that enter loops, keep sides and apply operations on automata by asking a decider of any type: what they have to
-- answer, and whereto they lead.
use Rattle.std.specs.Prelude.{◌≡◌, ℕ, Bool, List, ◌↔◌, Option, Result, IfOk, IfErr, IfSome, IsTrue}
use Rattle.std.specs.Borrow.{Bor, MutBor}
use Rattle.std.specs.Global.{Vec}
use Rattle.std.specs.declared.alloc.Global.{Global}
use Rattle.lois_base.specs.Atom.{Atom}
use Rattle.lois_base.specs.Data.{TermD, terms_of}
use Rattle.lois_base.specs.Fits.{ConstraintFits, Fits}
use Rattle.lois_base.specs.Over.{IsOver}
use Rattle.lois_base.specs.Tree.{tree}
use Rattle.lois_base.specs.Truth.{holds}
use Rattle.lois_base.specs.Validity.{AdmitsConstraint}
use Rattle.lois_base.specs.declared.NoMemory.{NoMemory}
use Rattle.lois_base.specs.declared.guards.Constraint.{Constraint}
use Rattle.lois_base.specs.declared.values.Term.{Term}
use Rattle.lois_meaning.specs.Faults.{IsNoAutomaton}
use Rattle.lois_meaning.specs.declared.faults.Stop.{Stop}
use Rattle.lois_script.specs.Tree.{pos}
use Rattle.lois_script.specs.View.{tree as expr_tree, exprs_of}
use Rattle.lois_script.specs.Lists.{exprs_list}
use Rattle.lois_script.specs.declared.syntax.Expr.{Expr}
use Rattle.lois_script.specs.declared.syntax.Exprs.{Exprs}
use Rattle.lois_script.specs.declared.syntax.Operation.{Operation}
use Rattle.lois_terms.specs.Collections.{IsColl}
use Rattle.lois_context.specs.Choices.{IsAdmitted, IsAdmittedBy, AdmitsContext}
use Rattle.lois_context.specs.Entered.{AreEntered}
use Rattle.lois_context.specs.Sides.{IsSide}
use Rattle.lois_context.specs.Slots.{IsNew}
use Rattle.lois_context.specs.declared.contexts.Context.{Context}
use Rattle.lois_eval.specs.Automata.{AreOperands, IsEmptiness, IsOperationResult, IsValueFault}
use Rattle.lois_eval.specs.Operands.{IsUnfitFault}
use Rattle.lois_eval.specs.Throughout.{IfFault, IsValueThroughout}

-- what a call of f is given and leaves: with a context, a set and a name; with a context and a condition; with an operation, its
-- operands and their values; with an operand and its value
abbrev pub LoopCalls : Type 0 → Type 0 → Type 1
LoopCalls F D =
    (f : F) (before : MutBor D) → Global → Bor Context → Bor Term → Bor (List ℕ) → Result (Vec Context) NoMemory → (after : MutBor D) → Type 0

abbrev pub SideCalls : Type 0 → Type 0 → Type 1
SideCalls F D =
    (f : F) (before : MutBor D) → Global → Bor Context → Bor Constraint → Result (Option Context) NoMemory → (after : MutBor D) → Type 0

abbrev pub ApplyCalls : Type 0 → Type 0 → Type 1
ApplyCalls F D =
    (f : F) (before : MutBor D) → Global → Operation → Bor Exprs → Bor (List TermD) → Bor Context → Result Term Stop → (after : MutBor D) → Type 0

abbrev pub EmptyCalls : Type 0 → Type 0 → Type 1
EmptyCalls F D =
    (f : F) (before : MutBor D) → Global → Bor Expr → Bor Term → Bor Context → Result Constraint Stop → (after : MutBor D) → Type 0

-- it may be called for a set of the context's levels and a new name, and answers with the contexts for its members
pub record EntersLoops {F D : Type 0} (pre : F → MutBor D → Global → Bor Context → Bor Term → Bor (List ℕ) → Type 0) (post : LoopCalls F D) : Type 0 where
  pub callable : (f : F) (d : MutBor D) (m : Global) (k : Bor Context) (t : Bor Term) (x : Bor (List ℕ)) → Fits k.now.size (tree t.now) → IsColl (tree t.now) → IsNew x.now k.now.store → pre f d m k t x
  pub entered : (f : F) (d e : MutBor D) (m : Global) (k : Bor Context) (t : Bor Term) (x : Bor (List ℕ)) (r : Result (Vec Context) NoMemory) → Fits k.now.size (tree t.now) → IsColl (tree t.now) → IsNew x.now k.now.store → post f d m k t x r e → IfOk r (λ inner. AreEntered k.now x.now (tree t.now) inner.items)

-- it may be called for a condition over the context's levels, and answers with the side where that holds
pub record KeepsSides {F D : Type 0} (pre : F → MutBor D → Global → Bor Context → Bor Constraint → Type 0) (post : SideCalls F D) : Type 0 where
  pub callable : (f : F) (d : MutBor D) (m : Global) (k : Bor Context) (g : Bor Constraint) → ConstraintFits k.now.size g.now → pre f d m k g
  pub side : (f : F) (d e : MutBor D) (m : Global) (k : Bor Context) (g : Bor Constraint) (r : Result (Option Context) NoMemory) → ConstraintFits k.now.size g.now → post f d m k g r e → IfOk r (λ o. IfSome o (IsSide k.now (λ c. holds c g.now)))
  pub choices : (f : F) (d e : MutBor D) (m : Global) (k : Bor Context) (g : Bor Constraint) (r : Result (Option Context) NoMemory) → ConstraintFits k.now.size g.now → post f d m k g r e → IfOk r (λ o. (c : List Atom) → IsAdmittedBy c o ↔ (IsAdmitted c k.now × IsTrue (holds c g.now)))
  pub operators : (f : F) (d e : MutBor D) (m : Global) (k : Bor Context) (g : Bor Constraint) (r : Result (Option Context) NoMemory) → ConstraintFits k.now.size g.now → post f d m k g r e → IfOk r (λ o. (ordered : Bool) → AdmitsContext ordered k.now → AdmitsConstraint ordered g.now → IfSome o (AdmitsContext ordered))

-- it may be called for operands of an operation on automata, and answers with what the operation makes of them
pub record AppliesToAutomata {F D : Type 0} (o : Bool) (pre : F → MutBor D → Global → Operation → Bor Exprs → Bor (List TermD) → Bor Context → Type 0) (post : ApplyCalls F D) : Type 0 where
  pub callable : (f : F) (d : MutBor D) (m : Global) (op : Operation) (es : Bor Exprs) (ts : Bor (List TermD)) (k : Bor Context) → AreOperands o k.now op (exprs_list es.now) ts.now → pre f d m op es ts k
  pub made : (f : F) (d e : MutBor D) (m : Global) (op : Operation) (es : Bor Exprs) (ts : Bor (List TermD)) (k : Bor Context) (r : Result Term Stop) → AreOperands o k.now op (exprs_list es.now) ts.now → post f d m op es ts k r e → IfOk r (λ t. IsOperationResult k.now op ts.now (tree t))
  pub fault : (f : F) (d e : MutBor D) (m : Global) (op : Operation) (es : Bor Exprs) (ts : Bor (List TermD)) (k : Bor Context) (r : Result Term Stop) → AreOperands o k.now op (exprs_list es.now) ts.now → post f d m op es ts k r e → IfErr r (λ s. IfFault s (IsUnfitFault o k.now op (exprs_of (exprs_list es.now)) (terms_of ts.now)))

-- it may be called for a value of the context's levels, and answers where that accepts no word
pub record FindsEmptiness {F D : Type 0} (o : Bool) (pre : F → MutBor D → Global → Bor Expr → Bor Term → Bor Context → Type 0) (post : EmptyCalls F D) : Type 0 where
  pub callable : (f : F) (d : MutBor D) (m : Global) (e : Bor Expr) (t : Bor Term) (k : Bor Context) → IsValueThroughout k.now (expr_tree e.now) (tree t.now) → IsOver o k.now.size (tree t.now) → AdmitsContext o k.now → pre f d m e t k
  pub emptiness : (f : F) (d d' : MutBor D) (m : Global) (e : Bor Expr) (t : Bor Term) (k : Bor Context) (r : Result Constraint Stop) → IsValueThroughout k.now (expr_tree e.now) (tree t.now) → IsOver o k.now.size (tree t.now) → AdmitsContext o k.now → post f d m e t k r d' → IfOk r (IsEmptiness k.now (tree t.now))
  pub fault : (f : F) (d d' : MutBor D) (m : Global) (e : Bor Expr) (t : Bor Term) (k : Bor Context) (r : Result Constraint Stop) → IsValueThroughout k.now (expr_tree e.now) (tree t.now) → IsOver o k.now.size (tree t.now) → AdmitsContext o k.now → post f d m e t k r d' → IfErr r (λ s. IfFault s (IsValueFault o k.now IsNoAutomaton (tree t.now) (pos (expr_tree e.now))))

-- entering a loop may leave q of p
pub record LeadsByLoop {F D : Type 0} (post : LoopCalls F D) (p q : D) : Type 0 where
  pub asked : F
  pub before : MutBor D
  pub after : MutBor D
  pub memory : Global
  pub context : Bor Context
  pub elements : Bor Term
  pub name : Bor (List ℕ)
  pub answer : Result (Vec Context) NoMemory
  pub call : post asked before memory context elements name answer after
  pub from : before.now ≡ p
  pub to : after.now ≡ q

-- keeping a side may leave q of p
pub record LeadsBySide {F D : Type 0} (post : SideCalls F D) (p q : D) : Type 0 where
  pub asked : F
  pub before : MutBor D
  pub after : MutBor D
  pub memory : Global
  pub context : Bor Context
  pub condition : Bor Constraint
  pub answer : Result (Option Context) NoMemory
  pub call : post asked before memory context condition answer after
  pub from : before.now ≡ p
  pub to : after.now ≡ q

-- applying an operation may leave q of p
pub record LeadsByApplying {F D : Type 0} (post : ApplyCalls F D) (p q : D) : Type 0 where
  pub asked : F
  pub before : MutBor D
  pub after : MutBor D
  pub memory : Global
  pub operation : Operation
  pub operands : Bor Exprs
  pub values : Bor (List TermD)
  pub context : Bor Context
  pub answer : Result Term Stop
  pub call : post asked before memory operation operands values context answer after
  pub from : before.now ≡ p
  pub to : after.now ≡ q

-- finding where an automaton accepts no word may leave q of p
pub record LeadsByEmptiness {F D : Type 0} (post : EmptyCalls F D) (p q : D) : Type 0 where
  pub asked : F
  pub before : MutBor D
  pub after : MutBor D
  pub memory : Global
  pub operand : Bor Expr
  pub automaton : Bor Term
  pub context : Bor Context
  pub answer : Result Constraint Stop
  pub call : post asked before memory operand automaton context answer after
  pub from : before.now ≡ p
  pub to : after.now ≡ q
