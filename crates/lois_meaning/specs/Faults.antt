-- Where expressions and conditions fail at one store, and how.
--
-- `Fails` is what the language means. `Breaks` leaves out that the expression's own value is too deep, since the recursion
-- is on the syntax; `Failing` adds it at each part. Operands are looked at from left to right: one fails only where those to
-- its left give values, and is unfit only where all give values and those to its left are fit.
use Rattle.std.specs.Prelude.{◌≡◌, ℕ, ◌<◌, Bool, true, List, ◌∷◌, length, ◌⊎◌}
use Rattle.lois_base.specs.Atom.{Atom}
use Rattle.lois_base.specs.Values.{PointValue, IsMember, IsDeeper}
use Rattle.lois_meaning.specs.Automata.{Automaton, IsAutomatonOf, IsAutomaton, IsDeterministic, IsComplete}
use Rattle.lois_meaning.specs.Expressions.{IsValidOperand, Makes, Gives, GiveAll, Reaches, HasTruth}
use Rattle.lois_meaning.specs.Kinds.{IsAtomValue, IsSet, HasParts}
use Rattle.lois_meaning.specs.Store.{NamedValues, stored, depth_limit}
use Rattle.lois_script.specs.Tree.{ExprD, atoms, var, tag, tuple, listed, each, part, apply, ExprsD, no_exprs, expr, binding, BindingsD, no_bindings, bind, CondD, truth, falsity, same, differ, below, member, included, empty, not, all, any, exists, every, CondsD, no_conds, cond, pos}
use Rattle.lois_answers.specs.declared.faults.FaultKind.{FaultKind}
use Rattle.lois_answers.specs.declared.faults.FaultKind.TheVariants.{NotASet, NotAtoms, NotATuple, NoSuchPart, NotAutomaton, NotDeterministic, NotComplete, DepthLimit}
use Rattle.lois_script.specs.declared.syntax.Operation.{Operation}
use Rattle.lois_script.specs.declared.syntax.Operation.TheVariants.{Union, Inter, Minus, Flatten, Reach, Product, Complement, Minimise}

-- The value fails as an operand with the kind k: it is no set; no atom; no tuple or one without part n; no automaton.
abbrev pub IsNoSet : PointValue → FaultKind → Type 0
IsNoSet v k = (k ≡ NotASet) × (IsSet v → ⊥)

abbrev pub IsNoAtom : PointValue → FaultKind → Type 0
IsNoAtom v k = (k ≡ NotAtoms) × ((a : Atom) → IsAtomValue v a → ⊥)

abbrev pub HasNoPart : ℕ → PointValue → FaultKind → Type 0
HasNoPart n v k =
    ((k ≡ NotATuple) × ((us : List PointValue) → HasParts v us → ⊥)) ⊎
    ((k ≡ NoSuchPart) × (us : List PointValue) × HasParts v us × ((n ≡ 0) ⊎ (length us < n)))

abbrev pub IsNoAutomaton : PointValue → FaultKind → Type 0
IsNoAutomaton v k = (k ≡ NotAutomaton) × (IsAutomaton v → ⊥)

-- an automaton that isn't deterministic, or a deterministic one that isn't complete
abbrev pub IsNotCompleteDeterministic : PointValue → FaultKind → Type 0
IsNotCompleteDeterministic v k =
    ((k ≡ NotDeterministic) × (a : Automaton) × IsAutomatonOf v a × (IsDeterministic a → ⊥)) ⊎
    ((k ≡ NotComplete) × (a : Automaton) × IsAutomatonOf v a × IsDeterministic a × (IsComplete a → ⊥))

-- how the value fails as an operand of the operation
abbrev pub IsInvalidOperand : Operation → PointValue → FaultKind → Type 0
IsInvalidOperand Union v k = IsNoSet v k
IsInvalidOperand Inter v k = IsNoSet v k
IsInvalidOperand Minus v k = IsNoSet v k
IsInvalidOperand Flatten v k = IsNoSet v k ⊎ ((k ≡ NotASet) × (u : PointValue) × IsMember u v × (IsSet u → ⊥))
IsInvalidOperand Reach v k = IsNoAutomaton v k
IsInvalidOperand Product v k = IsNoAutomaton v k
IsInvalidOperand Complement v k = IsNoAutomaton v k ⊎ IsNotCompleteDeterministic v k
IsInvalidOperand Minimise v k = IsNoAutomaton v k ⊎ IsNotCompleteDeterministic v k

-- the operand e gives a value that fails in this way; the place is the operand's
abbrev pub OperandFails : (PointValue → FaultKind → Type 0) → ExprD → NamedValues → ℕ → FaultKind → Type 0
OperandFails row e s at k = (at ≡ pos e) × (v : PointValue) × Gives e s v × row v k

-- of operands with these values one fails in this way, and those to its left are fit; the place is the operand's
abbrev pub IsUnfitAmong : (PointValue → Type 0) → (PointValue → FaultKind → Type 0) → ExprsD → List PointValue → ℕ → FaultKind → Type 0
IsUnfitAmong fit row (expr e es) (v ∷ vs) at k = ((at ≡ pos e) × row v k) ⊎ (fit v × IsUnfitAmong fit row es vs at k)
IsUnfitAmong fit row _ _ at k = ⊥

-- all operands give values, and one of these fails in this way behind those that are fit
abbrev pub SomeOperandFails : (PointValue → Type 0) → (PointValue → FaultKind → Type 0) → ExprsD → NamedValues → ℕ → FaultKind → Type 0
SomeOperandFails fit row es s at k = (vs : List PointValue) × GiveAll es s vs × IsUnfitAmong fit row es vs at k

-- the operand e gives a value, and what is to its right fails
abbrev pub FailsBehind : ExprD → (NamedValues → ℕ → FaultKind → Type 0) → NamedValues → ℕ → FaultKind → Type 0
FailsBehind e fails s at k = (v : PointValue) × Gives e s v × fails s at k

-- all parts give values and no row holds of them, and what the expression makes is too deep
abbrev pub MakesTooDeep : ExprD → NamedValues → ℕ → FaultKind → Type 0
MakesTooDeep e s at k = (at ≡ pos e) × (k ≡ DepthLimit) × (v : PointValue) × Makes e s v × IsDeeper v depth_limit

-- an expression fails where it breaks, or what it makes is too deep
abbrev pub Failing : (NamedValues → ℕ → FaultKind → Type 0) → ExprD → NamedValues → ℕ → FaultKind → Type 0
Failing breaks e s at k = breaks s at k ⊎ MakesTooDeep e s at k

abbrev mutual
  -- a part of the expression fails, or a row holds of its operands
  pub Breaks : ExprD → NamedValues → ℕ → FaultKind → Type 0
  Breaks (atoms p) s at k = ⊥
  Breaks (var p x) s at k = ⊥
  Breaks (tag p name) s at k = ⊥
  Breaks (tuple p es) s at k = SomeFails es s at k
  Breaks (listed p es) s at k = SomeFails es s at k
  Breaks (each p item bs c) s at k =
      SomeSetFails bs s at k ⊎
      ((t : NamedValues) × Reaches bs s t × CondFails c t at k) ⊎
      ((t : NamedValues) × Reaches bs s t × HasTruth c t true × Failing (Breaks item) item t at k)
  Breaks (part p e n) s at k = Failing (Breaks e) e s at k ⊎ OperandFails (HasNoPart n) e s at k
  Breaks (apply p op es) s at k = SomeFails es s at k ⊎ SomeOperandFails (λ v. IsValidOperand v op) (IsInvalidOperand op) es s at k

  -- one of the expressions fails, and those to its left give values
  pub SomeFails : ExprsD → NamedValues → ℕ → FaultKind → Type 0
  SomeFails no_exprs s at k = ⊥
  SomeFails (expr e rest) s at k = Failing (Breaks e) e s at k ⊎ FailsBehind e (SomeFails rest) s at k

  -- the set of some binder fails or is no set, for some members of those before it
  pub SomeSetFails : BindingsD → NamedValues → ℕ → FaultKind → Type 0
  SomeSetFails no_bindings s at k = ⊥
  SomeSetFails (bind (binding p x e) rest) s at k =
      Failing (Breaks e) e s at k ⊎ OperandFails IsNoSet e s at k ⊎
      ((v m : PointValue) × Gives e s v × IsMember m v × SomeSetFails rest (stored x m s) at k)

  -- the condition fails
  pub CondFails : CondD → NamedValues → ℕ → FaultKind → Type 0
  CondFails truth s at k = ⊥
  CondFails falsity s at k = ⊥
  CondFails (same e f) s at k = Failing (Breaks e) e s at k ⊎ FailsBehind e (Failing (Breaks f) f) s at k
  CondFails (differ e f) s at k = Failing (Breaks e) e s at k ⊎ FailsBehind e (Failing (Breaks f) f) s at k
  CondFails (below p e f) s at k =
      Failing (Breaks e) e s at k ⊎ FailsBehind e (Failing (Breaks f) f) s at k ⊎
      SomeOperandFails (λ v. (a : Atom) × IsAtomValue v a) IsNoAtom (expr e (expr f no_exprs)) s at k
  CondFails (member e f) s at k =
      Failing (Breaks e) e s at k ⊎ FailsBehind e (Failing (Breaks f) f) s at k ⊎ FailsBehind e (OperandFails IsNoSet f) s at k
  CondFails (included e f) s at k =
      Failing (Breaks e) e s at k ⊎ FailsBehind e (Failing (Breaks f) f) s at k ⊎
      SomeOperandFails IsSet IsNoSet (expr e (expr f no_exprs)) s at k
  CondFails (empty e) s at k = Failing (Breaks e) e s at k ⊎ OperandFails IsNoAutomaton e s at k
  CondFails (not c) s at k = CondFails c s at k
  CondFails (all cs) s at k = SomeCondFails cs s at k
  CondFails (any cs) s at k = SomeCondFails cs s at k
  CondFails (exists (binding p x e) c) s at k =
      Failing (Breaks e) e s at k ⊎ OperandFails IsNoSet e s at k ⊎
      ((v m : PointValue) × Gives e s v × IsMember m v × CondFails c (stored x m s) at k)
  CondFails (every (binding p x e) c) s at k =
      Failing (Breaks e) e s at k ⊎ OperandFails IsNoSet e s at k ⊎
      ((v m : PointValue) × Gives e s v × IsMember m v × CondFails c (stored x m s) at k)

  -- one of the conditions fails, and those to its left have truths
  pub SomeCondFails : CondsD → NamedValues → ℕ → FaultKind → Type 0
  SomeCondFails no_conds s at k = ⊥
  SomeCondFails (cond c rest) s at k = CondFails c s at k ⊎ ((b : Bool) × HasTruth c s b × SomeCondFails rest s at k)

-- the expression fails at the store s, with this place and kind
abbrev pub Fails : ExprD → NamedValues → ℕ → FaultKind → Type 0
Fails e = Failing (Breaks e) e
