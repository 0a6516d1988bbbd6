-- What expressions give and which truth conditions have, at one store.
--
-- `Gives` is what the language means: the expression's row, and a value that isn't too deep. `Makes` is the row alone, so
-- that a value that is too deep can be named as a failure. The recursion is on the syntax, so it goes through `Makes`, and
-- `Given` adds the depth at each part. `Breaks` and `Fails` (in Faults) are two for the same reason.
--
-- Each relation is closed under `IsSame`: a name gives every value that is the same as the stored one, and an expression
-- that makes a set gives every set with the stated members.
use Rattle.std.specs.Prelude.{◌≡◌, ℕ, zero, suc, Bool, true, false, not as opposite, List, [], ◌∷◌, ◌⊎◌, Some}
use Rattle.std.specs.List.{list_all, list_any}
use Rattle.lois_base.specs.Atom.{Atom, below as is_below}
use Rattle.lois_base.specs.Values.{PointValue, IsMember, IsSame, IsIn, IsIncluded}
use Rattle.lois_meaning.specs.Automata.{Automaton, IsAutomatonOf, IsAutomaton, Accepts, IsReachable, IsDeterministic, IsComplete, IsMinimalOf, IsProductOf, IsComplementOf}
use Rattle.lois_meaning.specs.Kinds.{IsAtomValue, IsTagValue, IsSet, IsSetOf, HasParts, AreSame, IsOneOf}
use Rattle.lois_meaning.specs.Store.{NamedValues, looked_up, stored, IsShallow}
use Rattle.lois_script.specs.Tree.{ExprD, atoms, var, tag, tuple, listed, each, part, apply, ExprsD, no_exprs, expr, binding, BindingsD, no_bindings, bind, CondD, truth, falsity, same, differ, below, member, included, empty, not, all, any, exists, every, CondsD, no_conds, cond}
use Rattle.lois_script.specs.declared.syntax.Operation.{Operation}
use Rattle.lois_script.specs.declared.syntax.Operation.TheVariants.{Union, Inter, Minus, Flatten, Reach, Product, Complement, Minimise}

-- v is part n of these, counted from 1
abbrev pub IsPartOf : PointValue → List PointValue → ℕ → Type 0
IsPartOf v (u ∷ us) (suc zero) = IsSame v u
IsPartOf v (u ∷ us) (suc (suc n)) = IsPartOf v us (suc n)
IsPartOf v _ _ = ⊥

-- a complete deterministic automaton
abbrev pub IsCompleteDeterministic : PointValue → Type 0
IsCompleteDeterministic v = (a : Automaton) × IsAutomatonOf v a × IsDeterministic a × IsComplete a

-- the value may be an operand of the operation
abbrev pub IsValidOperand : PointValue → Operation → Type 0
IsValidOperand v Union = IsSet v
IsValidOperand v Inter = IsSet v
IsValidOperand v Minus = IsSet v
IsValidOperand v Flatten = IsSet v × ((u : PointValue) → IsMember u v → IsSet u)
IsValidOperand v Reach = IsAutomaton v
IsValidOperand v Product = IsAutomaton v
IsValidOperand v Complement = IsCompleteDeterministic v
IsValidOperand v Minimise = IsCompleteDeterministic v

abbrev pub AreValidOperands : List PointValue → Operation → Type 0
AreValidOperands [] op = Unit {0}
AreValidOperands (v ∷ vs) op = IsValidOperand v op × AreValidOperands vs op

-- v is what the operation makes of these operands
abbrev pub IsResultOf : PointValue → Operation → List PointValue → Type 0
IsResultOf v Union (a ∷ b ∷ []) = IsSetOf v (λ w. IsIn w a ⊎ IsIn w b)
IsResultOf v Inter (a ∷ b ∷ []) = IsSetOf v (λ w. IsIn w a × IsIn w b)
IsResultOf v Minus (a ∷ b ∷ []) = IsSetOf v (λ w. IsIn w a × (IsIn w b → ⊥))
IsResultOf v Flatten (a ∷ []) = IsSetOf v (λ w. (u : PointValue) × IsMember u a × IsIn w u)
IsResultOf v Reach (a ∷ []) = (m : Automaton) × IsAutomatonOf a m × IsSetOf v (IsReachable m)
IsResultOf v Product (a ∷ b ∷ []) =
    (m n r : Automaton) × IsAutomatonOf a m × IsAutomatonOf b n × IsAutomatonOf v r × IsProductOf r m n
IsResultOf v Complement (a ∷ []) = (m r : Automaton) × IsAutomatonOf a m × IsAutomatonOf v r × IsComplementOf r m
IsResultOf v Minimise (a ∷ []) = (m r : Automaton) × IsAutomatonOf a m × IsAutomatonOf v r × IsMinimalOf r m
IsResultOf v _ _ = ⊥

-- b is the truth of the fact P
abbrev pub IsTruthOf : Bool → Type 0 → Type 0
IsTruthOf true P = P
IsTruthOf false P = P → ⊥

-- what an expression gives: what it makes, where that isn't too deep
abbrev pub Given : (NamedValues → PointValue → Type 0) → NamedValues → PointValue → Type 0
Given makes s v = makes s v × IsShallow v

abbrev mutual
  -- the expression makes v at the store s, however deep v is
  pub Makes : ExprD → NamedValues → PointValue → Type 0
  Makes (atoms p) s v = IsSetOf v (λ w. (a : Atom) × IsAtomValue w a)
  Makes (var p x) s v = (w : PointValue) × (looked_up x s ≡ Some w) × IsSame v w
  Makes (tag p name) s v = IsTagValue v name
  Makes (tuple p es) s v = (us vs : List PointValue) × GiveAll es s us × HasParts v vs × AreSame vs us
  Makes (listed p es) s v = (us : List PointValue) × GiveAll es s us × IsSetOf v (λ w. IsOneOf w us)
  Makes (each p item bs c) s v =
      HaveSets bs s ×
      ((t : NamedValues) → Reaches bs s t → (b : Bool) × HasTruth c t b) ×
      ((t : NamedValues) → Reaches bs s t → HasTruth c t true → (u : PointValue) × Given (Makes item) t u) ×
      IsSetOf v (λ w. (t : NamedValues) × (u : PointValue) × Reaches bs s t × HasTruth c t true × Given (Makes item) t u × IsSame w u)
  Makes (part p e n) s v = (u : PointValue) × (us : List PointValue) × Given (Makes e) s u × HasParts u us × IsPartOf v us n
  Makes (apply p op es) s v = (us : List PointValue) × GiveAll es s us × AreValidOperands us op × IsResultOf v op us

  -- the expressions give these values one by one
  pub GiveAll : ExprsD → NamedValues → List PointValue → Type 0
  GiveAll no_exprs s vs = vs ≡ []
  GiveAll (expr e rest) s vs = (v : PointValue) × (more : List PointValue) × (vs ≡ v ∷ more) × Given (Makes e) s v × GiveAll rest s more

  -- each binder has a set, for all members of those before it
  pub HaveSets : BindingsD → NamedValues → Type 0
  HaveSets no_bindings s = Unit {0}
  HaveSets (bind (binding p x e) rest) s =
      (v : PointValue) × Given (Makes e) s v × IsSet v × ((m : PointValue) → IsMember m v → HaveSets rest (stored x m s))

  -- the binders take members one after another, and t is the store then: a combination of the binders
  pub Reaches : BindingsD → NamedValues → NamedValues → Type 0
  Reaches no_bindings s t = s ≡ t
  Reaches (bind (binding p x e) rest) s t =
      (v m : PointValue) × Given (Makes e) s v × IsMember m v × Reaches rest (stored x m s) t

  -- the condition has the truth b at the store
  pub HasTruth : CondD → NamedValues → Bool → Type 0
  HasTruth truth s b = b ≡ true
  HasTruth falsity s b = b ≡ false
  HasTruth (same e f) s b =
      (v w : PointValue) × Given (Makes e) s v × Given (Makes f) s w × IsTruthOf b (IsSame v w)
  HasTruth (differ e f) s b =
      (v w : PointValue) × Given (Makes e) s v × Given (Makes f) s w × IsTruthOf (opposite b) (IsSame v w)
  HasTruth (below p e f) s b =
      (v w : PointValue) × (i j : Atom) × Given (Makes e) s v × Given (Makes f) s w × IsAtomValue v i × IsAtomValue w j × (b ≡ is_below i j)
  HasTruth (member e f) s b =
      (v w : PointValue) × Given (Makes e) s v × Given (Makes f) s w × IsSet w × IsTruthOf b (IsIn v w)
  HasTruth (included e f) s b =
      (v w : PointValue) × Given (Makes e) s v × Given (Makes f) s w × IsSet v × IsSet w × IsTruthOf b (IsIncluded v w)
  HasTruth (empty e) s b =
      (v : PointValue) × (a : Automaton) × Given (Makes e) s v × IsAutomatonOf v a × IsTruthOf (opposite b) ((word : List PointValue) × Accepts a word)
  HasTruth (not c) s b = HasTruth c s (opposite b)
  HasTruth (all cs) s b = (bs : List Bool) × HaveTruths cs s bs × (b ≡ list_all (λ k. k) bs)
  HasTruth (any cs) s b = (bs : List Bool) × HaveTruths cs s bs × (b ≡ list_any (λ k. k) bs)
  HasTruth (exists (binding p x e) c) s b =
      (v : PointValue) × Given (Makes e) s v × IsSet v ×
      ((m : PointValue) → IsMember m v → (k : Bool) × HasTruth c (stored x m s) k) ×
      IsTruthOf b ((m : PointValue) × IsMember m v × HasTruth c (stored x m s) true)
  HasTruth (every (binding p x e) c) s b =
      (v : PointValue) × Given (Makes e) s v × IsSet v ×
      ((m : PointValue) → IsMember m v → (k : Bool) × HasTruth c (stored x m s) k) ×
      IsTruthOf b ((m : PointValue) → IsMember m v → HasTruth c (stored x m s) true)

  -- the conditions have these truths one by one
  pub HaveTruths : CondsD → NamedValues → List Bool → Type 0
  HaveTruths no_conds s bs = bs ≡ []
  HaveTruths (cond c rest) s bs = (b : Bool) × (more : List Bool) × (bs ≡ b ∷ more) × HasTruth c s b × HaveTruths rest s more

-- the expression gives the value v at the store s
abbrev pub Gives : ExprD → NamedValues → PointValue → Type 0
Gives e = Given (Makes e)
