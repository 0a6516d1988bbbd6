-- No expression both gives a value and fails, and no condition both has a truth and fails.
use Rattle.std.proofs.Common.{◌≡◌, ℕ, zero, suc, ◌<◌, Bool, not as opposite, List, [], ◌∷◌, length, ◌⊎◌, refl, arith}
use mathlib.Core.Logic.{inl, inr}
use Rattle.lois_base.specs.Atom.{Atom}
use Rattle.lois_base.specs.Values.{PointValue, IsMember, IsSame}
use Rattle.lois_base.proofs.Members.{same_included, deeper_same}
use Rattle.lois_meaning.specs.Automata.{Automaton, IsAutomatonOf}
use Rattle.lois_meaning.specs.Expressions.{IsPartOf, IsValidOperand, AreValidOperands, Given, Makes, GiveAll, HaveSets, HasTruth, HaveTruths, Gives}
use Rattle.lois_meaning.specs.Faults.{IsNoSet, IsNoAtom, HasNoPart, IsNoAutomaton, IsInvalidOperand, OperandFails, IsUnfitAmong, SomeOperandFails, MakesTooDeep, Failing, Breaks, SomeFails, SomeSetFails, CondFails, SomeCondFails, Fails}
use Rattle.lois_meaning.specs.Kinds.{IsAtomValue, IsSet, HasParts, AreSame}
use Rattle.lois_meaning.specs.Store.{NamedValues, stored, depth_limit}
use Rattle.lois_script.specs.Tree.{ExprD, atoms, var, tag, tuple, listed, each, part, apply, ExprsD, no_exprs, expr, binding, BindingsD, no_bindings, bind, CondD, truth, falsity, same, differ, below, member, included, empty, not, all, any, exists, every, CondsD, no_conds, cond}
use Rattle.lois_answers.specs.declared.faults.FaultKind.{FaultKind}
use Rattle.lois_script.specs.declared.syntax.Operation.{Operation}
use Rattle.lois_meaning.proofs.Alike.{is_set_same, is_atom_same, parts_same, parts_both}
use Rattle.lois_meaning.proofs.Automata.{suits_fit, automaton_move}
use Rattle.lois_meaning.proofs.Determined.{makes_same, gives_same, given_same}
use Rattle.lois_meaning.proofs.Failures.{range_fails_move, cond_fails_move}
use Rattle.lois_meaning.proofs.Stores.{stored_other}

given_deep : (e : ExprD) (s : NamedValues) (v : PointValue) (at : ℕ) (k : FaultKind) → Gives e s v → MakesTooDeep e s at k → ⊥
given_deep e s v at k g (p, q, w, m, deep) = g.1 (deeper_same w v depth_limit (makes_same e s w v m g.0) deep)

pub operand_set : (e : ExprD) (s : NamedValues) (v : PointValue) (at : ℕ) (k : FaultKind) → Gives e s v → IsSet v → OperandFails IsNoSet e s at k → ⊥
operand_set e s v at k g set (p, w, h, q) = q.1 (is_set_same v w (given_same e s v w g h) set)

operand_automaton : (e : ExprD) (s : NamedValues) (v : PointValue) (a : Automaton) (at : ℕ) (k : FaultKind) → Gives e s v → IsAutomatonOf v a → OperandFails IsNoAutomaton e s at k → ⊥
operand_automaton e s v a at k g is (p, w, h, q) = q.1 (automaton_move v w a (given_same e s v w g h) is)

part_within : (us ws : List PointValue) (n : ℕ) (v : PointValue) → AreSame us ws → IsPartOf v us n → (n ≡ 0) ⊎ (length ws < n) → ⊥
part_within (u ∷ us) (w ∷ ws) (suc zero) v h q (inl e) = omega arith
part_within (u ∷ us) (w ∷ ws) (suc zero) v h q (inr e) = omega arith
part_within (u ∷ us) (w ∷ ws) (suc (suc n)) v h q (inl e) = omega arith
part_within (u ∷ us) (w ∷ ws) (suc (suc n)) v h q (inr e) = part_within us ws (suc n) v h.1 q (inr (omega arith))
part_within _ _ n v h q bad = absurd (assumption (h, q))

operand_part : (e : ExprD) (s : NamedValues) (u v : PointValue) (us : List PointValue) (n at : ℕ) (k : FaultKind) → Gives e s u → HasParts u us → IsPartOf v us n → OperandFails (HasNoPart n) e s at k → ⊥
operand_part e s u v us n at k g parts is (p, w, h, inl q) =
    let found : (ws : List PointValue) × HasParts w ws × AreSame us ws = parts_same u w us (given_same e s u w g h) parts in
    q.1 found.0 found.1
operand_part e s u v us n at k g parts is (p, w, h, inr q) =
    part_within us q.1 n v (parts_both u w us q.1 (given_same e s u w g h) parts q.2) is q.3

-- ---- operands that are fit don't fail

abbrev AreAll : (PointValue → Type 0) → List PointValue → Type 0
AreAll P [] = Unit {0}
AreAll P (v ∷ vs) = P v × AreAll P vs

never_unfit : (fit : PointValue → Type 0) (row : PointValue → FaultKind → Type 0) (k : FaultKind) → ((v w : PointValue) → IsSame v w → fit v → row w k → ⊥) → (es : ExprsD) (us vs : List PointValue) (at : ℕ) → AreSame us vs → AreAll fit us → IsUnfitAmong fit row es vs at k → ⊥
never_unfit fit row k never (expr e es) (u ∷ us) (v ∷ vs) at h p (inl b) = never u v h.0 p.0 b.1
never_unfit fit row k never (expr e es) (u ∷ us) (v ∷ vs) at h p (inr b) = never_unfit fit row k never es us vs at h.1 p.1 b.1
never_unfit fit row k never (expr e es) [] (v ∷ vs) at h p b = absurd h
never_unfit fit row k never (expr e es) us [] at h p b = absurd b
never_unfit fit row k never no_exprs us vs at h p b = absurd b

operands_suit : (fit : PointValue → Type 0) (row : PointValue → FaultKind → Type 0) (k : FaultKind) → ((v w : PointValue) → IsSame v w → fit v → row w k → ⊥) → (es : ExprsD) (s : NamedValues) (us : List PointValue) (at : ℕ) → GiveAll es s us → AreAll fit us → SomeOperandFails fit row es s at k → ⊥
operands_suit fit row k never es s us at g p (vs, h, b) = never_unfit fit row k never es us vs at (gives_same es s us vs g h) p b

sides_suit : (fit : PointValue → Type 0) (row : PointValue → FaultKind → Type 0) (k : FaultKind) → ((v w : PointValue) → IsSame v w → fit v → row w k → ⊥) → (e f : ExprD) (s : NamedValues) (v w : PointValue) (at : ℕ) → Gives e s v → Gives f s w → fit v → fit w → SomeOperandFails fit row (expr e (expr f no_exprs)) s at k → ⊥
sides_suit fit row k never e f s v w at g h p q b =
    operands_suit fit row k never (expr e (expr f no_exprs)) s (v ∷ w ∷ []) at (v, w ∷ [], refl, g, (w, [], refl, h, refl)) (p, (q, tt)) b

all_valid : (op : Operation) (us : List PointValue) → AreValidOperands us op → AreAll (λ v. IsValidOperand v op) us
all_valid op [] h = tt
all_valid op (u ∷ us) h = (h.0, all_valid op us h.1)

atoms_suit : (k : FaultKind) (v w : PointValue) → IsSame v w → (a : Atom) × IsAtomValue v a → IsNoAtom w k → ⊥
atoms_suit k v w h (a, is) q = q.1 a (is_atom_same v w a h is)

sets_suit : (k : FaultKind) (v w : PointValue) → IsSame v w → IsSet v → IsNoSet w k → ⊥
sets_suit k v w h set q = q.1 (is_set_same v w h set)

given_fails : (e : ExprD) (s : NamedValues) (v : PointValue) (at : ℕ) (k : FaultKind) → Gives e s v → (Breaks e s at k → ⊥) → Failing (Breaks e) e s at k → ⊥
given_fails e s v at k g never (inl b) = never b
given_fails e s v at k g never (inr b) = given_deep e s v at k g b

mutual
  pub makes_breaks : (e : ExprD) (s : NamedValues) (v : PointValue) (at : ℕ) (k : FaultKind) → Makes e s v → Breaks e s at k → ⊥
  makes_breaks (atoms p) s v at k m b = elim b [ ]
  makes_breaks (var p x) s v at k m b = elim b [ ]
  makes_breaks (tag p name) s v at k m b = elim b [ ]
  makes_breaks (tuple p es) s v at k (us, vs, g, parts, rest) b = gives_fail es s us at k g b
  makes_breaks (listed p es) s v at k (us, g, rest) b = gives_fail es s us at k g b
  makes_breaks (each p item bs c) s v at k (ranges, decided, given, set) (inl b) = ranges_fail bs s at k ranges b
  makes_breaks (each p item bs c) s v at k (ranges, decided, given, set) (inr (inl (t, r, b))) = truth_fails c t (decided t r).0 at k (decided t r).1 b
  makes_breaks (each p item bs c) s v at k (ranges, decided, given, set) (inr (inr (t, r, yes_c, b))) =
      let u : (u : PointValue) × Given (Makes item) t u = given t r yes_c in given_fails item t u.0 at k u.1 (makes_breaks item t u.0 at k u.1.0) b
  makes_breaks (part p e n) s v at k (u, us, g, parts, is) (inl b) = given_fails e s u at k g (makes_breaks e s u at k g.0) b
  makes_breaks (part p e n) s v at k (u, us, g, parts, is) (inr b) = operand_part e s u v us n at k g parts is b
  makes_breaks (apply p op es) s v at k (us, g, suit, made) (inl b) = gives_fail es s us at k g b
  makes_breaks (apply p op es) s v at k (us, g, suit, made) (inr b) =
      operands_suit (λ v. IsValidOperand v op) (IsInvalidOperand op) k (λ v w h fit bad. suits_fit op v w k h fit bad) es s us at g (all_valid op us suit) b

  pub gives_fail : (es : ExprsD) (s : NamedValues) (us : List PointValue) (at : ℕ) (k : FaultKind) → GiveAll es s us → SomeFails es s at k → ⊥
  gives_fail no_exprs s us at k g b = elim b [ ]
  gives_fail (expr e rest) s us at k (v, more, p, g, gs) (inl b) = given_fails e s v at k g (makes_breaks e s v at k g.0) b
  gives_fail (expr e rest) s us at k (v, more, p, g, gs) (inr (w, h, b)) = gives_fail rest s more at k gs b

  pub ranges_fail : (bs : BindingsD) (s : NamedValues) (at : ℕ) (k : FaultKind) → HaveSets bs s → SomeSetFails bs s at k → ⊥
  ranges_fail no_bindings s at k r b = elim b [ ]
  ranges_fail (bind (binding p x e) rest) s at k (v, g, set, r) (inl b) = given_fails e s v at k g (makes_breaks e s v at k g.0) b
  ranges_fail (bind (binding p x e) rest) s at k (v, g, set, r) (inr (inl b)) = operand_set e s v at k g set b
  ranges_fail (bind (binding p x e) rest) s at k (v, g, set, r) (inr (inr (w, m, h, is, b))) =
      let found : (y : PointValue) × IsMember y v × IsSame m y = same_included w v (given_same e s w v h g) m is in
      ranges_fail rest (stored x found.0 s) at k (r found.0 found.1) (range_fails_move rest (stored x m s) (stored x found.0 s) at k (stored_other x m found.0 s found.2) b)

  pub truth_fails : (c : CondD) (s : NamedValues) (b : Bool) (at : ℕ) (k : FaultKind) → HasTruth c s b → CondFails c s at k → ⊥
  truth_fails truth s b at k t f = elim f [ ]
  truth_fails falsity s b at k t f = elim f [ ]
  truth_fails (same e f) s b at k (v, w, g, h, d) (inl bad) = given_fails e s v at k g (makes_breaks e s v at k g.0) bad
  truth_fails (same e f) s b at k (v, w, g, h, d) (inr (x, y, bad)) = given_fails f s w at k h (makes_breaks f s w at k h.0) bad
  truth_fails (differ e f) s b at k (v, w, g, h, d) (inl bad) = given_fails e s v at k g (makes_breaks e s v at k g.0) bad
  truth_fails (differ e f) s b at k (v, w, g, h, d) (inr (x, y, bad)) = given_fails f s w at k h (makes_breaks f s w at k h.0) bad
  truth_fails (below p e f) s b at k (v, w, i, j, g, h, iv, jw, d) (inl bad) = given_fails e s v at k g (makes_breaks e s v at k g.0) bad
  truth_fails (below p e f) s b at k (v, w, i, j, g, h, iv, jw, d) (inr (inl (x, y, bad))) = given_fails f s w at k h (makes_breaks f s w at k h.0) bad
  truth_fails (below p e f) s b at k (v, w, i, j, g, h, iv, jw, d) (inr (inr bad)) =
      sides_suit (λ u. (a : Atom) × IsAtomValue u a) IsNoAtom k (atoms_suit k) e f s v w at g h (i, iv) (j, jw) bad
  truth_fails (member e f) s b at k (v, w, g, h, set, d) (inl bad) = given_fails e s v at k g (makes_breaks e s v at k g.0) bad
  truth_fails (member e f) s b at k (v, w, g, h, set, d) (inr (inl (x, y, bad))) = given_fails f s w at k h (makes_breaks f s w at k h.0) bad
  truth_fails (member e f) s b at k (v, w, g, h, set, d) (inr (inr (x, y, bad))) = operand_set f s w at k h set bad
  truth_fails (included e f) s b at k (v, w, g, h, set, also, d) (inl bad) = given_fails e s v at k g (makes_breaks e s v at k g.0) bad
  truth_fails (included e f) s b at k (v, w, g, h, set, also, d) (inr (inl (x, y, bad))) = given_fails f s w at k h (makes_breaks f s w at k h.0) bad
  truth_fails (included e f) s b at k (v, w, g, h, set, also, d) (inr (inr bad)) =
      sides_suit IsSet IsNoSet k (sets_suit k) e f s v w at g h set also bad
  truth_fails (empty e) s b at k (v, a, g, is, d) (inl bad) = given_fails e s v at k g (makes_breaks e s v at k g.0) bad
  truth_fails (empty e) s b at k (v, a, g, is, d) (inr bad) = operand_automaton e s v a at k g is bad
  truth_fails (not c) s b at k t bad = truth_fails c s (opposite b) at k t bad
  truth_fails (all cs) s b at k (bs, ts, d) bad = truths_fail cs s bs at k ts bad
  truth_fails (any cs) s b at k (bs, ts, d) bad = truths_fail cs s bs at k ts bad
  truth_fails (exists (binding p x e) c) s b at k (v, g, set, ts, d) (inl bad) = given_fails e s v at k g (makes_breaks e s v at k g.0) bad
  truth_fails (exists (binding p x e) c) s b at k (v, g, set, ts, d) (inr (inl bad)) = operand_set e s v at k g set bad
  truth_fails (exists (binding p x e) c) s b at k (v, g, set, ts, d) (inr (inr (w, m, h, is, bad))) =
      let found : (y : PointValue) × IsMember y v × IsSame m y = same_included w v (given_same e s w v h g) m is in
      truth_fails c (stored x found.0 s) (ts found.0 found.1).0 at k (ts found.0 found.1).1 (cond_fails_move c (stored x m s) (stored x found.0 s) at k (stored_other x m found.0 s found.2) bad)
  truth_fails (every (binding p x e) c) s b at k (v, g, set, ts, d) (inl bad) = given_fails e s v at k g (makes_breaks e s v at k g.0) bad
  truth_fails (every (binding p x e) c) s b at k (v, g, set, ts, d) (inr (inl bad)) = operand_set e s v at k g set bad
  truth_fails (every (binding p x e) c) s b at k (v, g, set, ts, d) (inr (inr (w, m, h, is, bad))) =
      let found : (y : PointValue) × IsMember y v × IsSame m y = same_included w v (given_same e s w v h g) m is in
      truth_fails c (stored x found.0 s) (ts found.0 found.1).0 at k (ts found.0 found.1).1 (cond_fails_move c (stored x m s) (stored x found.0 s) at k (stored_other x m found.0 s found.2) bad)

  pub truths_fail : (cs : CondsD) (s : NamedValues) (bs : List Bool) (at : ℕ) (k : FaultKind) → HaveTruths cs s bs → SomeCondFails cs s at k → ⊥
  truths_fail no_conds s bs at k ts bad = elim bad [ ]
  truths_fail (cond c rest) s bs at k (b, more, p, t, ts) (inl bad) = truth_fails c s b at k t bad
  truths_fail (cond c rest) s bs at k (b, more, p, t, ts) (inr (x, y, bad)) = truths_fail rest s more at k ts bad

pub gives_fails : (e : ExprD) (s : NamedValues) (v : PointValue) (at : ℕ) (k : FaultKind) → Gives e s v → Fails e s at k → ⊥
gives_fails e s v at k g bad = given_fails e s v at k g (makes_breaks e s v at k g.0) bad
