-- What an expression gives is determined up to `IsSame`, and a condition has at most one truth.
use Rattle.std.proofs.Common.{◌≡◌, ℕ, zero, suc, Bool, true, false, not as opposite, List, [], ◌∷◌, refl, sym, ap, ◌∙◌, subst}
use mathlib.Core.Logic.{inl, inr}
use Rattle.std.specs.List.{list_all, list_any}
use Rattle.lois_base.specs.Values.{PointValue, IsMember, IsSame, IsIn}
use Rattle.lois_base.proofs.Members.{same_sym, same_trans, in_same, same_in, same_included, included_same}
use Rattle.lois_base.proofs.Order.{below_respects}
use Rattle.lois_meaning.specs.Expressions.{IsPartOf, IsTruthOf, Makes, GiveAll, HasTruth, HaveTruths, Gives}
use Rattle.lois_meaning.specs.Kinds.{AreSame, IsOneOf}
use Rattle.lois_meaning.specs.Store.{NamedValues, stored}
use Rattle.lois_script.specs.Tree.{ExprD, atoms, var, tag, tuple, listed, each, part, apply, ExprsD, no_exprs, expr, binding, CondD, truth, falsity, same, differ, below, member, included, empty, not, all, any, exists, every, CondsD, no_conds, cond}
use Rattle.lois_meaning.proofs.Alike.{set_of_same, set_of_shift, is_atom_both, tags_same, parts_both, tuples_same, are_same_sym, are_same_trans}
use Rattle.lois_meaning.proofs.Automata.{made_same, automaton_same}
use Rattle.lois_meaning.proofs.Moves.{truth_from}
use Rattle.lois_meaning.proofs.Stores.{some_same, stored_other}

one_of_same : (x : PointValue) (us vs : List PointValue) → AreSame us vs → IsOneOf x us → IsOneOf x vs
one_of_same x (u ∷ us) (v ∷ vs) h (inl s) = inl (same_trans x u v s h.0)
one_of_same x (u ∷ us) (v ∷ vs) h (inr q) = inr (one_of_same x us vs h.1 q)
one_of_same x _ _ h q = absurd (assumption (h, q))

part_both : (us ws : List PointValue) (n : ℕ) (v w : PointValue) → AreSame us ws → IsPartOf v us n → IsPartOf w ws n → IsSame v w
part_both (u ∷ us) (x ∷ ws) (suc zero) v w h p q = same_trans v u w p (same_trans u x w h.0 (same_sym w x q))
part_both (u ∷ us) (x ∷ ws) (suc (suc n)) v w h p q = part_both us ws (suc n) v w h.1 p q
part_both _ _ n v w h p q = absurd (assumption (h, p, q))

mutual
  pub makes_same : (e : ExprD) (s : NamedValues) (v w : PointValue) → Makes e s v → Makes e s w → IsSame v w
  makes_same (atoms p) s v w a b = set_of_same _ v w a b
  makes_same (var p x) s v w (u, e, a) (r, f, b) =
      let one : u ≡ r = some_same u r (sym e ∙ f) in
      same_trans v r w (subst (λ y. IsSame v y) one a) (same_sym w r b)
  makes_same (tag p name) s v w a b = tags_same v w name a b
  makes_same (tuple p es) s v w (us, vs, g, parts, a) (rs, ws, k, others, b) =
      tuples_same v w vs ws parts others (are_same_trans vs us ws a (are_same_trans us rs ws (gives_same es s us rs g k) (are_same_sym ws rs b)))
  makes_same (listed p es) s v w (us, g, a) (rs, k, b) =
      let one : AreSame us rs = gives_same es s us rs g k in
      set_of_same (λ x. IsOneOf x us) v w a
      (set_of_shift _ _ w (λ x q. one_of_same x rs us (are_same_sym us rs one) q) (λ x q. one_of_same x us rs one q) b)
  makes_same (each p item bs c) s v w a b = set_of_same _ v w a.3 b.3
  makes_same (part p e n) s v w (u, us, g, parts, a) (r, rs, k, others, b) =
      part_both us rs n v w (parts_both u r us rs (makes_same e s u r g.0 k.0) parts others) a b
  makes_same (apply p op es) s v w (us, g, suit, a) (rs, k, fit, b) =
      made_same op us rs v w (gives_same es s us rs g k) a b

  pub gives_same : (es : ExprsD) (s : NamedValues) (us vs : List PointValue) → GiveAll es s us → GiveAll es s vs → AreSame us vs
  gives_same no_exprs s us vs a b = subst (λ x. AreSame x vs) (sym a) (subst (λ x. AreSame [] x) (sym b) tt)
  gives_same (expr e rest) s us vs (v, more, p, g, gs) (w, also, q, k, ks) =
      subst (λ x. AreSame x vs) (sym p) (subst (λ x. AreSame (v ∷ more) x) (sym q) (makes_same e s v w g.0 k.0, gives_same rest s more also gs ks))

pub given_same : (e : ExprD) (s : NamedValues) (v w : PointValue) → Gives e s v → Gives e s w → IsSame v w
given_same e s v w a b = makes_same e s v w a.0 b.0

decided_both : (a b : Bool) (P Q : Type 0) → (P → Q) → (Q → P) → IsTruthOf a P → IsTruthOf b Q → a ≡ b
decided_both true true P Q f g d k = refl
decided_both true false P Q f g d k = absurd (k (f d))
decided_both false true P Q f g d k = absurd (d (g k))
decided_both false false P Q f g d k = refl

opposite_same : (a b : Bool) → opposite a ≡ opposite b → a ≡ b
opposite_same true true e = refl
opposite_same true false e = sym e
opposite_same false true e = sym e
opposite_same false false e = refl

same_both : (v w x y : PointValue) → IsSame v x → IsSame w y → IsSame v w → IsSame x y
same_both v w x y p q s = same_trans x v y (same_sym v x p) (same_trans v w y s q)

in_both : (v w x y : PointValue) → IsSame v x → IsSame w y → IsIn v w → IsIn x y
in_both v w x y p q s = in_same v x y p (same_in v w y q s)

some_member : (x : List ℕ) (c : CondD) (s : NamedValues) (v w : PointValue) → IsSame v w → (m : PointValue) × IsMember m v × HasTruth c (stored x m s) true → (m : PointValue) × IsMember m w × HasTruth c (stored x m s) true
some_member x c s v w k (m, is, t) =
    let found : (y : PointValue) × IsMember y w × IsSame m y = same_included v w k m is in
    (found.0, found.1, truth_from c (stored x m s) (stored x found.0 s) true (stored_other x m found.0 s found.2) t)

every_member : (x : List ℕ) (c : CondD) (s : NamedValues) (v w : PointValue) → IsSame v w → ((m : PointValue) → IsMember m v → HasTruth c (stored x m s) true) → (m : PointValue) → IsMember m w → HasTruth c (stored x m s) true
every_member x c s v w k h m is =
    let found : (y : PointValue) × IsMember y v × IsSame m y = same_included w v (same_sym v w k) m is in
    truth_from c (stored x found.0 s) (stored x m s) true (stored_other x found.0 m s (same_sym m found.0 found.2)) (h found.0 found.1)

mutual
  pub truth_same : (c : CondD) (s : NamedValues) (a b : Bool) → HasTruth c s a → HasTruth c s b → a ≡ b
  truth_same truth s a b p q = p ∙ sym q
  truth_same falsity s a b p q = p ∙ sym q
  truth_same (same e f) s a b (v, w, g, h, d) (x, y, k, l, r) =
      let one = given_same e s v x g k in let two = given_same f s w y h l in
      decided_both a b _ _ (same_both v w x y one two) (same_both x y v w (same_sym v x one) (same_sym w y two)) d r
  truth_same (differ e f) s a b (v, w, g, h, d) (x, y, k, l, r) =
      let one = given_same e s v x g k in let two = given_same f s w y h l in
      opposite_same a b (decided_both (opposite a) (opposite b) _ _ (same_both v w x y one two) (same_both x y v w (same_sym v x one) (same_sym w y two)) d r)
  truth_same (below p e f) s a b (v, w, i, j, g, h, iv, jw, d) (x, y, i', j', k, l, ix, jy, r) =
      let one = is_atom_both v x i i' (given_same e s v x g k) iv ix in let two = is_atom_both w y j j' (given_same f s w y h l) jw jy in
      d ∙ below_respects i i' j j' one two ∙ sym r
  truth_same (member e f) s a b (v, w, g, h, set, d) (x, y, k, l, also, r) =
      let one = given_same e s v x g k in let two = given_same f s w y h l in
      decided_both a b _ _ (in_both v w x y one two) (in_both x y v w (same_sym v x one) (same_sym w y two)) d r
  truth_same (included e f) s a b (v, w, g, h, set, set', d) (x, y, k, l, also, also', r) =
      let one = given_same e s v x g k in let two = given_same f s w y h l in
      decided_both a b _ _ (included_same v x w y one two) (included_same x v y w (same_sym v x one) (same_sym w y two)) d r
  truth_same (empty e) s a b (v, m, g, au, d) (x, n, k, bu, r) =
      let one = given_same e s v x g k in
      opposite_same a b (decided_both (opposite a) (opposite b) _ _ (λ q. (q.0, automaton_same v x m n one au bu q.0 q.1)) (λ q. (q.0, automaton_same x v n m (same_sym v x one) bu au q.0 q.1)) d r)
  truth_same (not c) s a b p q = opposite_same a b (truth_same c s (opposite a) (opposite b) p q)
  truth_same (all cs) s a b (bs, p, d) (ds, q, r) = d ∙ ap (list_all (λ k. k)) (truths_same cs s bs ds p q) ∙ sym r
  truth_same (any cs) s a b (bs, p, d) (ds, q, r) = d ∙ ap (list_any (λ k. k)) (truths_same cs s bs ds p q) ∙ sym r
  truth_same (exists (binding p x e) c) s a b (v, g, set, ts, d) (w, k, also, us, r) =
      let one = given_same e s v w g k in
      decided_both a b _ _ (some_member x c s v w one) (some_member x c s w v (same_sym v w one)) d r
  truth_same (every (binding p x e) c) s a b (v, g, set, ts, d) (w, k, also, us, r) =
      let one = given_same e s v w g k in
      decided_both a b _ _ (every_member x c s v w one) (every_member x c s w v (same_sym v w one)) d r

  pub truths_same : (cs : CondsD) (s : NamedValues) (l m : List Bool) → HaveTruths cs s l → HaveTruths cs s m → l ≡ m
  truths_same no_conds s l m p q = p ∙ sym q
  truths_same (cond c rest) s l m (a, more, e, p, ps) (b, also, f, q, qs) =
      e ∙ (ap (λ x. x ∷ more) (truth_same c s a b p q) ∙ (ap (λ x. b ∷ x) (truths_same rest s more also ps qs) ∙ sym f))
