-- Stores that are the same give the same values and truths, and what is given is closed under `IsSame`.
use Rattle.std.proofs.Common.{◌≡◌, ℕ, zero, suc, Bool, true, false, not as opposite, List, ◌∷◌, refl, subst, Some}
use Rattle.lois_base.specs.Values.{PointValue, IsSame}
use Rattle.lois_base.proofs.Members.{deeper_same, same_sym, same_trans}
use Rattle.lois_meaning.specs.Expressions.{IsPartOf, IsTruthOf, Given, Makes, GiveAll, HaveSets, Reaches, HasTruth, HaveTruths, Gives}
use Rattle.lois_meaning.specs.Kinds.{HasParts, AreSame}
use Rattle.lois_meaning.specs.Store.{NamedValues, looked_up, stored, AreSameNamed, depth_limit}
use Rattle.lois_script.specs.Tree.{ExprD, atoms, var, tag, tuple, listed, each, part, apply, ExprsD, no_exprs, expr, binding, BindingsD, no_bindings, bind, CondD, truth, falsity, same, differ, below, member, included, empty, not, all, any, exists, every, CondsD, no_conds, cond}
use Rattle.lois_meaning.proofs.Automata.{made_move}
use Rattle.lois_meaning.proofs.Stores.{named_sym, looked_up_same, stored_in}
use Rattle.lois_meaning.proofs.Alike.{set_of_shift, set_of_to, is_tag_same, parts_same, are_same_sym, are_same_trans}

pub truth_of_move : (b : Bool) (P Q : Type 0) → (P → Q) → (Q → P) → IsTruthOf b P → IsTruthOf b Q
truth_of_move true P Q f g d = f d
truth_of_move false P Q f g d = λ q. d (g q)

mutual
  pub makes_from : (e : ExprD) (s t : NamedValues) (v : PointValue) → AreSameNamed s t → Makes e s v → Makes e t v
  makes_from (atoms p) s t v h m = m
  makes_from (var p x) s t v h (u, e, m) =
      let found : (r : PointValue) × (looked_up x t ≡ Some r) × IsSame u r = looked_up_same x s t u h e in
      (found.0, found.1, same_trans v u found.0 m found.2)
  makes_from (tag p name) s t v h m = m
  makes_from (tuple p es) s t v h (us, vs, g, parts, alike) = (us, vs, give_all_from es s t us h g, parts, alike)
  makes_from (listed p es) s t v h (us, g, set) = (us, give_all_from es s t us h g, set)
  makes_from (each p item bs c) s t v h (sets, decided, given, set) = (
    sets_from bs s t h sets,
    (λ u r. let back : (u' : NamedValues) × Reaches bs s u' × AreSameNamed u u' = reaches_from bs t s u (named_sym s t h) r in
        let here : (b : Bool) × HasTruth c back.0 b = decided back.0 back.1 in
        (here.0, truth_from c back.0 u here.0 (named_sym u back.0 back.2) here.1)),
    (λ u r y. let back : (u' : NamedValues) × Reaches bs s u' × AreSameNamed u u' = reaches_from bs t s u (named_sym s t h) r in
        let here : (x : PointValue) × Given (Makes item) back.0 x = given back.0 back.1 (truth_from c u back.0 true back.2 y) in
        (here.0, (makes_from item back.0 u here.0 (named_sym u back.0 back.2) here.1.0, here.1.1))),
    set_of_shift _ _ v
        (λ x q. let to : (u' : NamedValues) × Reaches bs t u' × AreSameNamed q.0 u' = reaches_from bs s t q.0 h q.2 in
        (to.0, q.1, to.1, truth_from c q.0 to.0 true to.2 q.3, (makes_from item q.0 to.0 q.1 to.2 q.4.0, q.4.1), q.5))
        (λ x q. let to : (u' : NamedValues) × Reaches bs s u' × AreSameNamed q.0 u' = reaches_from bs t s q.0 (named_sym s t h) q.2 in
        (to.0, q.1, to.1, truth_from c q.0 to.0 true to.2 q.3, (makes_from item q.0 to.0 q.1 to.2 q.4.0, q.4.1), q.5))
        set,
  )
  makes_from (part p e n) s t v h (u, us, g, parts, at) = (u, us, (makes_from e s t u h g.0, g.1), parts, at)
  makes_from (apply p op es) s t v h (us, g, fit, made) = (us, give_all_from es s t us h g, fit, made)

  pub give_all_from : (es : ExprsD) (s t : NamedValues) (us : List PointValue) → AreSameNamed s t → GiveAll es s us → GiveAll es t us
  give_all_from no_exprs s t us h g = g
  give_all_from (expr e rest) s t us h (v, more, q, g, gs) = (v, more, q, (makes_from e s t v h g.0, g.1), give_all_from rest s t more h gs)

  sets_from : (bs : BindingsD) (s t : NamedValues) → AreSameNamed s t → HaveSets bs s → HaveSets bs t
  sets_from no_bindings s t h r = r
  sets_from (bind (binding p x e) rest) s t h (v, g, set, r) =
      (v, (makes_from e s t v h g.0, g.1), set, λ m is. sets_from rest (stored x m s) (stored x m t) (stored_in x m s t h) (r m is))

  pub reaches_from : (bs : BindingsD) (s t u : NamedValues) → AreSameNamed s t → Reaches bs s u → (u' : NamedValues) × Reaches bs t u' × AreSameNamed u u'
  reaches_from no_bindings s t u h r = (t, refl, subst (λ x. AreSameNamed x t) r h)
  reaches_from (bind (binding p x e) rest) s t u h (v, m, g, is, r) =
      let next : (u' : NamedValues) × Reaches rest (stored x m t) u' × AreSameNamed u u' = reaches_from rest (stored x m s) (stored x m t) u (stored_in x m s t h) r in
      (next.0, (v, m, (makes_from e s t v h g.0, g.1), is, next.1), next.2)

  pub truth_from : (c : CondD) (s t : NamedValues) (b : Bool) → AreSameNamed s t → HasTruth c s b → HasTruth c t b
  truth_from truth s t b h q = q
  truth_from falsity s t b h q = q
  truth_from (same e f) s t b h (v, w, g, k, d) = (v, w, (makes_from e s t v h g.0, g.1), (makes_from f s t w h k.0, k.1), d)
  truth_from (differ e f) s t b h (v, w, g, k, d) = (v, w, (makes_from e s t v h g.0, g.1), (makes_from f s t w h k.0, k.1), d)
  truth_from (below p e f) s t b h (v, w, i, j, g, k, iv, jw, d) = (v, w, i, j, (makes_from e s t v h g.0, g.1), (makes_from f s t w h k.0, k.1), iv, jw, d)
  truth_from (member e f) s t b h (v, w, g, k, set, d) = (v, w, (makes_from e s t v h g.0, g.1), (makes_from f s t w h k.0, k.1), set, d)
  truth_from (included e f) s t b h (v, w, g, k, set, also, d) = (v, w, (makes_from e s t v h g.0, g.1), (makes_from f s t w h k.0, k.1), set, also, d)
  truth_from (empty e) s t b h (v, a, g, is, d) = (v, a, (makes_from e s t v h g.0, g.1), is, d)
  truth_from (not c) s t b h q = truth_from c s t (opposite b) h q
  truth_from (all cs) s t b h (bs, q, d) = (bs, truths_from cs s t bs h q, d)
  truth_from (any cs) s t b h (bs, q, d) = (bs, truths_from cs s t bs h q, d)
  truth_from (exists (binding p x e) c) s t b h (v, g, set, each_m, d) = (
    v,
    (makes_from e s t v h g.0, g.1),
    set,
    (λ m is. ((each_m m is).0, truth_from c (stored x m s) (stored x m t) (each_m m is).0 (stored_in x m s t h) (each_m m is).1)),
    truth_of_move b _ _
        (λ q. (q.0, q.1, truth_from c (stored x q.0 s) (stored x q.0 t) true (stored_in x q.0 s t h) q.2))
        (λ q. (q.0, q.1, truth_from c (stored x q.0 t) (stored x q.0 s) true (stored_in x q.0 t s (named_sym s t h)) q.2)) d,
  )
  truth_from (every (binding p x e) c) s t b h (v, g, set, each_m, d) = (
    v,
    (makes_from e s t v h g.0, g.1),
    set,
    (λ m is. ((each_m m is).0, truth_from c (stored x m s) (stored x m t) (each_m m is).0 (stored_in x m s t h) (each_m m is).1)),
    truth_of_move b _ _
        (λ q m is. truth_from c (stored x m s) (stored x m t) true (stored_in x m s t h) (q m is))
        (λ q m is. truth_from c (stored x m t) (stored x m s) true (stored_in x m t s (named_sym s t h)) (q m is)) d,
  )

  truths_from : (cs : CondsD) (s t : NamedValues) (bs : List Bool) → AreSameNamed s t → HaveTruths cs s bs → HaveTruths cs t bs
  truths_from no_conds s t bs h q = q
  truths_from (cond c rest) s t bs h (b, more, e, q, qs) = (b, more, e, truth_from c s t b h q, truths_from rest s t more h qs)

part_to : (us : List PointValue) (n : ℕ) (v w : PointValue) → IsSame v w → IsPartOf v us n → IsPartOf w us n
part_to (u ∷ us) (suc zero) v w s h = same_trans w v u (same_sym v w s) h
part_to (u ∷ us) (suc (suc n)) v w s h = part_to us (suc n) v w s h
part_to _ _ v w s h = absurd h

pub makes_to : (e : ExprD) (s : NamedValues) (v w : PointValue) → IsSame v w → Makes e s v → Makes e s w
makes_to (atoms p) s v w k m = set_of_to _ v w k m
makes_to (var p x) s v w k (u, e, m) = (u, e, same_trans w v u (same_sym v w k) m)
makes_to (tag p name) s v w k m = is_tag_same v w name k m
makes_to (tuple p es) s v w k (us, vs, g, parts, alike) =
    let moved : (ws : List PointValue) × HasParts w ws × AreSame vs ws = parts_same v w vs k parts in
    (us, moved.0, g, moved.1, are_same_trans moved.0 vs us (are_same_sym vs moved.0 moved.2) alike)
makes_to (listed p es) s v w k (us, g, set) = (us, g, set_of_to _ v w k set)
makes_to (each p item bs c) s v w k (sets, decided, given, set) = (sets, decided, given, set_of_to _ v w k set)
makes_to (part p e n) s v w k (u, us, g, parts, at) = (u, us, g, parts, part_to us n v w k at)
makes_to (apply p op es) s v w k (us, g, fit, made) = (us, g, fit, made_move op us v w k made)

pub gives_from : (e : ExprD) (s t : NamedValues) (v : PointValue) → AreSameNamed s t → Gives e s v → Gives e t v
gives_from e s t v h g = (makes_from e s t v h g.0, g.1)

pub gives_to : (e : ExprD) (s : NamedValues) (v w : PointValue) → IsSame v w → Gives e s v → Gives e s w
gives_to e s v w k g = (makes_to e s v w k g.0, λ deep. g.1 (deeper_same w v depth_limit (same_sym v w k) deep))
