-- A comprehension and a quantifier by what the contexts inside of their first binder come to.
use Rattle.std.proofs.Common.{◌≡◌, ℕ, Bool, true, false, not as opposite, List, ◌++◌, refl, sym, ◌∙◌}
use Rattle.std.proofs.lemmas.Bool.{false≢true}
use Rattle.std.specs.Bool.{IsTrue}
use Rattle.std.specs.List.{Contains}
use Rattle.lois_base.specs.Atom.{Atom}
use Rattle.lois_base.specs.Data.{TermD, coll, CompsD}
use Rattle.lois_base.specs.Truth.{holds}
use Rattle.lois_base.specs.Values.{PointValue, point, IsMember, IsIn}
use Rattle.lois_base.specs.declared.guards.Lit.{Lit}
use Rattle.lois_base.proofs.Members.{member_in}
use Rattle.lois_meaning.specs.Expressions.{Makes, Gives, HasTruth}
use Rattle.lois_meaning.specs.Kinds.{IsSet}
use Rattle.lois_meaning.specs.Store.{NamedValues, stored, AreSameNamed}
use Rattle.lois_script.specs.Tree.{ExprD, each, BindingsD, bind, binding, CondD, exists, every}
use Rattle.lois_meaning.proofs.Moves.{makes_from, truth_from}
use Rattle.lois_meaning.proofs.Stores.{named_sym}
use Rattle.lois_context.specs.Choices.{IsAdmitted}
use Rattle.lois_context.specs.Entered.{AreEntered}
use Rattle.lois_context.specs.Slots.{store_at}
use Rattle.lois_context.specs.declared.contexts.Context.{Context}
use Rattle.lois_eval.specs.Evaluated.{HasMembersOnlyWhereAdmitted}
use Rattle.lois_eval.specs.Folded.{IsGatheredInside, IsFoundInside}
use Rattle.lois_eval.proofs.Binders.{each_binder, exists_true, exists_false, every_true, every_false}
use Rattle.lois_eval.proofs.Inside.{to_inside, from_inside, admitted_outside}

module _ (k : Context) (x : List ℕ) (t : TermD) (ds : List Context) (entered : AreEntered k x t ds) where
  -- what there is at each store inside there is for each member
  for_member : (R : NamedValues → Type 0) → ((s t : NamedValues) → AreSameNamed s t → R s → R t) → ((d : Context) → Contains ds d → (c : List Atom) → IsAdmitted c d → R (store_at c d.store)) →
      (c : List Atom) → IsAdmitted c k → (m : PointValue) → IsMember m (point t c) → R (stored x m (store_at c k.store))
  for_member R move held c a m is =
      let (d, there, e, adm, same) = to_inside k x t ds entered c a m is in
      move (store_at (c ++ e) d.store) (stored x m (store_at c k.store)) same (held d there (c ++ e) adm)

  module _ (q : ℕ) (e : ExprD) (gives : (c : List Atom) → IsAdmitted c k → Gives e (store_at c k.store) (point t c)) (set : (c : List Atom) → IsSet (point t c)) where
    pub loop_makes : (p : ℕ) (item : ExprD) (rest : BindingsD) (cond : CondD) (stands : Bool → List (List ℕ) → Type 0) (ks : CompsD) →
        IsGatheredInside k.size (Makes (each 0 item rest cond)) stands ds ks → (c : List Atom) → IsAdmitted c k →
        Makes (each p item (bind (binding q x e) rest) cond) (store_at c k.store) (point (coll ks) c)
    loop_makes p item rest cond stands ks gathered c a =
        each_binder q x e (store_at c k.store) (point t c) (gives c a) (set c) p item rest cond (point (coll ks) c) tt
        (λ m is. for_member (λ s. (v : PointValue) × Makes (each 0 item rest cond) s v) (λ s u h (v, mk). (v, makes_from (each 0 item rest cond) s u v h mk)) gathered.made c a m is)
        (λ w. (
          λ h. let (m, is, (v, mk, inn)) = from_inside k x t ds entered (λ s. (v : PointValue) × Makes (each 0 item rest cond) s v × IsIn w v) (λ s u h (v, mk, i). (v, makes_from (each 0 item rest cond) s u v h mk, i)) c a ((gathered.members c a.0 w).0 h) in
              (m, is, v, mk, inn),
          λ (m, is, v, mk, inn).
              let (d, there, l, adm, same) = to_inside k x t ds entered c a m is in
              (gathered.members c a.0 w).1 (d, there, l, adm, (v, makes_from (each 0 item rest cond) (stored x m (store_at c k.store)) (store_at (c ++ l) d.store) v (named_sym (store_at (c ++ l) d.store) (stored x m (store_at c k.store)) same) mk, inn)),
        ))

    module _ (cond : CondD) (wanted : Bool) (stands : Bool → List (List ℕ) → Type 0) (g : List (List Lit)) (found : IsFoundInside k.size (HasTruth cond) wanted stands ds g) (c : List Atom) (a : IsAdmitted c k) where
      decided_member : (m : PointValue) → IsMember m (point t c) → (b : Bool) × HasTruth cond (stored x m (store_at c k.store)) b
      decided_member =
          for_member (λ s. (b : Bool) × HasTruth cond s b) (λ s u h (b, tr). (b, truth_from cond s u b h tr)) found.decided c a

      found_member : IsTrue (holds c g) → (m : PointValue) × IsMember m (point t c) × HasTruth cond (stored x m (store_at c k.store)) wanted
      found_member h =
          from_inside k x t ds entered (λ s. HasTruth cond s wanted) (λ s u h tr. truth_from cond s u wanted h tr) c a ((found.found c a.0).0 h)

      none_found : (h : holds c g ≡ false) (m : PointValue) → IsMember m (point t c) → HasTruth cond (stored x m (store_at c k.store)) wanted → ⊥
      none_found h m is tr =
          let (d, there, l, adm, same) = to_inside k x t ds entered c a m is in
          false≢true (sym h ∙ (found.found c a.0).1 (d, there, l, adm, truth_from cond (stored x m (store_at c k.store)) (store_at (c ++ l) d.store) wanted (named_sym (store_at (c ++ l) d.store) (stored x m (store_at c k.store)) same) tr))

    pub loop_exists : (cond : CondD) (stands : Bool → List (List ℕ) → Type 0) (g : List (List Lit)) → IsFoundInside k.size (HasTruth cond) true stands ds g → (c : List Atom) → IsAdmitted c k → HasTruth (exists (binding q x e) cond) (store_at c k.store) (holds c g)
    loop_exists cond stands g found c a = go (holds c g) refl
      where
        go : (b : Bool) → holds c g ≡ b → HasTruth (exists (binding q x e) cond) (store_at c k.store) b
        go true h =
            let (m, is, tr) = found_member cond true stands g found c a h in
            exists_true q x e (store_at c k.store) (point t c) (gives c a) (set c) cond (decided_member cond true stands g found c a) m is tr
        go false h =
            exists_false q x e (store_at c k.store) (point t c) (gives c a) (set c) cond (decided_member cond true stands g found c a) (none_found cond true stands g found c a h)

    pub loop_every : (cond : CondD) (stands : Bool → List (List ℕ) → Type 0) (g : List (List Lit)) → IsFoundInside k.size (HasTruth cond) false stands ds g → (c : List Atom) → IsAdmitted c k → HasTruth (every (binding q x e) cond) (store_at c k.store) (opposite (holds c g))
    loop_every cond stands g found c a = go (holds c g) refl
      where
        go : (b : Bool) → holds c g ≡ b → HasTruth (every (binding q x e) cond) (store_at c k.store) (opposite b)
        go true h =
            let (m, is, tr) = found_member cond false stands g found c a h in
            every_false q x e (store_at c k.store) (point t c) (gives c a) (set c) cond (decided_member cond false stands g found c a) m is tr
        go false h =
            every_true q x e (store_at c k.store) (point t c) (gives c a) (set c) cond (decided_member cond false stands g found c a) (none_found cond false stands g found c a h)

  -- the set outside has members only where the context admits
  pub loop_within : (P : NamedValues → PointValue → Type 0) (stands : Bool → List (List ℕ) → Type 0) (ks : CompsD) → IsGatheredInside k.size P stands ds ks → HasMembersOnlyWhereAdmitted k (coll ks)
  loop_within P stands ks gathered c l w is =
      admitted_outside k x t ds entered c l (λ s. (v : PointValue) × P s v × IsIn w v) ((gathered.members c l w).0 (member_in w (point (coll ks) c) is))
