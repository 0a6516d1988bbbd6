-- Comprehensions and quantifiers, one binder after another, over the definitions of the language alone.
use Rattle.std.proofs.Common.{ℕ, Bool, true, false, inl, inr, ◌↔◌, List, refl, sym, subst}
use Rattle.std.proofs.lemmas.Bool.{false≢true}
use Rattle.lois_base.specs.Values.{PointValue, IsMember, IsSame, IsIn}
use Rattle.lois_base.proofs.Members.{same_included, same_trans}
use Rattle.lois_meaning.specs.Expressions.{Makes, Reaches, HasTruth, Gives}
use Rattle.lois_meaning.specs.Faults.{Breaks, CondFails}
use Rattle.lois_meaning.specs.Kinds.{IsSet, IsSetOf}
use Rattle.lois_meaning.specs.Store.{NamedValues, stored, AreSameNamed}
use Rattle.lois_script.specs.Tree.{ExprD, each, BindingsD, no_bindings, bind, binding, CondD, exists, every}
use Rattle.lois_answers.specs.declared.faults.FaultKind.{FaultKind}
use Rattle.lois_meaning.proofs.Moves.{reaches_from, truth_from, gives_from}
use Rattle.lois_meaning.proofs.Determined.{given_same, truth_same}
use Rattle.lois_meaning.proofs.Stores.{named_sym, stored_other}

-- ---- no binder is left

module _ (p : ℕ) (item : ExprD) (cond : CondD) (s : NamedValues) (v : PointValue) where
  -- where the condition is true the set has the item's value alone
  pub each_true : HasTruth cond s true → (u : PointValue) → Gives item s u → IsSetOf v (λ w. IsSame w u) → Makes (each p item no_bindings cond) s v
  each_true h u g set = (
    tt,
    λ t e. (true, subst (λ z. HasTruth cond z true) e h),
    λ t e k. (u, subst (λ z. Gives item z u) e g),
    (
      set.0,
      λ w. (
        λ m. (s, u, refl, h, g, (set.1 w).0 m),
        λ (t, x, e, k, y, is). (set.1 w).1 (same_as u x w (subst (λ z. Gives item z x) (sym e) y) g is),
      ),
    ),
  )
    where
      same_as : (u x w : PointValue) → Gives item s x → Gives item s u → IsSame w x → IsSame w u
      same_as u x w a b is = same_trans w x u is (given_same item s x u a b)

  -- and no members where it is false
  pub each_false : HasTruth cond s false → IsSet v → ((w : PointValue) → IsIn w v → ⊥) → Makes (each p item no_bindings cond) s v
  each_false h set none = (
    tt,
    λ t e. (false, subst (λ z. HasTruth cond z false) e h),
    λ t e k. absurd (false≢true (truth_same cond t false true (subst (λ z. HasTruth cond z false) e h) k)),
    (
      set,
      λ w. (
        λ m. absurd (none w m),
        λ (t, x, e, k, y, is). absurd (false≢true (truth_same cond t false true (subst (λ z. HasTruth cond z false) e h) k)),
      ),
    ),
  )

-- ---- one binder, whose set gives the value `all`

module _ (q : ℕ) (x : List ℕ) (e : ExprD) (s : NamedValues) (all : PointValue) (gives : Gives e s all) (set : IsSet all) where
  -- a member of any value that the set gives is the same as one of this value
  partner : (v m : PointValue) → Gives e s v → IsMember m v → (u : PointValue) × IsMember u all × IsSame m u
  partner v m g is = same_included v all (given_same e s v all g gives) m is

  module _ (p : ℕ) (item : ExprD) (rest : BindingsD) (cond : CondD) where
    -- a combination of all binders is one of the rest for some member
    reached : (t : NamedValues) → Reaches (bind (binding q x e) rest) s t → (u : PointValue) × IsMember u all × (t' : NamedValues) × Reaches rest (stored x u s) t' × AreSameNamed t t'
    reached t (v, m, g, is, r) =
        let u = partner v m g is in
        let to = reaches_from rest (stored x m s) (stored x u.0 s) t (stored_other x m u.0 s u.2) r in
        (u.0, u.1, to.0, to.1, to.2)

    -- the set of all combinations has what the sets for the members have
    pub each_binder : (v : PointValue) → IsSet v → ((m : PointValue) → IsMember m all → (r : PointValue) × Makes (each 0 item rest cond) (stored x m s) r) →
        ((w : PointValue) → IsIn w v ↔ ((m : PointValue) × IsMember m all × (r : PointValue) × Makes (each 0 item rest cond) (stored x m s) r × IsIn w r)) →
        Makes (each p item (bind (binding q x e) rest) cond) s v
    each_binder v is made members = (
      (all, gives, set, λ m h. (made m h).1.0),
      λ t h. let to = reached t h in
          let b = (made to.0 to.1).1.1 to.2 to.3 in
          (b.0, truth_from cond to.2 t b.0 (named_sym t to.2 to.4) b.1),
      λ t h k. let to = reached t h in
          let u = (made to.0 to.1).1.2 to.2 to.3 (truth_from cond t to.2 true to.4 k) in
          (u.0, gives_from item to.2 t u.0 (named_sym t to.2 to.4) u.1),
      (
        is,
        λ w. (
          λ h. let (m, there, r, mk, inside) = (members w).0 h in
              let (t, u, reach, k, g, same) = (mk.3.1 w).0 inside in
              (t, u, (all, m, gives, there, reach), k, g, same),
          λ (t, u, reach, k, g, same).
              let to = reached t reach in
              let mk = made to.0 to.1 in
              (members w).1 (to.0, to.1, mk.0, mk.1, (mk.1.3.1 w).1 (to.2, u, to.3, truth_from cond t to.2 true to.4 k, gives_from item t to.2 u to.4 g, same)),
        ),
      ),
    )

    -- what fails for some member of the set fails for the whole
    pub each_binder_breaks : (m : PointValue) → IsMember m all → (at : ℕ) (k : FaultKind) → Breaks (each 0 item rest cond) (stored x m s) at k → Breaks (each p item (bind (binding q x e) rest) cond) s at k
    each_binder_breaks m is at k (inl h) = inl (inr (inr (all, m, gives, is, h)))
    each_binder_breaks m is at k (inr (inl (t, r, h))) = inr (inl (t, (all, m, gives, is, r), h))
    each_binder_breaks m is at k (inr (inr (t, r, y, h))) = inr (inr (t, (all, m, gives, is, r), y, h))

  module _ (cond : CondD) (decided : (m : PointValue) → IsMember m all → (b : Bool) × HasTruth cond (stored x m s) b) where
    pub exists_true : (m : PointValue) → IsMember m all → HasTruth cond (stored x m s) true → HasTruth (exists (binding q x e) cond) s true
    exists_true m is h = (all, gives, set, decided, (m, is, h))

    pub exists_false : ((m : PointValue) → IsMember m all → HasTruth cond (stored x m s) true → ⊥) → HasTruth (exists (binding q x e) cond) s false
    exists_false none = (all, gives, set, decided, λ (m, is, h). none m is h)

    pub every_false : (m : PointValue) → IsMember m all → HasTruth cond (stored x m s) false → HasTruth (every (binding q x e) cond) s false
    every_false m is h = (all, gives, set, decided, λ each. false≢true (truth_same cond (stored x m s) false true h (each m is)))

    pub every_true : ((m : PointValue) → IsMember m all → HasTruth cond (stored x m s) false → ⊥) → HasTruth (every (binding q x e) cond) s true
    every_true none = (all, gives, set, decided, λ m is. let b = decided m is in chosen m is b.0 b.1)
      where
        chosen : (m : PointValue) → IsMember m all → (b : Bool) → HasTruth cond (stored x m s) b → HasTruth cond (stored x m s) true
        chosen m is true h = h
        chosen m is false h = absurd (none m is h)

  pub exists_binder_fails : (cond : CondD) (m : PointValue) → IsMember m all → (at : ℕ) (k : FaultKind) → CondFails cond (stored x m s) at k → CondFails (exists (binding q x e) cond) s at k
  exists_binder_fails cond m is at k h = inr (inr (all, m, gives, is, h))

  pub every_binder_fails : (cond : CondD) (m : PointValue) → IsMember m all → (at : ℕ) (k : FaultKind) → CondFails cond (stored x m s) at k → CondFails (every (binding q x e) cond) s at k
  every_binder_fails cond m is at k h = inr (inr (all, m, gives, is, h))
