-- Questions about one cube after another.
use Rattle.std.proofs.Common.{◌≡◌, ℕ, zero, suc, ◌+◌, ◌-◌, ◌<◌, ◌≤◌, ◌^◌, ◌⊎◌, inl, inr, Bool, true, false, not, ◌&&◌, List, [], ◌∷◌, length, get_or, set, Option, Some, None, Result, Ok, Err, IfOk, OnOk, IfSome, IsNone, ◌↔◌, refl, sym, ap, ◌∙◌, subst, arith}
use Rattle.std.proofs.lemmas.Bool.{cases_lt, and_parts, and_from, true≢false}
use Rattle.std.proofs.lemmas.List.Folds.{Any-from_list_any}
use Rattle.std.proofs.lemmas.List.{get_or_default, get_or-set_same, length-map}
use Rattle.std.specs.Bool.{IsTrue, IsFalse}
use Rattle.std.specs.Global.{Vec}
use Rattle.std.specs.List.{HoldsAt}
use Rattle.std.specs.Option.{is_some}
use Rattle.lois_base.specs.Atom.{Atom, whole}
use Rattle.lois_base.specs.Fits.{CubeFits, ConstraintFits}
use Rattle.lois_base.specs.Theory.{IsSatisfiable, risen}
use Rattle.lois_base.specs.Truth.{cube_holds, holds, sampled}
use Rattle.lois_base.specs.declared.guards.Lit.{Lit}
use Rattle.lois_deciders.specs.Satisfaction.{IsConstraintSample, IsEntailed}
use Rattle.lois_deciders.specs.Satisfiability.{ConstraintIsSatisfiable, IsCounterexample}
use Rattle.lois_deciders.specs.QuestionCounts.{HasRisen}
use Rattle.lois_deciders.specs.Conjunction.{AreInconsistent}

-- the count of questions after k of them
abbrev pub HasAsked : ℕ → ℕ → ℕ → Type 0
HasAsked k before after = ((k ≡ 0) × (after ≡ before)) ⊎ HasRisen before after

pub one_question : (k before after : ℕ) → HasAsked k before after → HasRisen before (risen after)
one_question k before after h = go h (cases_lt (after + 1) (2 ^ 64 - 1))
  where
    go : HasAsked k before after → (after + 1 < 2 ^ 64 - 1) ⊎ (2 ^ 64 - 1 ≤ after + 1) → HasRisen before (risen after)
    go h (inr l) = inr (omega (arith, l))
    go (inl h) (inl l) = inl (omega (arith, l, h.1))
    go (inr (inl h)) (inl l) = inl (omega (arith, l, h))
    go (inr (inr h)) (inl l) = absurd (omega (arith, l, h))

pub some_question : (k before after : ℕ) → 0 < k → HasAsked k before after → HasRisen before after
some_question k before after l (inl h) = absurd (omega (arith, l, h.0))
some_question k before after l (inr h) = h

pub no_cube_met : (n : ℕ) (g : List (List Lit)) → ((k : ℕ) (d : List Lit) → k < length g → IsSatisfiable n (get_or g k d) → ⊥) → ConstraintIsSatisfiable n g → ⊥
no_cube_met n g none met =
    let into = Any-from_list_any (cube_holds met.0) g met.2 in
    none into.0 into.1 into.2 (met.0, met.1, subst (λ (k : List Lit). IsTrue (cube_holds met.0 k)) (sym into.3) into.4)

-- ---- where g holds and h doesn't
both_true : (p q : Bool) → (p && not q) ≡ true → IsTrue p × IsFalse q
both_true true true h = absurd (cc)
both_true true false h = (refl, refl)
both_true false q h = absurd (cc)

true_both : (p q : Bool) → IsTrue p → IsFalse q → (p && not q) ≡ true
true_both true true h k = absurd (cc)
true_both true false h k = refl
true_both false q h k = absurd (cc)

true_unless : (q : Bool) → (IsFalse q → ⊥) → IsTrue q
true_unless true f = refl
true_unless false f = absurd (f refl)

-- what holds only there
module _ (n : ℕ) (g h r : List (List Lit)) (e : (c : List Atom) → IsTrue (holds c r) → IsTrue (holds c g && not (holds c h))) where
  pub meets_within : (s : List ℕ) → IsConstraintSample n r s → IsCounterexample n g h s
  meets_within s m =
      let b = both_true (holds (sampled s) g) (holds (sampled s) h) (e (sampled s) m.1) in
      (m.0, b.0, b.1)

  pub entailed_unmet_within : IsEntailed n g h → ConstraintIsSatisfiable n r → ⊥
  entailed_unmet_within f m =
      let b = both_true (holds m.0 g) (holds m.0 h) (e m.0 m.2) in
      let t : IsTrue (holds m.0 h) = f m.0 m.1 b.0 in
      let u : IsFalse (holds m.0 h) = b.1 in
      cc

  -- a sample of it, for which it was asked
  pub met_not_entailed : (o : Option (Vec ℕ)) (s : Vec ℕ) → o ≡ Some s → (IsNone o ↔ (ConstraintIsSatisfiable n r → ⊥)) → IsNone (Some s) ↔ IsEntailed n g h
  met_not_entailed o s is none = (λ i. absurd (true≢false i), λ f. subst IsNone is (none.1 (entailed_unmet_within f)))

module _ (n : ℕ) (g h r : List (List Lit)) (e : (c : List Atom) → holds c r ≡ (holds c g && not (holds c h))) where
  unmet_entails : (ConstraintIsSatisfiable n r → ⊥) → IsEntailed n g h
  unmet_entails f = λ c l t. true_unless (holds c h) (λ u. f (c, l, e c ∙ true_both (holds c g) (holds c h) t u))

  within : (c : List Atom) → IsTrue (holds c r) → IsTrue (holds c g && not (holds c h))
  within c t = sym (e c) ∙ t

  pub sample_parts : {E : Type 0} (a : Result (Option (Vec ℕ)) E) → IfOk a (λ o. IfSome o (λ s. IsConstraintSample n r s.items)) → IfOk a (λ o. IfSome o (λ s. IsCounterexample n g h s.items))
  sample_parts (Ok (Some s)) m = meets_within n g h r within s.items m
  sample_parts (Ok None) m = m
  sample_parts (Err x) m = m

  pub none_of_parts : (o : Option (Vec ℕ)) → (IsNone o ↔ (ConstraintIsSatisfiable n r → ⊥)) → IsNone o ↔ IsEntailed n g h
  none_of_parts o w = (λ i. unmet_entails (w.0 i), λ f. w.1 (entailed_unmet_within n g h r within f))

  -- of nothing that was found
  pub none_found : (o : Option (Vec ℕ)) → ((s : Vec ℕ) → o ≡ Some s → ⊥) → (IsNone o ↔ (ConstraintIsSatisfiable n r → ⊥)) → (false ≡ false) ↔ IsEntailed n g h
  none_found None f w = none_of_parts None w
  none_found (Some s) f w = absurd (f s refl)

  pub none_parts : {E : Type 0} (a : Result (Option (Vec ℕ)) E) → IfOk a (λ o. IsNone o ↔ (ConstraintIsSatisfiable n r → ⊥)) → IfOk a (λ o. IsNone o ↔ IsEntailed n g h)
  none_parts (Ok o) w = none_of_parts o w
  none_parts (Err x) w = w

-- ---- the cubes of a constraint one after another
pub one_fits : (n : ℕ) (k : List Lit) → CubeFits n k → ConstraintFits n (k ∷ [])
one_fits n k h zero d l = h
one_fits n k h (suc i) d l = absurd (omega (arith, l))

-- ---- of a constraint that holds where another does
module _ {E : Type 0} (n : ℕ) (g h : List (List Lit)) (e : (c : List Atom) → holds c h ≡ holds c g) where
  pub sample_alike : (a : Result (Option (Vec ℕ)) E) → IfOk a (λ o. IfSome o (λ s. IsConstraintSample n g s.items)) → IfOk a (λ o. IfSome o (λ s. IsConstraintSample n h s.items))
  sample_alike (Ok (Some s)) m = (m.0, e (sampled s.items) ∙ m.1)
  sample_alike (Ok None) m = m
  sample_alike (Err x) m = m

  pub none_alike : (a : Result (Option (Vec ℕ)) E) → IfOk a (λ o. IsNone o ↔ (ConstraintIsSatisfiable n g → ⊥)) → IfOk a (λ o. IsNone o ↔ (ConstraintIsSatisfiable n h → ⊥))
  none_alike (Ok o) w = (λ i m. w.0 i (m.0, m.1, sym (e m.0) ∙ m.2), λ f. w.1 (λ m. f (m.0, m.1, e m.0 ∙ m.2)))
  none_alike (Err x) w = w

-- ---- where two constraints hold
module _ (n : ℕ) (g h r : List (List Lit)) (e : (c : List Atom) → holds c r ≡ (holds c g && holds c h)) where
  pub unmet_excludes : (ConstraintIsSatisfiable n r → ⊥) → AreInconsistent n g h
  unmet_excludes f = λ c l p q. f (c, l, e c ∙ and_from (holds c g) (holds c h) p q)

  pub excluded_unmet : AreInconsistent n g h → ConstraintIsSatisfiable n r → ⊥
  excluded_unmet f m = let b = and_parts (holds m.0 g) (holds m.0 h) (sym (e m.0) ∙ m.2) in f m.0 m.1 b.0 b.1

pub is_met : (n : ℕ) (g : List (List Lit)) (s : List ℕ) → IsConstraintSample n g s → ConstraintIsSatisfiable n g
is_met n g s m = (sampled s, length-map s whole ∙ m.0.count, m.1)

-- ---- an answer that may be missing
pub some_is : {X : Type 0} (P : X → Type 0) (o : Option X) (x : X) → o ≡ Some x → IfSome o P → P x
some_is P o x e h = subst (λ z. IfSome z P) e h

pub some_weaker : {X : Type 0} (P Q : X → Type 0) (o : Option X) → ((x : X) → P x → Q x) → IfSome o P → IfSome o Q
some_weaker P Q (Some x) f h = f x h
some_weaker P Q None f h = h

pub none_is : {X : Type 0} (o : Option X) → o ≡ None → IsNone o
none_is o e = ap is_some e

pub on_ok : {T E : Type 0} (r : Result T E) (P Q : Type 0) → (P → Q) → OnOk r P → OnOk r Q
on_ok (Ok x) P Q f h = f h
on_ok (Err e) P Q f h = h

pub asked_at : {X : Type 0} (q : X → ℕ) (items : List X) (at : ℕ) (x y : X) → at < length items → x ≡ get_or items at x → HasRisen (q x) (q y) → HoldsAt (λ b. HoldsAt (λ a. HasRisen (q b) (q a)) (set items at y) at) items at
asked_at {X} q items at x y l e h = λ d d'.
    let was : x ≡ get_or items at d = e ∙ get_or_default items at x d l in
    let is : y ≡ get_or (set items at y) at d' = sym (get_or-set_same items at y d' l) in
    subst (λ (v : X). HasRisen (q v) (q (get_or (set items at y) at d'))) was (subst (λ (v : X). HasRisen (q x) (q v)) is h)

pub asked_one : (k before after next : ℕ) → HasAsked k before after → next ≡ risen after → HasRisen before next
asked_one k before after next h e = subst (HasRisen before) (sym e) (one_question k before after h)

pub cube_at : (xs g : List (List Lit)) (i : ℕ) (x : List Lit) → xs ≡ g → i < length xs → x ≡ get_or xs i x → (d : List Lit) → x ≡ get_or g i d
cube_at xs g i x e l is d = is ∙ (get_or_default xs i x d l ∙ ap (λ ys. get_or ys i d) e)
