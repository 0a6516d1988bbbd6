-- Where two comprehensions have pairs with the same first part and different second parts.
use Rattle.std.proofs.Common.{◌≡◌, ℕ, ◌+◌, Bool, true, false, not, ◌&&◌, inl, inr, List, [], ◌++◌, length, length-append, refl, sym, subst, ◌∙◌, arith}
use Rattle.std.proofs.lemmas.Bool.{false≢true}
use Rattle.std.specs.Bool.{IsTrue, IsFalse}
use Rattle.lois_base.specs.Atom.{Atom}
use Rattle.lois_base.specs.Data.{TermD, CompD}
use Rattle.lois_base.specs.Truth.{holds}
use Rattle.lois_base.specs.Values.{point, IsSame}
use Rattle.lois_base.specs.declared.guards.Lit.{Lit}
use Rattle.lois_base.proofs.Members.{same_refl, same_sym, same_trans}
use Rattle.lois_algebra.specs.Gathered.{IsCompMember}
use Rattle.lois_elim.specs.Bound.{HoldsForSomeMore}
use Rattle.lois_base.proofs.Connectives.{both_true}
use Rattle.lois_base.proofs.Order.{test}
use Rattle.lois_meaning.specs.Automata.{IsPair}
use Rattle.lois_meaning.proofs.Operations.{pair_to}
use Rattle.lois_meaning.proofs.Tuples.{pair_parts}
use Rattle.lois_automata.specs.Built.{AreBeside}
use Rattle.lois_automata.specs.Projections.{AllAgree, pair_of}
use Rattle.lois_automata.specs.Verdicts.{HoldsWhere, HoldsUnless}
use Rattle.lois_automata.proofs.Written.{pair_is, pair_here, pair_term}

-- where one of the two makes no pairs, all pairs agree
module _ (n : ℕ) (k q : CompD) (m : ℕ) (g : List (List Lit)) (one two : TermD) (beside : AreBeside n k q m g one two) where
  pub first_is_no_pair : (r : List (List Lit)) → r ≡ [] → ((a b : TermD) → one ≡ pair_of a b → ⊥) → HoldsUnless n (λ c. AllAgree (IsCompMember k c) (IsCompMember q c)) r
  first_is_no_pair r empty never = subst (λ z. HoldsUnless n (λ c. AllAgree (IsCompMember k c) (IsCompMember q c)) z) (sym empty) (λ c l. (
    λ h. absurd (false≢true h),
    λ h x y a v v' i j p p'.
        let f = (beside.made c l x y).0 (i, j) in
        let t = pair_term one (c ++ f.0) a v (pair_to x (point one (c ++ f.0)) a v (same_sym (point one (c ++ f.0)) x f.2) p) in
        absurd (never t.0 t.1 t.2),
  ))

  pub second_is_no_pair : (r : List (List Lit)) → r ≡ [] → ((a b : TermD) → two ≡ pair_of a b → ⊥) → HoldsUnless n (λ c. AllAgree (IsCompMember k c) (IsCompMember q c)) r
  second_is_no_pair r empty never = subst (λ z. HoldsUnless n (λ c. AllAgree (IsCompMember k c) (IsCompMember q c)) z) (sym empty) (λ c l. (
    λ h. absurd (false≢true h),
    λ h x y a v v' i j p p'.
        let f = (beside.made c l x y).0 (i, j) in
        let t = pair_term two (c ++ f.0) a v' (pair_to y (point two (c ++ f.0)) a v' (same_sym (point two (c ++ f.0)) y f.3) p') in
        absurd (never t.0 t.1 t.2),
  ))

module _ (n : ℕ) (k q : CompD) (m : ℕ) (g : List (List Lit)) (a b a' b' : TermD) (beside : AreBeside n k q m g (pair_of a b) (pair_of a' b')) (key value keys clash r : List (List Lit))
    (key_is : HoldsWhere (n + m) (λ d. IsSame (point a d) (point a' d)) key) (value_is : HoldsWhere (n + m) (λ d. IsSame (point b d) (point b' d)) value)
    (keys_are : (d : List Atom) → holds d keys ≡ (holds d g && holds d key)) (clash_is : (d : List Atom) → holds d clash ≡ (holds d keys && not (holds d value))) (some : HoldsForSomeMore n m clash r) where
  not_false : (x : Bool) → IsTrue (not x) → IsFalse x
  not_false true h = absurd (false≢true h)
  not_false false h = refl

  false_not : (x : Bool) → IsFalse x → IsTrue (not x)
  false_not true h = absurd (false≢true (sym h))
  false_not false h = refl

  met : (c : List Atom) → length c ≡ n → IsTrue (holds c r) → AllAgree (IsCompMember k c) (IsCompMember q c) → ⊥
  met c l h all =
      let found = (some c l).0 h in
      let e = found.0 in
      let d = c ++ e in
      let len : length d ≡ n + m = length-append c e ∙ omega (arith, l, found.1) in
      let outer = (both_true (holds d keys) (not (holds d value))).0 (sym (clash_is d) ∙ found.2) in
      let inner = (both_true (holds d g) (holds d key)).0 (sym (keys_are d) ∙ outer.0) in
      let x = point (pair_of a b) d in
      let y = point (pair_of a' b') d in
      let made = (beside.made c l x y).1 (e, record { count = found.1; guard = inner.0 }, same_refl x, same_refl y) in
      let same : IsSame (point a d) (point a' d) = (key_is d len).0 inner.1 in
      let other : IsPair y (point a d) (point b' d) = pair_parts y (point a' d) (point b' d) (point a d) (point b' d) (same_sym (point a d) (point a' d) same) (same_refl (point b' d)) (pair_is a' b' d) in
      let agree : IsSame (point b d) (point b' d) = all x y (point a d) (point b d) (point b' d) made.0 made.1 (pair_is a b d) other in
      false≢true (sym (not_false (holds d value) outer.1) ∙ (value_is d len).1 agree)

  unmet : (c : List Atom) → length c ≡ n → IsFalse (holds c r) → AllAgree (IsCompMember k c) (IsCompMember q c)
  unmet c l h x y w v v' i j p p' =
      let f = (beside.made c l x y).0 (i, j) in
      let e = f.0 in
      let d = c ++ e in
      let len : length d ≡ n + m = length-append c e ∙ omega (arith, l, f.1.count) in
      let here = pair_here a b d w v (pair_to x (point (pair_of a b) d) w v (same_sym (point (pair_of a b) d) x f.2) p) in
      let there = pair_here a' b' d w v' (pair_to y (point (pair_of a' b') d) w v' (same_sym (point (pair_of a' b') d) y f.3) p') in
      let same : IsTrue (holds d key) = (key_is d len).1 (same_trans (point a d) w (point a' d) (same_sym w (point a d) here.0) there.0) in
      elim (test (holds d value)) [
        | inl t ↦ same_trans v (point b d) v' here.1 (same_trans (point b d) (point b' d) v' ((value_is d len).0 t) (same_sym v' (point b' d) there.1))
        | inr t ↦
            let outer : IsTrue (holds d keys) = keys_are d ∙ (both_true (holds d g) (holds d key)).1 (f.1.guard, same) in
            let held : IsTrue (holds d clash) = clash_is d ∙ (both_true (holds d keys) (not (holds d value))).1 (outer, false_not (holds d value) t) in
            absurd (false≢true (sym h ∙ (some c l).1 (e, f.1.count, held)))
      ]

  pub differing : HoldsUnless n (λ c. AllAgree (IsCompMember k c) (IsCompMember q c)) r
  differing c l = (met c l, unmet c l)
