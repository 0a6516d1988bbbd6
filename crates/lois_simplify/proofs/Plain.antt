-- Guards that always hold are written as `true`.
use Rattle.std.proofs.Common.{◌≡◌, ℕ, zero, suc, ◌+◌, ◌<◌, Bool, true, false, not, ◌&&◌, inl, inr, List, [], ◌∷◌, ◌++◌, length, get_or, take, drop, Result, Ok, Err, IfOk, refl, sym, ap, ◌∙◌, subst, arith}
use Rattle.std.specs.Bool.{IsTrue, IsFalse}
use Rattle.std.specs.List.{All, Contains}
use Rattle.std.proofs.lemmas.Bool.{and_parts, or_left, or_right, or_cases}
use Rattle.std.proofs.lemmas.List.{take_more, take-append-drop}
use Rattle.std.proofs.lemmas.List.Elements.{All-nil, All-cons, All-head, All-weaker}
use Rattle.lois_base.specs.Atom.{Atom, whole}
use Rattle.lois_base.specs.Data.{TermD, var, tag, tup, coll, TermsD, no_terms, term, CompD, comp, CompsD, no_comps, more, comps_of}
use Rattle.lois_base.specs.Fits.{LitFits, CubeFits, ConstraintFits}
use Rattle.lois_base.specs.Normal.{both}
use Rattle.lois_base.specs.Truth.{atom_at, cube_holds, holds}
use Rattle.lois_base.specs.Validity.{AdmitsLit, AdmitsCube, IsStrictLit, IsStrictCube, IsStrictConstraint, IsStrictTerm, PartsAreStrict, CompIsStrict, ItemsAreStrict}
use Rattle.lois_base.specs.declared.guards.Lit.{Lit}
use Rattle.lois_base.proofs.Both.{holds_append}
use Rattle.lois_base.proofs.Truths.{LitAgrees, holds_agree}
use Rattle.lois_constraint.specs.Entailment.{CubeIsSatisfiable, IsPruned}
use Rattle.lois_deciders.specs.Satisfaction.{IsEntailed}
use Rattle.lois_simplify.specs.Shortened.{IsShortened}
use Rattle.lois_simplify.specs.Plain.{IsPlain, HasPlainGuards, PartsHavePlainGuards, CompHasPlainGuards, ItemsHavePlainGuards}
use Rattle.lois_simplify.proofs.Members.{contains_first, contains_later}
use Rattle.lois_simplify.proofs.Under.{both_same}

-- ---- a choice of n atoms that stands for any other as far as n levels go
abbrev first_atoms : ℕ → List Atom → List Atom
first_atoms zero c = []
first_atoms (suc n) [] = whole 0 ∷ first_atoms n []
first_atoms (suc n) (a ∷ c) = a ∷ first_atoms n c

length_first : (n : ℕ) (c : List Atom) → length (first_atoms n c) ≡ n
length_first zero c = refl
length_first (suc n) [] = ap suc (length_first n [])
length_first (suc n) (a ∷ c) = ap suc (length_first n c)

first_at : (n : ℕ) (c : List Atom) (i : ℕ) → i < n → atom_at (first_atoms n c) i ≡ atom_at c i
first_at zero c i l = absurd (omega (arith, l))
first_at (suc n) [] zero l = refl
first_at (suc n) [] (suc i) l = first_at n [] i (omega (arith, l))
first_at (suc n) (a ∷ c) zero l = refl
first_at (suc n) (a ∷ c) (suc i) l = first_at n c i (omega (arith, l))

first_holds : (n : ℕ) (c : List Atom) (g : List (List Lit)) → ConstraintFits n g → holds (first_atoms n c) g ≡ holds c g
first_holds n c g f = holds_agree (first_atoms n c) c g (All-weaker (CubeFits n) (All (LitAgrees (first_atoms n c) c)) (λ k h. All-weaker (LitFits n) (LitAgrees (first_atoms n c) c) lit_first k h) g f)
  where
    lit_first : (l : Lit) → LitFits n l → LitAgrees (first_atoms n c) c l
    lit_first l f = rw (first_at n c l.left f.0, first_at n c l.right f.1) refl

-- what holds at each choice of n atoms holds at each choice
pub entailed_anywhere : (n : ℕ) (u g : List (List Lit)) → ConstraintFits n u → ConstraintFits n g → IsEntailed n u g → (c : List Atom) → IsTrue (holds c u) → IsTrue (holds c g)
entailed_anywhere n u g f h entailed c o =
    sym (first_holds n c g h) ∙ entailed (first_atoms n c) (length_first n c) (first_holds n c u f ∙ o)

-- ---- whether a constraint holds wherever another one does, by what is beyond it
pub not_false : (b : Bool) → IsTrue (not b) → IsFalse b
not_false true h = absurd (cc)
not_false false h = refl

module _ (u g r : List (List Lit)) (beyond : (e : List Atom) → holds e r ≡ (holds e u && not (holds e g))) where
  pub follows_where : length r ≡ 0 → (e : List Atom) → IsTrue (holds e u) → IsTrue (holds e g)
  follows_where none e o = go r none (beyond e) (holds e g) refl
    where
      go : (s : List (List Lit)) → length s ≡ 0 → holds e s ≡ (holds e u && not (holds e g)) → (b : Bool) → holds e g ≡ b → IsTrue (holds e g)
      go s l is true h = h
      go [] l is false h = absurd (cc (is, o, h))
      go (k ∷ ks) l is false h = absurd (omega (arith, l))

  pub fails_where : IsPruned r → (length r ≡ 0 → ⊥) → (e : List Atom) × IsTrue (holds e u) × IsFalse (holds e g)
  fails_where pruned some = go r pruned.met some beyond
    where
      go : (s : List (List Lit)) → All CubeIsSatisfiable s → (length s ≡ 0 → ⊥) → ((e : List Atom) → holds e s ≡ (holds e u && not (holds e g))) → (e : List Atom) × IsTrue (holds e u) × IsFalse (holds e g)
      go [] met l is = absurd (l refl)
      go (k ∷ ks) met l is =
          let one = All-head CubeIsSatisfiable k ks met in
          let parts = and_parts (holds one.0 u) (not (holds one.0 g)) (sym (is one.0) ∙ or_left (cube_holds one.0 k) (holds one.0 ks) one.1) in
          (one.0, parts.0, not_false (holds one.0 g) parts.1)

-- ---- the cubes of a constraint one by one
module _ (e : List Atom) (u : List (List Lit)) (i : ℕ) (k : List Lit) (within : i < length u) (is : k ≡ get_or u i k) where
  taken : take (i + 1) u ≡ take i u ++ k ∷ []
  taken = take_more u i k within ∙ ap (λ z. take i u ++ z ∷ []) (sym is)

  pub part_holds : IsTrue (holds e (k ∷ [])) → IsTrue (holds e u)
  part_holds h =
      subst (λ z. IsTrue (holds e z)) (take-append-drop (i + 1) u)
      (holds_append e (take (i + 1) u) (drop (i + 1) u) ∙ or_left (holds e (take (i + 1) u)) (holds e (drop (i + 1) u)) (subst (λ z. IsTrue (holds e z)) (sym taken) (holds_append e (take i u) (k ∷ []) ∙ or_right (holds e (take i u)) (holds e (k ∷ [])) h)))

  pub one_more_part : (g : List (List Lit)) → (IsTrue (holds e (take i u)) → IsTrue (holds e g)) → (IsTrue (holds e (k ∷ [])) → IsTrue (holds e g)) → IsTrue (holds e (take (i + 1) u)) → IsTrue (holds e g)
  one_more_part g before next h =
      elim (or_cases (holds e (take i u)) (holds e (k ∷ [])) (sym (holds_append e (take i u) (k ∷ [])) ∙ subst (λ z. IsTrue (holds e z)) taken h)) [ inl j ↦ before j | inr j ↦ next j ]

-- ---- `true` in the place of what holds wherever u does
pub always_shortened : (u g r : List (List Lit)) → ((e : List Atom) → IsTrue (holds e u) → IsTrue (holds e g)) → r ≡ [] ∷ [] → IsShortened u g r
always_shortened u g r follows is = subst (IsShortened u g) (sym is) (record {
  there = λ e o h. refl;
  back = λ e o h. follows e o;
  levels = λ n f. All-cons (CubeFits n) [] [] (All-nil (LitFits n)) (All-nil (CubeFits n));
  operators = λ o f. All-cons (AdmitsCube o) [] [] (All-nil (AdmitsLit o)) (All-nil (AdmitsCube o));
})

pub always_is_plain : (r u : List (List Lit)) (n : ℕ) → r ≡ [] ∷ [] → IsPlain r u n
always_is_plain r u n is = record {
  always = λ h. is;
  strict = subst IsStrictConstraint (sym is) (All-cons IsStrictCube [] [] (All-nil IsStrictLit) (All-nil IsStrictCube));
}

-- what fails somewhere where u holds is plain if it has no `<=`
plain_elsewhere : (u g r : List (List Lit)) → IsShortened u g r → IsStrictConstraint r → (e : List Atom) × IsTrue (holds e u) × IsFalse (holds e g) → (n : ℕ) → ConstraintFits n u → ConstraintFits n g → IsPlain r u n
plain_elsewhere u g r s strict (e, o, fails) n f h = record {
  always = λ entailed.
      let there : IsTrue (holds e r) = entailed_anywhere n u r f (s.levels n h) entailed e o in
      absurd (cc (s.back e o there, fails));
  strict = strict;
}

pub plain_answer : {E : Type 0} (u g : List (List Lit)) (r : Result (List (List Lit)) E) → (e : List Atom) × IsTrue (holds e u) × IsFalse (holds e g) → IfOk r (IsShortened u g) → IfOk r IsStrictConstraint → IfOk r (λ x. (n : ℕ) → ConstraintFits n u → ConstraintFits n g → IsPlain x u n)
plain_answer u g (Ok x) fails short strict = plain_elsewhere u g x short strict fails
plain_answer u g (Err e) fails short strict = strict

-- ---- what is plain under a constraint is plain under each with the same truth
plain_same : (g u v : List (List Lit)) (n : ℕ) → ((c : List Atom) → holds c u ≡ holds c v) → IsPlain g u n → IsPlain g v n
plain_same g u v n same plain =
    record { always = λ h. plain.always (λ c l o. h c l (sym (same c) ∙ o)); strict = plain.strict }

mutual
  pub plain_under : (t : TermD) (u v : List (List Lit)) (n : ℕ) → ((c : List Atom) → holds c u ≡ holds c v) → HasPlainGuards t u n → HasPlainGuards t v n
  plain_under (var i) u v n same h = tt
  plain_under (tag t) u v n same h = tt
  plain_under (tup ts) u v n same h = parts_under ts u v n same h
  plain_under (coll cs) u v n same h = items_under cs u v n same h

  parts_under : (ts : TermsD) (u v : List (List Lit)) (n : ℕ) → ((c : List Atom) → holds c u ≡ holds c v) → PartsHavePlainGuards ts u n → PartsHavePlainGuards ts v n
  parts_under no_terms u v n same h = tt
  parts_under (term t ts) u v n same h = (plain_under t u v n same h.0, parts_under ts u v n same h.1)

  comp_under : (k : CompD) (u v : List (List Lit)) (n : ℕ) → ((c : List Atom) → holds c u ≡ holds c v) → CompHasPlainGuards k u n → CompHasPlainGuards k v n
  comp_under (comp m g t) u v n same h =
      (plain_same g u v (n + m) same h.0, plain_under t (both u g) (both v g) (n + m) (both_same u v same g) h.1)

  items_under : (cs : CompsD) (u v : List (List Lit)) (n : ℕ) → ((c : List Atom) → holds c u ≡ holds c v) → ItemsHavePlainGuards cs u n → ItemsHavePlainGuards cs v n
  items_under no_comps u v n same h = tt
  items_under (more k ks) u v n same h = (comp_under k u v n same h.0, items_under ks u v n same h.1)

-- ---- from comprehensions to sets
pub set_has_plain_guards : (u : List (List Lit)) (n : ℕ) (cs : List CompD) → ((k : CompD) → Contains cs k → CompHasPlainGuards k u n) → ItemsHavePlainGuards (comps_of cs) u n
set_has_plain_guards u n [] plain = tt
set_has_plain_guards u n (k ∷ ks) plain =
    (plain k (contains_first k ks), set_has_plain_guards u n ks (λ j h. plain j (contains_later k j ks h)))

-- ---- terms with plain guards have no `<=`
mutual
  pub strict_of_plain : (t : TermD) (u : List (List Lit)) (n : ℕ) → HasPlainGuards t u n → IsStrictTerm t
  strict_of_plain (var i) u n h = tt
  strict_of_plain (tag t) u n h = tt
  strict_of_plain (tup ts) u n h = strict_parts ts u n h
  strict_of_plain (coll cs) u n h = strict_items cs u n h

  strict_parts : (ts : TermsD) (u : List (List Lit)) (n : ℕ) → PartsHavePlainGuards ts u n → PartsAreStrict ts
  strict_parts no_terms u n h = tt
  strict_parts (term t ts) u n h = (strict_of_plain t u n h.0, strict_parts ts u n h.1)

  strict_comp : (k : CompD) (u : List (List Lit)) (n : ℕ) → CompHasPlainGuards k u n → CompIsStrict k
  strict_comp (comp m g t) u n h =
      ((h.0).strict, strict_of_plain t (both u g) (n + m) h.1)

  strict_items : (cs : CompsD) (u : List (List Lit)) (n : ℕ) → ItemsHavePlainGuards cs u n → ItemsAreStrict cs
  strict_items no_comps u n h = tt
  strict_items (more k ks) u n h = (strict_comp k u n h.0, strict_items ks u n h.1)
