-- Cubes and literals that are left out where others have what they hold.
use Rattle.std.proofs.Common.{◌≡◌, ℕ, ◌+◌, ◌<◌, ◌⊎◌, inl, inr, ◌||◌, Bool, true, false, List, [], ◌∷◌, ◌++◌, length, get_or, take, Result, Ok, Err, IfOk, refl, sym, ap, ◌∙◌, subst, arith}
use Rattle.std.proofs.lemmas.Bool.{and_parts, and_from, or_cases, or_left, or_right}
use Rattle.std.proofs.lemmas.List.{take_more}
use Rattle.std.specs.Bool.{IsTrue, IsFalse}
use Rattle.std.specs.List.{All, list_any, remove}
use Rattle.std.proofs.lemmas.List.Elements.{All-cons, All-head, All-tail, All-push}
use Rattle.std.proofs.lemmas.List.Folds.{list_any-append}
use Rattle.lois_base.specs.Atom.{Atom}
use Rattle.lois_base.specs.Fits.{LitFits, CubeFits, ConstraintFits}
use Rattle.lois_base.specs.Truth.{lit_holds, cube_holds, holds}
use Rattle.lois_base.specs.Validity.{AdmitsLit, AdmitsCube, AdmitsConstraint}
use Rattle.lois_base.specs.declared.guards.Lit.{Lit}
use Rattle.lois_base.proofs.Both.{cubes_append, holds_append}
use Rattle.lois_simplify.specs.Shortened.{CubeEntailsUnder, IsWeakenedCube, IsShortened}

-- what all obey, all but one obey
all_without : {X : Type 0} (P : X → Type 0) (p q : List X) (x : X) → All P (p ++ x ∷ q) → All P (p ++ q)
all_without P [] q x h = All-tail P x q h
all_without P (y ∷ p) q x h =
    All-cons P y (p ++ q) (All-head P y (p ++ x ∷ q) h) (all_without P p q x (All-tail P y (p ++ x ∷ q) h))

all_with_other : {X : Type 0} (P : X → Type 0) (p q : List X) (x y : X) → (P x → P y) → All P (p ++ x ∷ q) → All P (p ++ y ∷ q)
all_with_other P [] q x y next h =
    All-cons P y q (next (All-head P x q h)) (All-tail P x q h)
all_with_other P (z ∷ p) q x y next h =
    All-cons P z (p ++ y ∷ q) (All-head P z (p ++ x ∷ q) h) (all_with_other P p q x y next (All-tail P z (p ++ x ∷ q) h))

module _ (e : List Atom) where
  -- ---- literals
  without : (p q : List Lit) (l : Lit) → IsTrue (cube_holds e (p ++ l ∷ q)) → IsTrue (cube_holds e (p ++ q))
  without p q l h =
      let both = and_parts (cube_holds e p) (cube_holds e (l ∷ q)) (sym (cubes_append e p (l ∷ q)) ∙ h) in
      let rest = and_parts (lit_holds e l) (cube_holds e q) both.1 in
      cubes_append e p q ∙ and_from (cube_holds e p) (cube_holds e q) both.0 rest.1

  with_one : (p q : List Lit) (l : Lit) → IsTrue (lit_holds e l) → IsTrue (cube_holds e (p ++ q)) → IsTrue (cube_holds e (p ++ l ∷ q))
  with_one p q l one h =
      let both = and_parts (cube_holds e p) (cube_holds e q) (sym (cubes_append e p q) ∙ h) in
      cubes_append e p (l ∷ q) ∙ and_from (cube_holds e p) (cube_holds e (l ∷ q)) both.0 (and_from (lit_holds e l) (cube_holds e q) one both.1)

  pub with_last : (k r : List Lit) (l : Lit) → r ≡ k ++ l ∷ [] → IsTrue (cube_holds e k) → IsTrue (lit_holds e l) → IsTrue (cube_holds e r)
  with_last k r l is h one =
      subst (λ z. IsTrue (cube_holds e z)) (sym is) (cubes_append e k (l ∷ []) ∙ and_from (cube_holds e k) (cube_holds e (l ∷ [])) h (and_from (lit_holds e l) true one refl))

  -- what follows from each of some literals follows where one of them holds
  pub one_more_gained : (g : List (List Lit)) (ls : List Lit) (i : ℕ) (d : Lit) → i < length ls → (IsTrue (list_any (lit_holds e) (take i ls)) → IsTrue (holds e g)) → (IsTrue (lit_holds e (get_or ls i d)) → IsTrue (holds e g)) → IsTrue (list_any (lit_holds e) (take (i + 1) ls)) → IsTrue (holds e g)
  one_more_gained g ls i d inside before next h =
      let l = get_or ls i d in
      elim (or_cases (list_any (lit_holds e) (take i ls)) (list_any (lit_holds e) (l ∷ [])) (sym (list_any-append (lit_holds e) (take i ls) (l ∷ [])) ∙ subst (λ z. IsTrue (list_any (lit_holds e) z)) (take_more ls i d inside) h)) [
        | inl j ↦ before j
        | inr j ↦ elim (or_cases (lit_holds e l) false j) [
          | inl n ↦ next n
          | inr n ↦ absurd (cc)
        ]
      ]

  -- ---- cubes
  before_or_behind : (p q : List (List Lit)) → IsTrue (holds e (p ++ q)) → IsTrue (holds e p) ⊎ IsTrue (holds e q)
  before_or_behind p q h = or_cases (holds e p) (holds e q) (sym (holds_append e p q) ∙ h)

  first_or_rest : (k : List Lit) (q : List (List Lit)) → IsTrue (holds e (k ∷ q)) → IsTrue (cube_holds e k) ⊎ IsTrue (holds e q)
  first_or_rest k q h = or_cases (cube_holds e k) (holds e q) h

  in_before : (p q : List (List Lit)) → IsTrue (holds e p) → IsTrue (holds e (p ++ q))
  in_before p q h = holds_append e p q ∙ or_left (holds e p) (holds e q) h

  in_behind : (p q : List (List Lit)) → IsTrue (holds e q) → IsTrue (holds e (p ++ q))
  in_behind p q h = holds_append e p q ∙ or_right (holds e p) (holds e q) h

  in_middle : (p q : List (List Lit)) (k : List Lit) → IsTrue (cube_holds e k) → IsTrue (holds e (p ++ k ∷ q))
  in_middle p q k h = in_behind p (k ∷ q) (or_left (cube_holds e k) (holds e q) h)

  in_last : (p q : List (List Lit)) (k : List Lit) → IsTrue (holds e q) → IsTrue (holds e (p ++ k ∷ q))
  in_last p q k h = in_behind p (k ∷ q) (or_right (cube_holds e k) (holds e q) h)

  with_middle : (p q : List (List Lit)) (k : List Lit) → IsTrue (holds e (p ++ q)) → IsTrue (holds e (p ++ k ∷ q))
  with_middle p q k h = elim (before_or_behind p q h) [
    | inl i ↦ in_before p (k ∷ q) i
    | inr i ↦ in_last p q k i
  ]

  -- what one cube is in the place of another
  change_middle : (p q : List (List Lit)) (k : List Lit) (g : List (List Lit)) → (IsTrue (cube_holds e k) → IsTrue (holds e g)) → (IsTrue (holds e (p ++ q)) → IsTrue (holds e g)) → IsTrue (holds e (p ++ k ∷ q)) → IsTrue (holds e g)
  change_middle p q k g one others h = go (before_or_behind p (k ∷ q) h)
    where
      behind : IsTrue (cube_holds e k) ⊎ IsTrue (holds e q) → IsTrue (holds e g)
      behind (inl i) = one i
      behind (inr i) = others (in_behind p q i)

      go : IsTrue (holds e p) ⊎ IsTrue (holds e (k ∷ q)) → IsTrue (holds e g)
      go (inl i) = others (in_before p q i)
      go (inr i) = behind (first_or_rest k q i)

module _ (u g : List (List Lit)) (k : List Lit) where
  pub weakened_begin : CubeEntailsUnder u k g → IsWeakenedCube u g k k
  weakened_begin h =
      record { weaker = λ e i. i; within = h; levels = λ n f. f; operators = λ o f. f }

  pub literal_left_out : (p q : List Lit) (l : Lit) → IsWeakenedCube u g k (p ++ l ∷ q) → ((e : List Atom) → IsTrue (holds e u) → IsTrue (cube_holds e (p ++ q)) → IsFalse (lit_holds e l) → IsTrue (holds e g)) → IsWeakenedCube u g k (p ++ q)
  literal_left_out p q l so_far gained = record {
    weaker = λ e h. without e p q l (so_far.weaker e h);
    within = λ e o h. by_literal e o h (lit_holds e l) refl;
    levels = λ n f. all_without (LitFits n) p q l (so_far.levels n f);
    operators = λ o f. all_without (AdmitsLit o) p q l (so_far.operators o f);
  }
    where
      by_literal : (e : List Atom) → IsTrue (holds e u) → IsTrue (cube_holds e (p ++ q)) → (b : Bool) → lit_holds e l ≡ b → IsTrue (holds e g)
      by_literal e o h true is = so_far.within e o (with_one e p q l is h)
      by_literal e o h false is = gained e o h is

module _ (u : List (List Lit)) where
  pub shortened_alike : (g r : List (List Lit)) → ((e : List Atom) → holds e r ≡ holds e g) → ((n : ℕ) → ConstraintFits n g → ConstraintFits n r) → ((o : Bool) → AdmitsConstraint o g → AdmitsConstraint o r) → IsShortened u g r
  shortened_alike g r same levels operators = record {
    there = λ e o h. same e ∙ h;
    back = λ e o h. sym (same e) ∙ h;
    levels = levels;
    operators = operators;
  }

  pub shortened_then : (g s r : List (List Lit)) → IsShortened u g s → IsShortened u s r → IsShortened u g r
  shortened_then g s r a b = record {
    there = λ e o h. b.there e o (a.there e o h);
    back = λ e o h. a.back e o (b.back e o h);
    levels = λ n f. b.levels n (a.levels n f);
    operators = λ o f. b.operators o (a.operators o f);
  }

  pub cube_left_out : (p q : List (List Lit)) (k : List Lit) → CubeEntailsUnder u k (p ++ q) → IsShortened u (p ++ k ∷ q) (p ++ q)
  cube_left_out p q k covered = record {
    there = λ e o h. change_middle e p q k (p ++ q) (covered e o) (λ i. i) h;
    back = λ e o h. with_middle e p q k h;
    levels = λ n f. all_without (CubeFits n) p q k f;
    operators = λ o f. all_without (AdmitsCube o) p q k f;
  }

  pub cube_weakened : (p q : List (List Lit)) (k r : List Lit) → IsWeakenedCube u (k ∷ (p ++ q)) k r → IsShortened u (p ++ k ∷ q) (p ++ r ∷ q)
  cube_weakened p q k r w = record {
    there = λ e o h. change_middle e p q k (p ++ r ∷ q) (λ i. in_middle e p q r (w.weaker e i)) (with_middle e p q r) h;
    back = λ e o h. change_middle e p q r (p ++ k ∷ q) (λ i. whole e (first_or_rest e k (p ++ q) (w.within e o i))) (with_middle e p q k) h;
    levels = λ n f. all_with_other (CubeFits n) p q k r (w.levels n) f;
    operators = λ o f. all_with_other (AdmitsCube o) p q k r (w.operators o) f;
  }
    where
      whole : (e : List Atom) → IsTrue (cube_holds e k) ⊎ IsTrue (holds e (p ++ q)) → IsTrue (holds e (p ++ k ∷ q))
      whole e (inl i) = in_middle e p q k i
      whole e (inr i) = with_middle e p q k i

  -- ---- the first cube goes behind the others
  pub shortened_itself : (g : List (List Lit)) → IsShortened u g g
  shortened_itself g = shortened_alike g g (λ e. refl) (λ n f. f) (λ o f. f)

  first_behind : (q : List (List Lit)) (r : List Lit) → IsShortened u (r ∷ q) (q ++ r ∷ [])
  first_behind q r =
      shortened_alike (r ∷ q) (q ++ r ∷ []) (λ e. holds_append e q (r ∷ []) ∙ turned (holds e q) (cube_holds e r))
      (λ n f. All-push (CubeFits n) q r (All-tail (CubeFits n) r q f) (All-head (CubeFits n) r q f))
      (λ o f. All-push (AdmitsCube o) q r (All-tail (AdmitsCube o) r q f) (All-head (AdmitsCube o) r q f))
    where
      turned : (a b : Bool) → (a || (b || false)) ≡ (b || a)
      turned true true = refl
      turned true false = refl
      turned false true = refl
      turned false false = refl

  pub first_left_out : (g q : List (List Lit)) (k : List Lit) → g ≡ k ∷ q → CubeEntailsUnder u k q → IsShortened u g q
  first_left_out g q k e covered =
      subst (λ z. IsShortened u z q) (sym e) (cube_left_out [] q k covered)

  pub first_weakened : (g q p : List (List Lit)) (k r : List Lit) → g ≡ k ∷ q → p ≡ q ++ r ∷ [] → IsWeakenedCube u (k ∷ q) k r → IsShortened u g p
  first_weakened g q p k r e f w =
      subst (λ z. IsShortened u z p) (sym e)
      (subst (IsShortened u (k ∷ q)) (sym f) (shortened_then (k ∷ q) (r ∷ q) (q ++ r ∷ []) (cube_weakened [] q k r w) (first_behind q r)))

  pub cube_itself : (q : List (List Lit)) (k : List Lit) → IsWeakenedCube u (k ∷ q) k k
  cube_itself q k = weakened_begin u (k ∷ q) k (λ e o h. or_left (cube_holds e k) (holds e q) h)

pub held_by_others : (e : List Atom) (k : List Lit) (q : List (List Lit)) → IsTrue (holds e q) → IsTrue (holds e (k ∷ q))
held_by_others e k q h = or_right (cube_holds e k) (holds e q) h

-- the first of a list, and what is left of it
pub first_and_rest : {X : Type 0} (xs rest : List X) (x : X) → 0 < length xs → x ≡ get_or xs 0 x → rest ≡ remove xs 0 → xs ≡ x ∷ rest
first_and_rest [] rest x l e r = absurd (omega (arith, l))
first_and_rest (y ∷ ys) rest x l e r = ap (λ z. z ∷ ys) (sym e) ∙ ap (λ z. x ∷ z) (sym r)

-- what is alike wherever u holds is equally true there
pub equally_true : (u g r : List (List Lit)) → IsShortened u g r → (e : List Atom) → IsTrue (holds e u) → holds e r ≡ holds e g
equally_true u g r s e o = go (holds e r) (holds e g) refl refl
  where
    go : (x y : Bool) → holds e r ≡ x → holds e g ≡ y → holds e r ≡ holds e g
    go true y i j = i ∙ sym (s.back e o i)
    go false true i j = s.there e o j ∙ sym j
    go false false i j = i ∙ sym j

-- what is written anew with the same truth, levels and operators stands for it, and for a guard that it stands for
pub normalised_alike : {E : Type 0} (u g s : List (List Lit)) (r : Result (List (List Lit)) E) → IsShortened u g s → IfOk r (λ x. (e : List Atom) → holds e x ≡ holds e s) → IfOk r (λ x. (n : ℕ) → ConstraintFits n s → ConstraintFits n x) → IfOk r (λ x. (o : Bool) → AdmitsConstraint o s → AdmitsConstraint o x) → IfOk r (IsShortened u g)
normalised_alike u g s (Ok x) short truth fits operators =
    shortened_then u g s x short (shortened_alike u s x truth fits operators)
normalised_alike u g s (Err e) short truth fits operators = truth

pub split_alike : {E : Type 0} (s : List (List Lit)) (r : Result (List (List Lit)) E) → IfOk r (λ x. (e : List Atom) → holds e x ≡ holds e s) → IfOk r (λ x. (n : ℕ) → ConstraintFits n s → ConstraintFits n x) → IfOk r (λ x. (o : Bool) → AdmitsConstraint o s → AdmitsConstraint o x) → IfOk r (λ x. (u : List (List Lit)) → IsShortened u s x)
split_alike s (Ok x) truth fits operators = λ u. shortened_alike u s x truth fits operators
split_alike s (Err e) truth fits operators = truth
