-- Cubes of which none entails another.
use Rattle.std.proofs.Common.{◌≡◌, ℕ, ◌+◌, ◌<◌, ◌≤◌, Bool, true, false, ◌&&◌, ◌||◌, List, [], ◌∷◌, ◌++◌, length, length-append, get_or, take, drop, IsTrue, refl, sym, ap, ◌∙◌, subst, arith}
use Rattle.std.specs.List.{All}
use Rattle.std.proofs.lemmas.List.{get_or_append_left, get_or_default, get_or_push, take-append-drop}
use Rattle.std.proofs.lemmas.List.Elements.{All-push}
use Rattle.std.proofs.lemmas.List.Quantifiers.{all_pairs_push}
use Rattle.std.proofs.lemmas.List.Folds.{list_any-append}
use Rattle.std.proofs.lemmas.List.Sorted.{All-permutation}
use Rattle.std.specs.List.Sorted.{IsPermutation}
use Rattle.lois_base.specs.Atom.{Atom}
use Rattle.lois_base.specs.Truth.{cube_holds, holds}
use Rattle.lois_base.specs.declared.guards.Lit.{Lit}
use Rattle.lois_constraint.specs.Entailment.{CubeIsSatisfiable, Entails, AreIncomparable, IsPruned}
use Rattle.lois_constraint.proofs.Sorted.{pairs_permuted}
use Rattle.lois_constraint.proofs.Tightened.{constraint_grows}
use Rattle.lois_constraint.proofs.Words.{or_nothing}

-- the kept cubes are apart from each of the cubes from i on
abbrev pub ApartFrom : List (List Lit) → ℕ → List (List Lit) → Type 0
ApartFrom xs i kept = (j : ℕ) (d : List Lit) → i ≤ j → j < length xs → All (λ k. AreIncomparable k (get_or xs j d)) kept

-- the cubes before others
pub before_pruned : (xs ys : List (List Lit)) → IsPruned (xs ++ ys) → IsPruned xs
before_pruned xs ys p =
    let longer : length (xs ++ ys) ≡ length xs + length ys = length-append xs ys in
    record {
      met = λ i d l. subst CubeIsSatisfiable (get_or_append_left xs ys d i l) (p.met i d (omega (arith, longer)));
      apart = λ i j d l m. let h : AreIncomparable (get_or (xs ++ ys) i d) (get_or (xs ++ ys) j d) = p.apart i j d l (omega (arith, longer)) in subst (λ (k : List Lit). AreIncomparable k (get_or xs j d)) (get_or_append_left xs ys d i (omega arith)) (subst (AreIncomparable (get_or (xs ++ ys) i d)) (get_or_append_left xs ys d j m) h);
    }

pub first_pruned : (n : ℕ) (xs : List (List Lit)) → IsPruned xs → IsPruned (take n xs)
first_pruned n xs p = before_pruned (take n xs) (drop n xs) (subst IsPruned (sym (take-append-drop n xs)) p)

pub first_holds : (c : List Atom) (n : ℕ) (xs : List (List Lit)) → IsTrue (holds c (take n xs)) → IsTrue (holds c xs)
first_holds c n xs h =
    subst (λ (g : List (List Lit)). IsTrue (holds c g)) (take-append-drop n xs) (list_any-append (cube_holds c) (take n xs) (drop n xs) ∙ ap (λ p. p || holds c (drop n xs)) h)

-- the cubes before the last one
module _ (xs : List (List Lit)) (x : List Lit) (p : IsPruned (xs ++ x ∷ [])) where
  longer : length (xs ++ x ∷ []) ≡ length xs + 1
  longer = length-append xs (x ∷ [])

  pub front_pruned : IsPruned xs
  front_pruned = before_pruned xs (x ∷ []) p

  pub front_apart : All (λ k. AreIncomparable k x) xs
  front_apart i d l =
      let h : AreIncomparable (get_or (xs ++ x ∷ []) i d) (get_or (xs ++ x ∷ []) (length xs) d) = p.apart i (length xs) d l (omega (arith, longer)) in
      subst (λ (k : List Lit). AreIncomparable k x) (get_or_append_left xs (x ∷ []) d i l) (subst (AreIncomparable (get_or (xs ++ x ∷ []) i d)) (get_or_push xs x d (length xs) refl) h)

pub kept_pruned : (kept : List (List Lit)) (x : List Lit) → IsPruned kept → CubeIsSatisfiable x → All (λ k. AreIncomparable k x) kept → IsPruned (kept ++ x ∷ [])
kept_pruned kept x p met apart = record { met = All-push CubeIsSatisfiable kept x p.met met; apart = all_pairs_push AreIncomparable kept x p.apart apart }

-- a new cube that entails none, and that none entails
pub pruned_more : (kept : List (List Lit)) (x : List Lit) → IsPruned kept → CubeIsSatisfiable x → All (λ k. Entails k x → ⊥) kept → All (λ k. Entails x k → ⊥) kept → IsPruned (kept ++ x ∷ [])
pruned_more kept x p met out un = record {
  met = All-push CubeIsSatisfiable kept x p.met met;
  apart = all_pairs_push AreIncomparable kept x p.apart (λ k d l. (out k d l, un k d l));
}

-- ---- the cubes so far, beside one that the dropped ones entail
one_kept : (h t p q : Bool) → (h || q) ≡ (t || q) → ((h || p) || q) ≡ ((t || p) || q)
one_kept true true p q e = refl
one_kept true false true q e = refl
one_kept true false false q e = e
one_kept false true true q e = refl
one_kept false true false q e = e
one_kept false false p q e = refl

one_dropped : (h t p q : Bool) → (p ≡ true → q ≡ true) → (h || q) ≡ (t || q) → (h || q) ≡ ((t || (p || false)) || q)
one_dropped h true p q f e = e
one_dropped h false false q f e = e
one_dropped h false true q f e = e ∙ f refl

module _ (c : List Atom) (q : Bool) (kept xs : List (List Lit)) (x : List Lit) (same : (holds c kept || q) ≡ (holds c xs || q)) where
  pub kept_holds : (holds c (kept ++ x ∷ []) || q) ≡ (holds c (xs ++ x ∷ []) || q)
  kept_holds =
      rw (list_any-append (cube_holds c) kept (x ∷ []), list_any-append (cube_holds c) xs (x ∷ [])) (one_kept (holds c kept) (holds c xs) (cube_holds c x || false) q same)

  pub dropped_holds : (cube_holds c x ≡ true → q ≡ true) → (holds c kept || q) ≡ (holds c (xs ++ x ∷ []) || q)
  dropped_holds f =
      one_dropped (holds c kept) (holds c xs) (cube_holds c x) q f same ∙ ap (λ p. p || q) (sym (list_any-append (cube_holds c) xs (x ∷ [])))

-- ---- the cubes so far, parted by whether they entail a constraint
one_within : (w o y x g : Bool) → (x ≡ true → g ≡ true) → (w || (o && g)) ≡ (y && g) → ((w || (x || false)) || (o && g)) ≡ ((y || (x || false)) && g)
one_within true o true true true f e = refl
one_within true o false true true f e = refl
one_within false o true true true f e = refl
one_within false o false true true f e = refl
one_within w o y true false f e = absurd (let no : false ≡ true = f refl in cc)
one_within true o true false g f e = e
one_within true o false false g f e = e
one_within false o true false g f e = e
one_within false o false false g f e = e

one_other : (w o y x g : Bool) → (w || (o && g)) ≡ (y && g) → (w || ((o || (x || false)) && g)) ≡ ((y || (x || false)) && g)
one_other true o true true true e = refl
one_other true o false true true e = refl
one_other false true true true true e = refl
one_other false true false true true e = refl
one_other false false true true true e = refl
one_other false false false true true e = refl
one_other true o true true false e = e
one_other true o false true false e = e
one_other false true true true false e = refl
one_other false true false true false e = refl
one_other false false true true false e = refl
one_other false false false true false e = refl
one_other w true true false g e = e
one_other w true false false g e = e
one_other w false true false g e = e
one_other w false false false g e = e

module _ (c : List Atom) (g : Bool) (within others xs : List (List Lit)) (x : List Lit) (same : (holds c within || (holds c others && g)) ≡ (holds c xs && g)) where
  pub within_grows : (cube_holds c x ≡ true → g ≡ true) → (holds c (within ++ x ∷ []) || (holds c others && g)) ≡ (holds c (xs ++ x ∷ []) && g)
  within_grows f =
      rw (list_any-append (cube_holds c) within (x ∷ []), list_any-append (cube_holds c) xs (x ∷ [])) (one_within (holds c within) (holds c others) (holds c xs) (cube_holds c x) g f same)

  pub others_grow : (holds c within || (holds c (others ++ x ∷ []) && g)) ≡ (holds c (xs ++ x ∷ []) && g)
  others_grow =
      rw (list_any-append (cube_holds c) others (x ∷ []), list_any-append (cube_holds c) xs (x ∷ [])) (one_other (holds c within) (holds c others) (holds c xs) (cube_holds c x) g same)

-- ---- cubes that hold at the same choices
module _ (a b : List Lit) (e : (c : List Atom) → cube_holds c a ≡ cube_holds c b) where
  pub same_met : CubeIsSatisfiable b → CubeIsSatisfiable a
  same_met m = (m.0, e m.0 ∙ m.1)

  pub same_apart : (z : List Lit) → AreIncomparable b z → AreIncomparable a z
  same_apart z h =
      (λ w. h.0 (λ c t. w c (e c ∙ t)), λ w. h.1 (λ c t. sym (e c) ∙ w c t))

pub apart_swapped : (a b : List Lit) → AreIncomparable a b → AreIncomparable b a
apart_swapped a b h = (h.1, h.0)

-- ---- cubes with the same truth, as far as the cubes of a pruned constraint were read
module _ (g xs : List (List Lit)) (x y : List Lit) (i : ℕ) (b : i < length xs) (is : x ≡ get_or xs i x) (same : (c : List Atom) → cube_holds c y ≡ cube_holds c x) where
  pub read_holds : (c : List Atom) → holds c g ≡ holds c (take i xs) → holds c (g ++ y ∷ []) ≡ holds c (take (i + 1) xs)
  read_holds c t =
      constraint_grows c g (g ++ y ∷ []) xs x i b is t (list_any-append (cube_holds c) g (y ∷ []) ∙ (ap (λ p. holds c g || p) (sym (or_nothing (cube_holds c y))) ∙ ap (λ p. holds c g || p) (same c)))

  module _ (whole : IsPruned xs) (later : ApartFrom xs i g) where
    pub read_pruned : IsPruned g → IsPruned (g ++ y ∷ [])
    read_pruned p =
        let met : CubeIsSatisfiable x = subst CubeIsSatisfiable (sym is) (whole.met i x b) in
        let apart : All (λ k. AreIncomparable k x) g = subst (λ z. All (λ k. AreIncomparable k z) g) (sym is) (later i x (omega arith) b) in
        kept_pruned g y p (same_met y x same met) (λ k d l. apart_swapped y (get_or g k d) (same_apart y x same (get_or g k d) (apart_swapped (get_or g k d) x (apart k d l))))

    pub read_apart : ApartFrom xs (i + 1) (g ++ y ∷ [])
    read_apart j d l m =
        let z : List Lit = get_or xs j d in
        let apart : AreIncomparable (get_or xs i d) z = whole.apart i j d (omega arith) m in
        let is_x : x ≡ get_or xs i d = is ∙ get_or_default xs i x d b in
        All-push (λ k. AreIncomparable k z) g y (later j d (omega arith) m) (same_apart y x same z (subst (λ k. AreIncomparable k z) (sym is_x) apart))

-- the cubes in another order
pub pruned_permuted : (xs ys : List (List Lit)) → IsPermutation xs ys → IsPruned xs → IsPruned ys
pruned_permuted xs ys p h = record {
  met = All-permutation CubeIsSatisfiable xs ys p h.met;
  apart = pairs_permuted AreIncomparable apart_swapped xs ys p h.apart;
}
