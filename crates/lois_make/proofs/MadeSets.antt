-- Sets of tagged pairs, as terms.
use Rattle.std.proofs.Common.{◌≡◌, ℕ, zero, suc, ◌≤◌, Bool, true, false, ◌&&◌, ◌||◌, not, List, [], ◌∷◌, ◌++◌, length, ◌⊎◌, refl, sym, ap, ◌∙◌, subst, arith}
use mathlib.Core.Logic.{inl, inr}
use Rattle.std.specs.Prelude.{IsTrue}
use Rattle.std.proofs.lemmas.Bool.{not-true}
use Rattle.std.proofs.lemmas.List.{nil_from_length}
use Rattle.lois_base.specs.Atom.{Atom, equal}
use Rattle.lois_base.specs.Data.{TermD, var, tag, tup, coll, no_terms, term, CompD, comp, CompsD, no_comps, more, depth_of_items}
use Rattle.lois_base.specs.Truth.{atom_at, holds}
use Rattle.lois_base.specs.Values.{PointValue, point, MakesAt, IsSame, IsIn, SameAt}
use Rattle.lois_base.specs.declared.guards.Lit.{Lit}
use Rattle.lois_base.specs.declared.guards.Op.TheVariants.{Ne}
use Rattle.lois_base.proofs.Depths.{deeper_depth}
use Rattle.lois_base.proofs.Members.{same_sym, same_trans}
use Rattle.lois_base.proofs.Order.{equal_refl}
use Rattle.lois_meaning.specs.Kinds.{IsSetOf}
use Rattle.lois_meaning.specs.Store.{IsShallow}
use Rattle.lois_make.specs.MadeTree.{made_tag}
use Rattle.lois_make.specs.MadeValue.{tagged, IsTaggedWith, IsTagged, IsMade}

-- the guard that the atoms at two levels differ
abbrev pub apart : ℕ → ℕ → List (List Lit)
apart i j = (record { op = Ne; left = i; right = j } ∷ []) ∷ []

abbrev pub always : List (List Lit)
always = [] ∷ []

abbrev pub tagged_at : List ℕ → ℕ → TermD
tagged_at name i = tup (term (tag name) (term (var i) (term (var (suc i)) no_terms)))

-- all pairs of the first n tags, inside i levels
abbrev pub made_comps : ℕ → ℕ → CompsD
made_comps i zero = no_comps
made_comps i (suc n) = more (comp 2 (apart i (suc i)) (tagged_at (made_tag n) i)) (made_comps i n)

one_cube : (b : Bool) → ((b && true) || false) ≡ b
one_cube true = refl
one_cube false = refl

apart_holds : (c : List Atom) (i j : ℕ) → holds c (apart i j) ≡ not (equal (atom_at c i) (atom_at c j))
apart_holds c i j = one_cube (not (equal (atom_at c i) (atom_at c j)))

pub one_atom : (e : List Atom) → length e ≡ 1 → (a : Atom) × (e ≡ a ∷ [])
one_atom [] h = absurd (omega (arith, h))
one_atom (a ∷ e) h = (a, ap (λ z. a ∷ z) (nil_from_length e (omega (arith, h))))

pub two_atoms : (e : List Atom) → length e ≡ 2 → (a b : Atom) × (e ≡ a ∷ b ∷ [])
two_atoms [] h = absurd (omega (arith, h))
two_atoms (a ∷ e) h = let found = one_atom e (omega (arith, h)) in (a, found.0, ap (λ z. a ∷ z) found.1)

-- a set of one more comprehension has the members that it makes, too
pub in_more : (k : CompD) (ks : CompsD) (c : List Atom) (w : PointValue) → IsIn w (point (coll (more k ks)) c) →
    ((u : PointValue) × MakesAt u.term_of u.choice k c × IsSame w u) ⊎ IsIn w (point (coll ks) c)
in_more k ks c w (u, inl m, s) = inl (u, m, s)
in_more k ks c w (u, inr m, s) = inr (u, m, s)

pub in_rest : (k : CompD) (ks : CompsD) (c : List Atom) (w : PointValue) → IsIn w (point (coll ks) c) → IsIn w (point (coll (more k ks)) c)
in_rest k ks c w (u, m, s) = (u, inr m, s)

-- the triple at two levels of a choice
triple_is : (name : List ℕ) (i : ℕ) (c : List Atom) (a b : Atom) → atom_at c i ≡ a → atom_at c (suc i) ≡ b → IsSame (point (tagged_at name i) c) (tagged name a b)
triple_is name i c a b p q = (refl, (subst (λ z. IsTrue (equal (atom_at c i) z)) p (equal_refl (atom_at c i)), (subst (λ z. IsTrue (equal (atom_at c (suc i)) z)) q (equal_refl (atom_at c (suc i))), tt)))

-- an item with its choice, as a value
item_is : (w u : PointValue) (t : TermD) (c : List Atom) → u.term_of ≡ t → u.choice ≡ c → IsSame w u → IsSame w (point t c)
item_is w u t c p q s = subst (λ z. SameAt w.term_of w.choice t z) q (subst (λ z. SameAt w.term_of w.choice z u.choice) p s)

module _ (c : List Atom) (i : ℕ) (first : (a b : Atom) → atom_at (c ++ a ∷ b ∷ []) i ≡ a) (second : (a b : Atom) → atom_at (c ++ a ∷ b ∷ []) (suc i) ≡ b) where
  pairs_made : (name : List ℕ) (w u : PointValue) → MakesAt u.term_of u.choice (comp 2 (apart i (suc i)) (tagged_at name i)) c → IsSame w u → IsTagged name w
  pairs_made name w u (e, x, p, q) s =
      let two = two_atoms e x.count in
      let a = two.0 in
      let b = two.1 in
      let here : c ++ e ≡ c ++ two.0 ∷ two.1 ∷ [] = ap (λ z. c ++ z) two.2 in
      let guard : IsTrue (holds (c ++ two.0 ∷ two.1 ∷ []) (apart i (suc i))) = subst (λ z. IsTrue (holds z (apart i (suc i)))) here x.guard in
      let differ : not (equal two.0 two.1) ≡ true = subst (λ z. not (equal z two.1) ≡ true) (first two.0 two.1) (subst (λ z. not (equal (atom_at (c ++ two.0 ∷ two.1 ∷ []) i) z) ≡ true) (second two.0 two.1) (sym (apart_holds (c ++ two.0 ∷ two.1 ∷ []) i (suc i)) ∙ guard)) in
      let at : IsSame w (point (tagged_at name i) (c ++ two.0 ∷ two.1 ∷ [])) = item_is w u (tagged_at name i) (c ++ two.0 ∷ two.1 ∷ []) p (q ∙ here) s in
      (a, (b, (not-true (equal two.0 two.1) differ, same_trans w (point (tagged_at name i) (c ++ two.0 ∷ two.1 ∷ [])) (tagged name two.0 two.1) at (triple_is name i (c ++ two.0 ∷ two.1 ∷ []) two.0 two.1 (first two.0 two.1) (second two.0 two.1)))))

  makes_pairs : (name : List ℕ) (w : PointValue) → IsTagged name w → (u : PointValue) × MakesAt u.term_of u.choice (comp 2 (apart i (suc i)) (tagged_at name i)) c × IsSame w u
  makes_pairs name w (a, (b, (differ, s))) =
      let d = c ++ a ∷ b ∷ [] in
      let u : PointValue = point (tagged_at name i) (c ++ a ∷ b ∷ []) in
      let both : equal (atom_at (c ++ a ∷ b ∷ []) i) (atom_at (c ++ a ∷ b ∷ []) (suc i)) ≡ false = ap (λ z. equal z (atom_at (c ++ a ∷ b ∷ []) (suc i))) (first a b) ∙ (ap (λ z. equal a z) (second a b) ∙ differ) in
      (u, (a ∷ b ∷ [], record { count = refl; guard = apart_holds (c ++ a ∷ b ∷ []) i (suc i) ∙ ap not both }, refl, refl), same_trans w (tagged name a b) u s (same_sym u (tagged name a b) (triple_is name i (c ++ a ∷ b ∷ []) a b (first a b) (second a b))))

  pub made_in : (n : ℕ) (w : PointValue) → IsIn w (point (coll (made_comps i n)) c) → IsMade n w
  made_in zero w (u, m, s) = m
  made_in (suc n) w h =
      elim (in_more (comp 2 (apart i (suc i)) (tagged_at (made_tag n) i)) (made_comps i n) c w h) [ inl here ↦ inr (pairs_made (made_tag n) w here.0 here.1 here.2) | inr rest ↦ inl (made_in n w rest) ]

  pub in_made : (n : ℕ) (w : PointValue) → IsMade n w → IsIn w (point (coll (made_comps i n)) c)
  in_made zero w h = absurd h
  in_made (suc n) w (inl h) = in_rest (comp 2 (apart i (suc i)) (tagged_at (made_tag n) i)) (made_comps i n) c w (in_made n w h)
  in_made (suc n) w (inr h) = let made = makes_pairs (made_tag n) w h in (made.0, inl made.1, made.2)

  pub made_set : (n : ℕ) → IsSetOf (point (coll (made_comps i n)) c) (IsMade n)
  made_set n = (tt, λ w. (made_in n w, in_made n w))

-- the sets of the first n tags, of all pairs with an atom, and of one pair more
abbrev pub made_value : ℕ → PointValue
made_value n = point (coll (made_comps 0 n)) []

abbrev pub with_atom : ℕ → Atom → PointValue
with_atom n a = point (coll (more (comp 1 (apart 0 1) (tagged_at (made_tag n) 0)) (made_comps 1 n))) (a ∷ [])

abbrev pub with_pair : ℕ → Atom → Atom → PointValue
with_pair n a b = point (coll (more (comp 0 always (tagged_at (made_tag n) 0)) (made_comps 2 n))) (a ∷ b ∷ [])

pub made_value_is : (n : ℕ) → IsSetOf (made_value n) (IsMade n)
made_value_is n = made_set [] 0 (λ a b. refl) (λ a b. refl) n

pub with_pair_is : (n : ℕ) (a b : Atom) → IsSetOf (with_pair n a b) (λ w. IsMade n w ⊎ IsSame w (tagged (made_tag n) a b))
with_pair_is n a b = (tt, λ w. (to w, from w))
  where
    rest : IsSetOf (point (coll (made_comps 2 n)) (a ∷ b ∷ [])) (IsMade n)
    rest = made_set (a ∷ b ∷ []) 2 (λ x y. refl) (λ x y. refl) n

    to : (w : PointValue) → IsIn w (with_pair n a b) → IsMade n w ⊎ IsSame w (tagged (made_tag n) a b)
    to w (u, inl (e, x, p, q), s) = inr (item_is w u (tagged_at (made_tag n) 0) (a ∷ b ∷ []) p (q ∙ ap (λ z. a ∷ b ∷ z) (nil_from_length e x.count)) s)
    to w (u, inr m, s) = inl ((rest.1 w).0 (u, m, s))

    from : (w : PointValue) → IsMade n w ⊎ IsSame w (tagged (made_tag n) a b) → IsIn w (with_pair n a b)
    from w (inl h) = in_rest (comp 0 always (tagged_at (made_tag n) 0)) (made_comps 2 n) (a ∷ b ∷ []) w ((rest.1 w).1 h)
    from w (inr s) = (tagged (made_tag n) a b, inl ([], record { count = refl; guard = refl }, refl, refl), s)

pub with_atom_is : (n : ℕ) (a : Atom) → IsSetOf (with_atom n a) (λ w. IsMade n w ⊎ IsTaggedWith (made_tag n) a w)
with_atom_is n a = (tt, λ w. (to w, from w))
  where
    rest : IsSetOf (point (coll (made_comps 1 n)) (a ∷ [])) (IsMade n)
    rest = made_set (a ∷ []) 1 (λ x y. refl) (λ x y. refl) n

    to : (w : PointValue) → IsIn w (with_atom n a) → IsMade n w ⊎ IsTaggedWith (made_tag n) a w
    to w (u, inl (e, x, p, q), s) =
        let one = one_atom e x.count in
        let here : a ∷ e ≡ a ∷ one.0 ∷ [] = ap (λ z. a ∷ z) one.1 in
        let guard : IsTrue (holds (a ∷ one.0 ∷ []) (apart 0 1)) = subst (λ z. IsTrue (holds z (apart 0 1))) here x.guard in
        inr (one.0, (not-true (equal a one.0) (sym (apart_holds (a ∷ one.0 ∷ []) 0 1) ∙ guard), item_is w u (tagged_at (made_tag n) 0) (a ∷ one.0 ∷ []) p (q ∙ here) s))
    to w (u, inr m, s) = inl ((rest.1 w).0 (u, m, s))

    from : (w : PointValue) → IsMade n w ⊎ IsTaggedWith (made_tag n) a w → IsIn w (with_atom n a)
    from w (inl h) = in_rest (comp 1 (apart 0 1) (tagged_at (made_tag n) 0)) (made_comps 1 n) (a ∷ []) w ((rest.1 w).1 h)
    from w (inr (b, (differ, s))) = (tagged (made_tag n) a b, inl (b ∷ [], record { count = refl; guard = apart_holds (a ∷ b ∷ []) 0 1 ∙ ap not differ }, refl, refl), s)

-- none of them is deep
made_depth : (i n : ℕ) → depth_of_items (made_comps i n) ≤ 1
made_depth i zero = omega arith
made_depth i (suc n) = omega (arith, made_depth i n)

pub with_pair_shallow : (n : ℕ) (a b : Atom) → IsShallow (with_pair n a b)
with_pair_shallow n a b deep = omega (arith, deeper_depth (with_pair n a b) 64 deep, made_depth 2 n)

pub tagged_shallow : (name : List ℕ) (a b : Atom) → IsShallow (tagged name a b)
tagged_shallow name a b deep = omega (arith, deeper_depth (tagged name a b) 64 deep)
