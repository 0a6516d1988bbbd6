-- What the order of a cube's levels tells is all that follows from the cube.
use Rattle.std.proofs.Common.{◌≡◌, ℕ, Bool, true, false, not, ◌&&◌, ◌||◌, ◌⊎◌, inl, inr, List, [], ◌∷◌, ◌++◌, ◌↔◌, refl, sym, ◌∙◌, subst}
use Rattle.std.proofs.lemmas.Bool.{or_cases, and_parts, cases_Bool, not-true}
use Rattle.std.proofs.lemmas.List.Folds.{Any-from_list_any}
use Rattle.std.proofs.lemmas.List.Sums.{AllPass-from_list_all}
use Rattle.lois_base.proofs.Order.{at_most_trans, trichotomy, below_not_equal, equal_in, equal_out, equal_sym, equal_respects}
use Rattle.lois_base.specs.Atom.{Atom, equal, below}
use Rattle.lois_base.specs.Truth.{atom_at, op_holds, lit_holds, cube_holds}
use Rattle.lois_base.specs.declared.guards.Lit.{Lit}
use Rattle.lois_base.specs.declared.guards.Op.{Op}
use Rattle.lois_base.specs.declared.guards.Op.TheVariants.{Eq, Ne, Lt, AtMost}
use Rattle.lois_constraint.specs.Alternatives.{denial_of}
use Rattle.lois_constraint.specs.Order.{is_tied, is_apart, lies_between, joins, sets_apart, are_apart, is_implied, is_refuted, extended, IsOrderClosure}
use Rattle.lois_constraint.proofs.Linked.{not_true, lit_of, clash, first_holds, put_under, put_at_most}
use Rattle.lois_constraint.proofs.Joined.{put_equal, put_apart}
use Rattle.lois_constraint.proofs.NegatedLiterals.{denial_of_holds}
use Rattle.lois_constraint.proofs.Ranked.{order_met}

no_longer : (b : Bool) → b ≡ false → not b ≡ true
no_longer true h = absurd (cc)
no_longer false h = refl

literal_apart : (o : Op) (a b : Atom) → is_apart o ≡ true → op_holds o a b ≡ true → equal a b ≡ false
literal_apart Eq a b e h = absurd (cc)
literal_apart Ne a b e h = not-true (equal a b) h
literal_apart Lt a b e h = below_not_equal a b h
literal_apart AtMost a b e h = absurd (cc)

-- u and v lie from a on up to b, which is one with a
squeezed : (a b u v : Atom) → equal a b ≡ true → below u a ≡ false → below b u ≡ false → below v a ≡ false → below b v ≡ false → equal u v ≡ true
squeezed a b u v e au ub av vb =
    let back : below a b ≡ false = (equal_out a b e).0 in
    equal_in u v (at_most_trans v b u vb (at_most_trans b a u back au)) (at_most_trans u b v ub (at_most_trans b a v back av))

rises : (a b : Atom) → below b a ≡ false → equal a b ≡ false → below a b ≡ true
rises a b up differ = go (trichotomy a b)
  where
    go : (below a b ≡ true) ⊎ ((equal a b ≡ true) ⊎ (below b a ≡ true)) → below a b ≡ true
    go (inl e) = e
    go (inr (inl e)) = clash (equal a b) e differ
    go (inr (inr e)) = clash (below b a) e up

module _ (le : ℕ → ℕ → Bool) (k : List Lit) (h : IsOrderClosure le k) where
  module _ (c : List Atom) (holds : cube_holds c k ≡ true) where
    tied_equal : (x y : ℕ) → is_tied le x y ≡ true → equal (atom_at c x) (atom_at c y) ≡ true
    tied_equal x y e =
        let both = and_parts (le x y) (le y x) e in
        equal_in (atom_at c x) (atom_at c y) (h.at_most c holds y x both.1) (h.at_most c holds x y both.0)

    -- where the atoms at x and y are one, so are those at the levels of a literal that sets them apart
    between_equal : (x y : ℕ) (l : Lit) → lies_between le x y l ≡ true → equal (atom_at c x) (atom_at c y) ≡ true → equal (atom_at c l.left) (atom_at c l.right) ≡ true
    between_equal x y l lies same =
        let both = and_parts (le x l.left && le l.left y) (le x l.right && le l.right y) lies in
        let left = and_parts (le x l.left) (le l.left y) both.0 in
        let right = and_parts (le x l.right) (le l.right y) both.1 in
        squeezed (atom_at c x) (atom_at c y) (atom_at c l.left) (atom_at c l.right) same
        (h.at_most c holds x l.left left.0)
        (h.at_most c holds l.left y left.1)
        (h.at_most c holds x l.right right.0)
        (h.at_most c holds l.right y right.1)

    joined_equal : (x y : ℕ) (l : Lit) → joins le x y l ≡ true → equal (atom_at c x) (atom_at c y) ≡ true → equal (atom_at c l.left) (atom_at c l.right) ≡ true
    joined_equal x y l tied same =
        let both = and_parts (is_tied le l.left x) (is_tied le l.right y) tied in
        equal_respects (atom_at c l.left) (atom_at c x) (atom_at c l.right) (atom_at c y) (tied_equal l.left x both.0) (tied_equal l.right y both.1) ∙ same

    one_apart : (x y : ℕ) (l : Lit) → lit_holds c l ≡ true → sets_apart le x y l ≡ true → equal (atom_at c x) (atom_at c y) ≡ false
    one_apart x y l here e =
        let parts = and_parts (is_apart l.op) ((lies_between le x y l || lies_between le y x l) || (joins le x y l || joins le y x l)) e in
        let differ : equal (atom_at c l.left) (atom_at c l.right) ≡ false = literal_apart l.op (atom_at c l.left) (atom_at c l.right) parts.0 here in
        not_true (equal (atom_at c x) (atom_at c y)) (λ same. clash (equal (atom_at c l.left) (atom_at c l.right)) (go same (or_cases (lies_between le x y l || lies_between le y x l) (joins le x y l || joins le y x l) parts.1)) differ)
      where
        turned : equal (atom_at c x) (atom_at c y) ≡ true → equal (atom_at c y) (atom_at c x) ≡ true
        turned same = equal_sym (atom_at c x) (atom_at c y) same

        between : equal (atom_at c x) (atom_at c y) ≡ true → (lies_between le x y l ≡ true) ⊎ (lies_between le y x l ≡ true) → equal (atom_at c l.left) (atom_at c l.right) ≡ true
        between same (inl t) = between_equal x y l t same
        between same (inr t) = between_equal y x l t (turned same)

        joined : equal (atom_at c x) (atom_at c y) ≡ true → (joins le x y l ≡ true) ⊎ (joins le y x l ≡ true) → equal (atom_at c l.left) (atom_at c l.right) ≡ true
        joined same (inl t) = joined_equal x y l t same
        joined same (inr t) = joined_equal y x l t (turned same)

        go : equal (atom_at c x) (atom_at c y) ≡ true → ((lies_between le x y l || lies_between le y x l) ≡ true) ⊎ ((joins le x y l || joins le y x l) ≡ true) → equal (atom_at c l.left) (atom_at c l.right) ≡ true
        go same (inl t) = between same (or_cases (lies_between le x y l) (lies_between le y x l) t)
        go same (inr t) = joined same (or_cases (joins le x y l) (joins le y x l) t)

    apart_unequal : (x y : ℕ) → are_apart le k x y ≡ true → equal (atom_at c x) (atom_at c y) ≡ false
    apart_unequal x y e =
        let found = Any-from_list_any (sets_apart le x y) k e in
        one_apart x y found.1 (subst (λ (l : Lit). lit_holds c l ≡ true) found.3 (AllPass-from_list_all (lit_holds c) k holds found.0 found.1 found.2)) found.4

    told_holds : (o : Op) (x y : ℕ) → is_implied le k o x y ≡ true → op_holds o (atom_at c x) (atom_at c y) ≡ true
    told_holds Eq x y e = tied_equal x y e
    told_holds Ne x y e = no_longer (equal (atom_at c x) (atom_at c y)) (apart_unequal x y e)
    told_holds Lt x y e =
        let both = and_parts (le x y) (are_apart le k x y) e in
        rises (atom_at c x) (atom_at c y) (h.at_most c holds x y both.0) (apart_unequal x y both.1)
    told_holds AtMost x y e = no_longer (below (atom_at c y) (atom_at c x)) (h.at_most c holds x y e)

  pub order_extended : (o : Op) (x y : ℕ) → is_refuted le k o x y ≡ false → IsOrderClosure (extended o x y le) (k ++ lit_of o x y ∷ [])
  order_extended Eq x y free = put_equal le k h x y free
  order_extended Ne x y free = put_apart le k h x y free
  order_extended Lt x y free = put_under le k h x y free
  order_extended AtMost x y free = put_at_most le k h x y free

  -- some choice that meets the cube doesn't meet what isn't told: it meets what denies it
  abbrev Denied : Op → ℕ → ℕ → Type 0
  Denied o x y = (c : List Atom) × (cube_holds c k ≡ true) × (lit_holds c (denial_of o x y) ≡ true)

  denied_by : (o : Op) (x y : ℕ) → is_refuted le k o x y ≡ false → (c : List Atom) × (cube_holds c k ≡ true) × (lit_holds c (lit_of o x y) ≡ true)
  denied_by o x y free =
      let met = order_met _ _ (order_extended o x y free) in
      let both = first_holds met.0 k (lit_of o x y) met.1 in
      (met.0, both.0, both.1)

  untold_denied : (o : Op) (x y : ℕ) → is_implied le k o x y ≡ false → Denied o x y
  untold_denied Eq x y free = denied_by Ne x y free
  untold_denied Ne x y free = denied_by Eq x y free
  untold_denied Lt x y free = denied_by AtMost y x free
  untold_denied AtMost x y free = denied_by Lt y x free

  pub told_exactly : (l : Lit) (b : Bool) → b ≡ is_implied le k l.op l.left l.right → (b ≡ true) ↔ ((c : List Atom) → cube_holds c k ≡ true → lit_holds c l ≡ true)
  told_exactly l b e = (
    λ t c holds. told_holds c holds l.op l.left l.right (sym e ∙ t),
    λ each. go (cases_Bool b) each,
  )
    where
      go : (b ≡ true) ⊎ (b ≡ false) → ((c : List Atom) → cube_holds c k ≡ true → lit_holds c l ≡ true) → b ≡ true
      go (inl t) each = t
      go (inr t) each =
          let found = untold_denied l.op l.left l.right (sym e ∙ t) in
          let fails : lit_holds found.0 l ≡ false = not-true (lit_holds found.0 l) (sym (denial_of_holds found.0 l.op l.left l.right) ∙ found.2) in
          clash (lit_holds found.0 l) (each found.0 found.1) fails

  pub denied_nowhere : (l : Lit) (b : Bool) → b ≡ is_refuted le k l.op l.left l.right → b ≡ true → (c : List Atom) → cube_holds c k ≡ true → lit_holds c l ≡ false
  denied_nowhere l b e t c holds =
      let d : Lit = denial_of l.op l.left l.right in
      let here : lit_holds c d ≡ true = told_holds c holds d.op d.left d.right (sym e ∙ t) in
      not-true (lit_holds c l) (sym (denial_of_holds c l.op l.left l.right) ∙ here)
