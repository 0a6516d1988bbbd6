-- Orders of the levels of a cube, with one equation or its opposite more.
use Rattle.std.proofs.Common.{◌≡◌, ℕ, ◌<◌, Bool, true, false, ◌&&◌, ◌||◌, ◌⊎◌, inl, inr, List, [], ◌∷◌, ◌++◌, length, get_or}
use Rattle.std.proofs.lemmas.Bool.{and_parts, and_from, cases_Bool}
use Rattle.std.proofs.lemmas.List.Elements.{All-push}
use Rattle.lois_base.proofs.Order.{at_most_trans, equal_out}
use Rattle.lois_base.specs.Atom.{Atom, below}
use Rattle.lois_base.specs.Truth.{atom_at, cube_holds}
use Rattle.lois_base.specs.declared.guards.Lit.{Lit}
use Rattle.lois_base.specs.declared.guards.Op.TheVariants.{Eq, Ne}
use Rattle.lois_constraint.specs.Order.{linked, is_tied, lies_between, joins, are_apart, HoldsInOrder, IsOrderClosure}
use Rattle.lois_constraint.proofs.Linked.{not_true, lit_of, either, clash, first_holds, linked_cases, linked_old, linked_new, linked_trans, StaysUntied, all_stand, set_by_none}

-- ---- x and y are tied
module _ (le : ℕ → ℕ → Bool) (k : List Lit) (h : IsOrderClosure le k) (x y : ℕ) where
  abbrev once : ℕ → ℕ → Bool
  once = linked x y le

  abbrev joined : ℕ → ℕ → Bool
  joined = linked y x once

  abbrev Near : ℕ → Type 0
  Near a = (le a x ≡ true) ⊎ (le a y ≡ true)

  abbrev Far : ℕ → Type 0
  Far b = (le x b ≡ true) ⊎ (le y b ≡ true)

  once_near : (a : ℕ) → once a y ≡ true → Near a
  once_near a m = elim (linked_cases le x y a y m) [ inl e ↦ inr e | inr e ↦ inl e.0 ]

  once_far : (b : ℕ) → once x b ≡ true → Far b
  once_far b m = elim (linked_cases le x y x b m) [ inl e ↦ inl e | inr e ↦ inr e.1 ]

  joined_cases : (a b : ℕ) → joined a b ≡ true → (le a b ≡ true) ⊎ (Near a × Far b)
  joined_cases a b m = go (linked_cases once y x a b m)
    where
      old : (le a b ≡ true) ⊎ ((le a x ≡ true) × (le y b ≡ true)) → (le a b ≡ true) ⊎ (Near a × Far b)
      old (inl e) = inl e
      old (inr e) = inr (inl e.0, inr e.1)

      go : (once a b ≡ true) ⊎ ((once a y ≡ true) × (once x b ≡ true)) → (le a b ≡ true) ⊎ (Near a × Far b)
      go (inl e) = old (linked_cases le x y a b e)
      go (inr e) = inr (once_near a e.0, once_far b e.1)

  joined_old : (a b : ℕ) → le a b ≡ true → joined a b ≡ true
  joined_old a b e = linked_old once y x a b (linked_old le x y a b e)

  near_once : (a : ℕ) → Near a → once a y ≡ true
  near_once a (inl e) = linked_new le x y a y e (h.itself y)
  near_once a (inr e) = linked_old le x y a y e

  far_once : (b : ℕ) → Far b → once x b ≡ true
  far_once b (inl e) = linked_old le x y x b e
  far_once b (inr e) = linked_new le x y x b (h.itself x) e

  joined_new : (a b : ℕ) → Near a → Far b → joined a b ≡ true
  joined_new a b n f = linked_new once y x a b (near_once a n) (far_once b f)

  -- levels that are newly tied are near and far
  record Lies (u : ℕ) : Type 0 where
    near : Near u
    far : Far u

  near_down : (u v : ℕ) → le u v ≡ true → Near v → Near u
  near_down u v e (inl n) = inl (h.trans u v x e n)
  near_down u v e (inr n) = inr (h.trans u v y e n)

  far_up : (u v : ℕ) → le u v ≡ true → Far u → Far v
  far_up u v e (inl f) = inl (h.trans x u v f e)
  far_up u v e (inr f) = inr (h.trans y u v f e)

  newly_tied : (u v : ℕ) → joined u v ≡ true → joined v u ≡ true → is_tied le u v ≡ false → Lies u × Lies v
  newly_tied u v p q untied = go (joined_cases u v p) (joined_cases v u q)
    where
      go : (le u v ≡ true) ⊎ (Near u × Far v) → (le v u ≡ true) ⊎ (Near v × Far u) → Lies u × Lies v
      go (inl e) (inl f) = clash (is_tied le u v) (and_from (le u v) (le v u) e f) untied
      go (inl e) (inr f) = (
        record { near = near_down u v e f.0; far = f.1 },
        record { near = f.0; far = far_up u v e f.1 },
      )
      go (inr e) (inl f) = (
        record { near = e.0; far = far_up v u f e.1 },
        record { near = near_down v u f e.0; far = e.1 },
      )
      go (inr e) (inr f) = (record { near = e.0; far = f.1 }, record { near = f.0; far = e.1 })

  -- where x is at most y, they lie from x on up to y, and else they are tied to one of them
  from_x : le x y ≡ true → (u : ℕ) → Lies u → (le x u && le u y) ≡ true
  from_x up u lies = and_from (le x u) (le u y) (low lies.far) (high lies.near)
    where
      low : Far u → le x u ≡ true
      low (inl f) = f
      low (inr f) = h.trans x y u up f

      high : Near u → le u y ≡ true
      high (inl n) = h.trans u x y n up
      high (inr n) = n

  from_y : le y x ≡ true → (u : ℕ) → Lies u → (le y u && le u x) ≡ true
  from_y down u lies = and_from (le y u) (le u x) (low lies.far) (high lies.near)
    where
      low : Far u → le y u ≡ true
      low (inl f) = h.trans y x u down f
      low (inr f) = f

      high : Near u → le u x ≡ true
      high (inl n) = n
      high (inr n) = h.trans u y x n down

  tied_to : le x y ≡ false → le y x ≡ false → (u : ℕ) → Lies u → (is_tied le u x ≡ true) ⊎ (is_tied le u y ≡ true)
  tied_to there back u lies = go lies.near lies.far
    where
      go : Near u → Far u → (is_tied le u x ≡ true) ⊎ (is_tied le u y ≡ true)
      go (inl n) (inl f) = inl (and_from (le u x) (le x u) n f)
      go (inl n) (inr f) = clash (le y x) (h.trans y u x f n) back
      go (inr n) (inl f) = clash (le x y) (h.trans x u y f n) there
      go (inr n) (inr f) = inr (and_from (le u y) (le y u) n f)

  both_tied : (u v z : ℕ) → is_tied le u z ≡ true → is_tied le v z ≡ true → is_tied le u v ≡ true
  both_tied u v z p q =
      let p2 = and_parts (le u z) (le z u) p in
      let q2 = and_parts (le v z) (le z v) q in
      and_from (le u v) (le v u) (h.trans u z v p2.0 q2.1) (h.trans v z u q2.0 p2.1)

  -- so a literal whose levels are newly tied sets x and y apart
  module _ (l : Lit) (left : Lies l.left) (right : Lies l.right) (untied : is_tied le l.left l.right ≡ false) where
    abbrev Sets : Type 0
    Sets = ((lies_between le x y l || lies_between le y x l) || (joins le x y l || joins le y x l)) ≡ true

    joined_one : (is_tied le l.left x ≡ true) ⊎ (is_tied le l.left y ≡ true) → (is_tied le l.right x ≡ true) ⊎ (is_tied le l.right y ≡ true) → (joins le x y l || joins le y x l) ≡ true
    joined_one (inl e) (inl f) = clash (is_tied le l.left l.right) (both_tied l.left l.right x e f) untied
    joined_one (inl e) (inr f) =
        either (joins le x y l) (joins le y x l) (inl (and_from (is_tied le l.left x) (is_tied le l.right y) e f))
    joined_one (inr e) (inl f) =
        either (joins le x y l) (joins le y x l) (inr (and_from (is_tied le l.left y) (is_tied le l.right x) e f))
    joined_one (inr e) (inr f) = clash (is_tied le l.left l.right) (both_tied l.left l.right y e f) untied

    tells_apart : Sets
    tells_apart = go (cases_Bool (le x y)) (cases_Bool (le y x))
      where
        between : (lies_between le x y l ≡ true) ⊎ (lies_between le y x l ≡ true) → Sets
        between e =
            either (lies_between le x y l || lies_between le y x l) (joins le x y l || joins le y x l) (inl (either (lies_between le x y l) (lies_between le y x l) e))

        go : (le x y ≡ true) ⊎ (le x y ≡ false) → (le y x ≡ true) ⊎ (le y x ≡ false) → Sets
        go (inl up) q =
            between (inl (and_from (le x l.left && le l.left y) (le x l.right && le l.right y) (from_x up l.left left) (from_x up l.right right)))
        go (inr there) (inl down) =
            between (inr (and_from (le y l.left && le l.left x) (le y l.right && le l.right x) (from_y down l.left left) (from_y down l.right right)))
        go (inr there) (inr back) =
            either (lies_between le x y l || lies_between le y x l) (joins le x y l || joins le y x l) (inr (joined_one (tied_to there back l.left left) (tied_to there back l.right right)))

  module _ (apart : are_apart le k x y ≡ false) where
    stays_untied : (i : ℕ) (d : Lit) → i < length k → StaysUntied le joined k h joined_old (get_or k i d)
    stays_untied i d b differ untied = not_true (is_tied joined l.left l.right) (λ m. let both = and_parts (joined l.left l.right) (joined l.right l.left) m in found (newly_tied l.left l.right both.0 both.1 untied))
      where
        l : Lit
        l = get_or k i d

        found : Lies l.left × Lies l.right → ⊥
        found lies =
            clash (are_apart le k x y) (set_by_none le k x y i d b differ (tells_apart l lies.0 lies.1 untied)) apart

    module _ (c : List Atom) (holds : cube_holds c (k ++ lit_of Eq x y ∷ []) ≡ true) where
      before : cube_holds c k ≡ true
      before = (first_holds c k (lit_of Eq x y) holds).0

      same : (below (atom_at c x) (atom_at c y) ≡ false) × (below (atom_at c y) (atom_at c x) ≡ false)
      same = equal_out (atom_at c x) (atom_at c y) (first_holds c k (lit_of Eq x y) holds).1

      near_low : (a : ℕ) → Near a → below (atom_at c x) (atom_at c a) ≡ false
      near_low a (inl n) = h.at_most c before a x n
      near_low a (inr n) =
          at_most_trans (atom_at c a) (atom_at c y) (atom_at c x) (h.at_most c before a y n) same.0

      far_high : (b : ℕ) → Far b → below (atom_at c b) (atom_at c x) ≡ false
      far_high b (inl f) = h.at_most c before x b f
      far_high b (inr f) =
          at_most_trans (atom_at c x) (atom_at c y) (atom_at c b) same.1 (h.at_most c before y b f)

      more_at_most : (a b : ℕ) → joined a b ≡ true → below (atom_at c b) (atom_at c a) ≡ false
      more_at_most a b m = go (joined_cases a b m)
        where
          go : (le a b ≡ true) ⊎ (Near a × Far b) → below (atom_at c b) (atom_at c a) ≡ false
          go (inl e) = h.at_most c before a b e
          go (inr e) =
              at_most_trans (atom_at c a) (atom_at c x) (atom_at c b) (near_low a e.0) (far_high b e.1)

    pub put_equal : IsOrderClosure (linked y x (linked x y le)) (k ++ lit_of Eq x y ∷ [])
    put_equal = record {
      itself = λ a. joined_old a a (h.itself a);
      trans = linked_trans once (linked_trans le h.trans x y) y x;
      stands = All-push (λ l. HoldsInOrder joined l.op l.left l.right) k (lit_of Eq x y) (all_stand le joined k h joined_old stays_untied) (joined_new x y (inl (h.itself x)) (inr (h.itself y)), joined_new y x (inr (h.itself y)) (inl (h.itself x)));
      at_most = more_at_most;
    }

-- ---- x and y are set apart
pub put_apart : (le : ℕ → ℕ → Bool) (k : List Lit) → IsOrderClosure le k → (x y : ℕ) → is_tied le x y ≡ false → IsOrderClosure le (k ++ lit_of Ne x y ∷ [])
put_apart le k h x y untied = record {
  itself = h.itself;
  trans = h.trans;
  stands = All-push (λ l. HoldsInOrder le l.op l.left l.right) k (lit_of Ne x y) h.stands untied;
  at_most = λ c holds. h.at_most c (first_holds c k (lit_of Ne x y) holds).0;
}
