-- Orders of the levels of a cube, with one literal more.
use Rattle.std.proofs.Common.{◌≡◌, ℕ, ◌<◌, Bool, true, false, ◌&&◌, ◌||◌, ◌⊎◌, inl, inr, List, [], ◌∷◌, ◌++◌, length, get_or, eqb, eq-eqb, eqb-true, refl, sym, ◌∙◌, subst}
use Rattle.std.proofs.lemmas.Bool.{or_cases, and_parts, and_from, not-true}
use Rattle.std.proofs.lemmas.List.Elements.{All-nil, All-push}
use Rattle.std.proofs.lemmas.List.Folds.{list_all-append, list_any_at}
use Rattle.std.specs.List.{All}
use Rattle.lois_base.proofs.Order.{at_most_trans, below_asym, below_irrefl}
use Rattle.lois_base.specs.Atom.{Atom, below}
use Rattle.lois_base.specs.Truth.{atom_at, lit_holds, cube_holds}
use Rattle.lois_base.specs.declared.guards.Lit.{Lit}
use Rattle.lois_base.specs.declared.guards.Op.{Op}
use Rattle.lois_base.specs.declared.guards.Op.TheVariants.{Eq, Ne, Lt, AtMost}
use Rattle.lois_constraint.specs.Order.{linked, is_tied, is_apart, lies_between, joins, sets_apart, are_apart, HoldsInOrder, IsOrderClosure}

abbrev pub lit_of : Op → ℕ → ℕ → Lit
lit_of o x y = record { op = o; left = x; right = y }

pub not_true : (b : Bool) → (b ≡ true → ⊥) → b ≡ false
not_true true f = absurd (f refl)
not_true false f = refl

pub either : (p q : Bool) → (p ≡ true) ⊎ (q ≡ true) → (p || q) ≡ true
either true q h = refl
either false q (inl h) = absurd (cc)
either false q (inr h) = h

pub clash : {P : Type 0} (b : Bool) → b ≡ true → b ≡ false → P
clash b h k = absurd (cc)

pub first_holds : (c : List Atom) (k : List Lit) (l : Lit) → cube_holds c (k ++ l ∷ []) ≡ true → (cube_holds c k ≡ true) × (lit_holds c l ≡ true)
first_holds c k l h =
    let whole : (cube_holds c k && (lit_holds c l && true)) ≡ true = sym (list_all-append (lit_holds c) k (l ∷ [])) ∙ h in
    let parts = and_parts (cube_holds c k) (lit_holds c l && true) whole in
    (parts.0, (and_parts (lit_holds c l) true parts.1).0)

-- ---- an order in which each level is at most itself alone
module _ (le : ℕ → ℕ → Bool) (alone : (a b : ℕ) → le a b ≡ eqb a b) where
  same : (a b : ℕ) → le a b ≡ true → a ≡ b
  same a b h = eqb-true a b (sym (alone a b) ∙ h)

  pub no_order : IsOrderClosure le []
  no_order = record {
    itself = λ a. alone a a ∙ eq-eqb a a refl;
    trans = λ a b c p q. alone a c ∙ eq-eqb a c (same a b p ∙ same b c q);
    stands = All-nil (λ l. HoldsInOrder le l.op l.left l.right);
    at_most = λ c h a b m. subst (λ (z : ℕ). below (atom_at c z) (atom_at c a) ≡ false) (same a b m) (below_irrefl (atom_at c a));
  }

-- ---- one level at most another one
module _ (le : ℕ → ℕ → Bool) (x y : ℕ) where
  pub linked_cases : (a b : ℕ) → linked x y le a b ≡ true → (le a b ≡ true) ⊎ ((le a x ≡ true) × (le y b ≡ true))
  linked_cases a b h =
      elim (or_cases (le a b) (le a x && le y b) h) [ inl e ↦ inl e | inr e ↦ inr (and_parts (le a x) (le y b) e) ]

  pub linked_old : (a b : ℕ) → le a b ≡ true → linked x y le a b ≡ true
  linked_old a b h = either (le a b) (le a x && le y b) (inl h)

  pub linked_new : (a b : ℕ) → le a x ≡ true → le y b ≡ true → linked x y le a b ≡ true
  linked_new a b h k = either (le a b) (le a x && le y b) (inr (and_from (le a x) (le y b) h k))

module _ (le : ℕ → ℕ → Bool) (trans : (a b c : ℕ) → le a b ≡ true → le b c ≡ true → le a c ≡ true) (x y : ℕ) where
  pub linked_trans : (a b c : ℕ) → linked x y le a b ≡ true → linked x y le b c ≡ true → linked x y le a c ≡ true
  linked_trans a b c p q = go (linked_cases le x y a b p) (linked_cases le x y b c q)
    where
      go : (le a b ≡ true) ⊎ ((le a x ≡ true) × (le y b ≡ true)) → (le b c ≡ true) ⊎ ((le b x ≡ true) × (le y c ≡ true)) → linked x y le a c ≡ true
      go (inl e) (inl f) = linked_old le x y a c (trans a b c e f)
      go (inl e) (inr f) = linked_new le x y a c (trans a b x e f.0) f.1
      go (inr e) (inl f) = linked_new le x y a c e.0 (trans y b c e.1 f)
      go (inr e) (inr f) = linked_new le x y a c e.0 f.1

-- ---- an order that says more: the literals still stand if it ties no two levels that one of them says differ
module _ (le more : ℕ → ℕ → Bool) (k : List Lit) (h : IsOrderClosure le k) (grown : (a b : ℕ) → le a b ≡ true → more a b ≡ true) where
  abbrev pub StaysUntied : Lit → Type 0
  StaysUntied l = is_apart l.op ≡ true → is_tied le l.left l.right ≡ false → is_tied more l.left l.right ≡ false

  still_stands : (o : Op) (u v : ℕ) → StaysUntied (lit_of o u v) → HoldsInOrder le o u v → HoldsInOrder more o u v
  still_stands Eq u v stays s = (grown u v s.0, grown v u s.1)
  still_stands Ne u v stays s = stays refl s
  still_stands Lt u v stays s =
      let before : is_tied le u v ≡ false = not_true (is_tied le u v) (λ t. clash (le v u) (and_parts (le u v) (le v u) t).1 s.1) in (
        grown u v s.0,
        not_true (more v u) (λ t. clash (is_tied more u v) (and_from (more u v) (more v u) (grown u v s.0) t) (stays refl before)),
      )
  still_stands AtMost u v stays s = grown u v s

  pub all_stand : ((i : ℕ) (d : Lit) → i < length k → StaysUntied (get_or k i d)) → All (λ l. HoldsInOrder more l.op l.left l.right) k
  all_stand stays i d b =
      still_stands (get_or k i d).op (get_or k i d).left (get_or k i d).right (stays i d b) (h.stands i d b)

-- a literal that says that its levels differ, at a place of the cube where none sets x and y apart
pub set_by_none : (le : ℕ → ℕ → Bool) (k : List Lit) (x y i : ℕ) (d : Lit) → i < length k → is_apart (get_or k i d).op ≡ true → ((lies_between le x y (get_or k i d) || lies_between le y x (get_or k i d)) || (joins le x y (get_or k i d) || joins le y x (get_or k i d))) ≡ true → are_apart le k x y ≡ true
set_by_none le k x y i d b apart lies =
    list_any_at (sets_apart le x y) k i d b (and_from (is_apart (get_or k i d).op) _ apart lies)

-- ---- x is at most y
module _ (le : ℕ → ℕ → Bool) (k : List Lit) (h : IsOrderClosure le k) (x y : ℕ) where
  abbrev more : ℕ → ℕ → Bool
  more = linked x y le

  -- levels that are newly tied lie from y on up to x
  newly_tied : (l : Lit) → more l.left l.right ≡ true → more l.right l.left ≡ true → is_tied le l.left l.right ≡ false → lies_between le y x l ≡ true
  newly_tied l p q untied = go (linked_cases le x y u v p) (linked_cases le x y v u q)
    where
      u : ℕ
      u = l.left

      v : ℕ
      v = l.right

      lie : le y u ≡ true → le u x ≡ true → le y v ≡ true → le v x ≡ true → lies_between le y x l ≡ true
      lie yu ux yv vx =
          and_from (le y u && le u x) (le y v && le v x) (and_from (le y u) (le u x) yu ux) (and_from (le y v) (le v x) yv vx)

      go : (le u v ≡ true) ⊎ ((le u x ≡ true) × (le y v ≡ true)) → (le v u ≡ true) ⊎ ((le v x ≡ true) × (le y u ≡ true)) → lies_between le y x l ≡ true
      go (inl e) (inl f) = clash (is_tied le u v) (and_from (le u v) (le v u) e f) untied
      go (inl e) (inr f) = lie f.1 (h.trans u v x e f.0) (h.trans y u v f.1 e) f.0
      go (inr e) (inl f) = lie (h.trans y v u e.1 f) e.0 e.1 (h.trans v u x f e.0)
      go (inr e) (inr f) = lie f.1 e.0 e.1 f.0

  module _ (free : (le y x && are_apart le k y x) ≡ false) where
    stays_untied : (i : ℕ) (d : Lit) → i < length k → StaysUntied le more k h (linked_old le x y) (get_or k i d)
    stays_untied i d b apart untied = not_true (is_tied more l.left l.right) (λ m. let both = and_parts (more l.left l.right) (more l.right l.left) m in found (newly_tied l both.0 both.1 untied))
      where
        l : Lit
        l = get_or k i d

        found : lies_between le y x l ≡ true → ⊥
        found lies =
            let first = and_parts (le y l.left) (le l.left x) (and_parts (le y l.left && le l.left x) (le y l.right && le l.right x) lies).0 in
            let set : are_apart le k y x ≡ true = set_by_none le k y x i d b apart (either (lies_between le y x l || lies_between le x y l) _ (inl (either (lies_between le y x l) _ (inl lies)))) in
            clash (le y x && are_apart le k y x) (and_from (le y x) (are_apart le k y x) (h.trans y l.left x first.0 first.1) set) free

    -- with a literal by which x is at most y
    module _ (l : Lit) (stands : HoldsInOrder more l.op l.left l.right) (rises : (c : List Atom) → lit_holds c l ≡ true → below (atom_at c y) (atom_at c x) ≡ false) where
      more_at_most : (c : List Atom) → cube_holds c (k ++ l ∷ []) ≡ true → (a b : ℕ) → more a b ≡ true → below (atom_at c b) (atom_at c a) ≡ false
      more_at_most c holds a b m = go (first_holds c k l holds) (linked_cases le x y a b m)
        where
          go : (cube_holds c k ≡ true) × (lit_holds c l ≡ true) → (le a b ≡ true) ⊎ ((le a x ≡ true) × (le y b ≡ true)) → below (atom_at c b) (atom_at c a) ≡ false
          go all (inl e) = h.at_most c all.0 a b e
          go all (inr e) =
              at_most_trans (atom_at c a) (atom_at c x) (atom_at c b) (h.at_most c all.0 a x e.0) (at_most_trans (atom_at c x) (atom_at c y) (atom_at c b) (rises c all.1) (h.at_most c all.0 y b e.1))

      put_link : IsOrderClosure more (k ++ l ∷ [])
      put_link = record {
        itself = λ a. linked_old le x y a a (h.itself a);
        trans = linked_trans le h.trans x y;
        stands = All-push (λ m. HoldsInOrder more m.op m.left m.right) k l (all_stand le more k h (linked_old le x y) stays_untied) stands;
        at_most = more_at_most;
      }

    pub put_at_most : IsOrderClosure (linked x y le) (k ++ lit_of AtMost x y ∷ [])
    put_at_most =
        put_link (lit_of AtMost x y) (linked_new le x y x y (h.itself x) (h.itself y)) (λ c t. not-true (below (atom_at c y) (atom_at c x)) t)

  pub put_under : le y x ≡ false → IsOrderClosure (linked x y le) (k ++ lit_of Lt x y ∷ [])
  put_under above =
      let free : (le y x && are_apart le k y x) ≡ false = not_true (le y x && are_apart le k y x) (λ t. clash (le y x) (and_parts (le y x) (are_apart le k y x) t).0 above) in
      let still : more y x ≡ false = not_true (more y x) (λ m. elim (linked_cases le x y y x m) [ inl e ↦ clash (le y x) e above | inr e ↦ clash (le y x) e.0 above ]) in
      put_link free (lit_of Lt x y) (linked_new le x y x y (h.itself x) (h.itself y), still) (λ c t. below_asym (atom_at c x) (atom_at c y) t)
