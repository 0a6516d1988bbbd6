-- Literals with `<=` in their two parts, and cubes with the others.
use Rattle.std.proofs.Common.{◌≡◌, ◌⊎◌, inl, inr, ℕ, Bool, true, false, not, ◌&&◌, ◌||◌, cond, List, [], ◌∷◌, ◌++◌, ◌+◌, ◌<◌, length, get_or, take, filter, refl, sym, ◌∙◌, ap, subst}
use Rattle.std.proofs.lemmas.Bool.{false≢true}
use Rattle.std.proofs.lemmas.List.Elements.{All-nil, All-push, All-filter, All-contains, filter_passes}
use Rattle.std.proofs.lemmas.List.Folds.{list_all_more}
use Rattle.std.proofs.lemmas.List.Sums.{AllPass-from_list_all}
use Rattle.std.specs.List.{All, Contains}
use Rattle.lois_base.specs.Atom.{Atom}
use Rattle.lois_base.specs.Truth.{atom_at, lit_holds, cube_holds, holds}
use Rattle.lois_base.specs.Validity.{is_strict}
use Rattle.lois_base.specs.declared.guards.Lit.{Lit}
use Rattle.lois_base.specs.declared.guards.Op.{Op}
use Rattle.lois_base.specs.declared.guards.Op.TheVariants.{Eq, Ne, Lt, AtMost}
use Rattle.lois_base.proofs.Booleans.{or_false, and_true, and_first, and_second, never_both}
use Rattle.lois_base.proofs.Order.{equal_sym}
use Rattle.lois_base.proofs.Both.{cubes_append, holds_append}
use Rattle.lois_constraint.specs.Rules.{Rule, uses, fits, admits, strict, Obeys, CubeObeys, ConstraintObeys}
use Rattle.lois_constraint.proofs.WeakLiterals.{less, same, at_most, less_holds, same_holds, one_holds}
use Rattle.lois_strict.specs.Literals.{with_less, with_equal, difference, a_part_holds}

-- ---- a literal with `<=` holds where one of its parts does, and they obey what it obeys
module _ (e : List Atom) where
  either : (p q r : Bool) → (p ≡ true → r ≡ true) → (q ≡ true → r ≡ true) → (r ≡ true → (p ≡ true) ⊎ (q ≡ true)) → (p || q) ≡ r
  either true q r f g h = sym (f refl)
  either false true r f g h = sym (g refl)
  either false false true f g h = elim (h refl) [ inl x ↦ x | inr x ↦ x ]
  either false false false f g h = refl

  weak_parts : (o : Op) (x y : ℕ) → not (is_strict o) ≡ true → a_part_holds e (record { op = o; left = x; right = y }) ≡ lit_holds e (record { op = o; left = x; right = y })
  weak_parts Eq x y w = absurd (false≢true w)
  weak_parts Ne x y w = absurd (false≢true w)
  weak_parts Lt x y w = absurd (false≢true w)
  weak_parts AtMost x y w =
      either (lit_holds e (less x y)) (lit_holds e (same x y)) (lit_holds e (at_most x y)) (less_holds e x y) (same_holds e x y) (one_holds e x y)

  pub a_part_holds_is : (l : Lit) → not (is_strict l.op) ≡ true → a_part_holds e l ≡ lit_holds e l
  a_part_holds_is l w = weak_parts l.op l.left l.right w

-- where the levels of a literal with `<=` differ, `<` is all that is left of it
module _ (e : List Atom) where
  weak_op : (o : Op) (x y : ℕ) → not (is_strict o) ≡ true → lit_holds e (record { op = o; left = x; right = y }) ≡ lit_holds e (at_most x y)
  weak_op Eq x y v = absurd (false≢true v)
  weak_op Ne x y v = absurd (false≢true v)
  weak_op Lt x y v = absurd (false≢true v)
  weak_op AtMost x y v = refl

  differ : (k : List Lit) (x y : ℕ) → cube_holds e k ≡ true → Contains k (difference x y) ⊎ Contains k (difference y x) → lit_holds e (same x y) ≡ true → ⊥
  differ k x y holds has equal =
      elim has [
        | inl h ↦ never_both (lit_holds e (same x y)) (found (difference x y) h) equal
        | inr h ↦ never_both (lit_holds e (same y x)) (found (difference y x) h) (equal_sym (atom_at e x) (atom_at e y) equal)
      ]
    where
      found : (l : Lit) → Contains k l → lit_holds e l ≡ true
      found l h = All-contains (λ (q : Lit). lit_holds e q ≡ true) k l (AllPass-from_list_all (lit_holds e) k holds) h

  pub less_hold : (k : List Lit) (l : Lit) → not (is_strict l.op) ≡ true → Contains k (difference l.left l.right) ⊎ Contains k (difference l.right l.left) → cube_holds e k ≡ true → lit_holds e l ≡ true → lit_holds e (with_less l) ≡ true
  less_hold k l w has holds h =
      elim (one_holds e l.left l.right (sym (weak_op l.op l.left l.right w) ∙ h)) [
        | inl less ↦ less
        | inr equal ↦ absurd (differ k l.left l.right holds has equal)
      ]

  pub less_back : (p : Bool) (l : Lit) → not (is_strict l.op) ≡ true → (p && lit_holds e (with_less l)) ≡ true → (p && lit_holds e l) ≡ true
  less_back p l w h =
      and_true p (lit_holds e l) (and_first p (lit_holds e (with_less l)) h) (weak_op l.op l.left l.right w ∙ less_holds e l.left l.right (and_second p (lit_holds e (with_less l)) h))

parts_obey : (rule : Rule) (o : Op) (x y : ℕ) → not (is_strict o) ≡ true → Obeys rule (record { op = o; left = x; right = y }) → Obeys rule (less x y) × Obeys rule (same x y)
parts_obey (uses g) o x y w h = (h, h)
parts_obey (fits n) o x y w h = (h, h)
parts_obey (admits ordered) Eq x y w h = absurd (false≢true w)
parts_obey (admits ordered) Ne x y w h = absurd (false≢true w)
parts_obey (admits ordered) Lt x y w h = absurd (false≢true w)
parts_obey (admits ordered) AtMost x y w h = (h, refl)
parts_obey strict Eq x y w h = absurd (false≢true w)
parts_obey strict Ne x y w h = absurd (false≢true w)
parts_obey strict Lt x y w h = absurd (false≢true w)
parts_obey strict AtMost x y w h = absurd (false≢true h)

pub weak_parts_obey : (rule : Rule) (l : Lit) → not (is_strict l.op) ≡ true → Obeys rule l → Obeys rule (with_less l) × Obeys rule (with_equal l)
weak_parts_obey rule l w h = parts_obey rule l.op l.left l.right w h

-- ---- a cube with a literal more
last_of_and : (p q : Bool) → (p && (q && true)) ≡ (p && q)
last_of_and true true = refl
last_of_and true false = refl
last_of_and false q = refl

module _ (e : List Atom) (k part : List Lit) (l : Lit) (is : part ≡ k ++ l ∷ []) where
  part_holds : cube_holds e part ≡ (cube_holds e k && lit_holds e l)
  part_holds = ap (cube_holds e) is ∙ (cubes_append e k (l ∷ []) ∙ last_of_and (cube_holds e k) (lit_holds e l))

  pub unmet_adds_nothing : (p : Bool) → cube_holds e part ≡ false → p ≡ (p || (cube_holds e k && lit_holds e l))
  unmet_adds_nothing p unmet = sym (ap (λ b. p || b) (sym part_holds ∙ unmet) ∙ or_false p)

  pub part_added : (g r : List (List Lit)) → r ≡ g ++ part ∷ [] → holds e r ≡ (holds e g || (cube_holds e k && lit_holds e l))
  part_added g r more =
      ap (holds e) more ∙ (holds_append e g (part ∷ []) ∙ ap (λ b. holds e g || b) (or_false (cube_holds e part) ∙ part_holds))

-- one cube with one literal, then with another
pub two_parts : (g k p q : Bool) → ((g || (k && p)) || (k && q)) ≡ (g || (k && (p || q)))
two_parts true k p q = refl
two_parts false true p q = refl
two_parts false false p q = refl

grouped : (a b c : Bool) → ((a && b) && c) ≡ (a && (b && c))
grouped true b c = refl
grouped false b c = refl

-- ---- a cube holds where the literals with some property and the others do
module _ (e : List Atom) (p : Lit → Bool) where
  one_apart : (b s w k : Bool) (l : Lit) (xs ys : List Lit) → cube_holds e xs ≡ s → cube_holds e ys ≡ w → (s && w) ≡ k → (cube_holds e (cond b (l ∷ xs) xs) && cube_holds e (cond (not b) (l ∷ ys) ys)) ≡ (lit_holds e l && k)
  one_apart true s w k l xs ys is iw ik = rw (is, iw) (grouped (lit_holds e l) s w ∙ ap (λ b. lit_holds e l && b) ik)
  one_apart false s w k l xs ys is iw ik = rw (is, iw) (turned (lit_holds e l) s w ∙ ap (λ b. lit_holds e l && b) ik)
    where
      turned : (a b c : Bool) → (b && (a && c)) ≡ (a && (b && c))
      turned true b c = refl
      turned false true c = refl
      turned false false c = refl

  pub apart_hold : (k : List Lit) → (cube_holds e (filter p k) && cube_holds e (filter (λ l. not (p l)) k)) ≡ cube_holds e k
  apart_hold [] = refl
  apart_hold (l ∷ k) =
      one_apart (p l) (cube_holds e (filter p k)) (cube_holds e (filter (λ q. not (p q)) k)) (cube_holds e k) l (filter p k) (filter (λ q. not (p q)) k) refl refl (apart_hold k)

-- ---- the one part that a cube begins with
as_one : (p : Bool) → (p || false) ≡ (p && true)
as_one true = refl
as_one false = refl

module _ (k s : List Lit) (g r : List (List Lit)) (more : r ≡ g ++ k ∷ []) (none : g ≡ []) (is : k ≡ s) where
  begun : r ≡ s ∷ []
  begun =
      more ∙ (ap (λ (h : List (List Lit)). h ++ k ∷ []) none ∙ ap (λ (q : List Lit). q ∷ []) is)

  pub begun_holds : (e : List Atom) → holds e r ≡ (cube_holds e s && true)
  begun_holds e = ap (holds e) begun ∙ as_one (cube_holds e s)

  pub begun_obeys : (P : Lit → Type 0) → All P s → All (All P) r
  begun_obeys P h = subst (All (All P)) (sym begun) (All-push (All P) [] s (All-nil (All P)) h)

-- ---- the parts after one more literal with `<=`
abbrev pub weak_literals : List Lit → List Lit
weak_literals k = filter (λ l. not (is_strict l.op)) k

module _ (k xs : List Lit) (g r : List (List Lit)) (i : ℕ) (d : Lit) (is : xs ≡ weak_literals k) (b : i < length xs) where
  pub read_weak : not (is_strict (get_or xs i d).op) ≡ true
  read_weak = subst (All (λ (l : Lit). not (is_strict l.op) ≡ true)) (sym is) (filter_passes (λ (l : Lit). not (is_strict l.op)) k) i d b

  -- what has been split, and the literal, hold at once
  pub back_read : (e : List Atom) (s : Bool) → (holds e g ≡ true → (s && cube_holds e (take i xs)) ≡ true) → (holds e g && lit_holds e (get_or xs i d)) ≡ true → (s && cube_holds e (take (i + 1) xs)) ≡ true
  back_read e s before now =
      ap (λ p. s && p) (list_all_more (lit_holds e) xs i d b) ∙ (sym (grouped s (cube_holds e (take i xs)) (lit_holds e (get_or xs i d))) ∙ and_true (s && cube_holds e (take i xs)) (lit_holds e (get_or xs i d)) (before (and_first (holds e g) (lit_holds e (get_or xs i d)) now)) (and_second (holds e g) (lit_holds e (get_or xs i d)) now))

  pub weak_holds : (e : List Atom) → cube_holds e k ≡ true → lit_holds e (get_or xs i d) ≡ true
  weak_holds e h =
      AllPass-from_list_all (lit_holds e) xs (ap (cube_holds e) is ∙ and_second (cube_holds e (filter (λ l. is_strict l.op) k)) (cube_holds e (weak_literals k)) (apart_hold e (λ l. is_strict l.op) k ∙ h)) i d b

  pub split_obeys : (rule : Rule) → CubeObeys rule k → ConstraintObeys rule g → (ConstraintObeys rule g → Obeys rule (with_less (get_or xs i d)) → Obeys rule (with_equal (get_or xs i d)) → ConstraintObeys rule r) → ConstraintObeys rule r
  split_obeys rule h before then =
      let obeys = weak_parts_obey rule (get_or xs i d) read_weak (subst (CubeObeys rule) (sym is) (All-filter (λ (l : Lit). not (is_strict l.op)) (Obeys rule) k h) i d b) in
      then before obeys.0 obeys.1

-- two tests that follow from one another
pub as_true : (p q : Bool) → (q ≡ true → p ≡ true) → (p ≡ true → q ≡ true) → p ≡ q
as_true true q there back = sym (back refl)
as_true false true there back = there refl
as_true false false there back = refl
