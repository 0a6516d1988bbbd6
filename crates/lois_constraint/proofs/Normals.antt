-- Normal cubes, and normalised constraints.
use Rattle.std.proofs.Common.{◌≡◌, ◌≢◌, ◌↔◌, ℕ, ◌<◌, Bool, true, false, not, ◌&&◌, List, [], ◌∷◌, ◌++◌, length, get_or, take, ◌+◌, refl, sym, ap, ◌∙◌, subst}
use Rattle.std.specs.Bool.{IsFalse}
use Rattle.std.specs.List.{All, AllPairs, Contains, list_any}
use Rattle.std.proofs.lemmas.Bool.{and_parts, and_from}
use Rattle.std.proofs.lemmas.List.Elements.{All-contains, Contains-get_or}
use Rattle.std.proofs.lemmas.List.Folds.{Any-from_list_any, list_all-append}
use Rattle.std.proofs.lemmas.List.Sums.{AllPass-from_list_all, list_all-from_AllPass}
use Rattle.lois_base.proofs.Order.{equal_refl, below_irrefl, same_truth}
use Rattle.lois_base.specs.declared.guards.Op.{Op}
use Rattle.lois_base.specs.declared.guards.Op.TheVariants.{Eq, Ne, Lt, AtMost}
use Rattle.lois_base.specs.Atom.{Atom, equal, below}
use Rattle.lois_base.specs.Truth.{atom_at, op_holds, lit_holds, cube_holds}
use Rattle.lois_base.specs.declared.guards.Lit.{Lit}
use Rattle.lois_constraint.specs.Entailment.{CubeIsSatisfiable, AreIncomparable, IsPruned}
use Rattle.lois_constraint.specs.Normalised.{lit_same, cube_before, is_part, IsNormalCube, IsNormalised}
use Rattle.lois_constraint.proofs.Linked.{not_true, clash}
use Rattle.lois_constraint.proofs.Ordered.{lit_from_same, cube_before_trans, cube_before_irrefl, cube_equal}
use Rattle.lois_constraint.proofs.Sorted.{rises}
use Rattle.lois_constraint.proofs.Tightened.{tight_grows, tight_stays}

-- ---- cubes with the same literals
module _ (xs ys : List Lit) (same : (l : Lit) → Contains xs l ↔ Contains ys l) where
  pub same_all : (P : Lit → Type 0) → All P xs → All P ys
  same_all P h = λ i d l. All-contains P xs (get_or ys i d) h ((same (get_or ys i d)).1 (Contains-get_or ys i d l))

  all_back : (P : Lit → Type 0) → All P ys → All P xs
  all_back P h = λ i d l. All-contains P ys (get_or xs i d) h ((same (get_or xs i d)).0 (Contains-get_or xs i d l))

  pub same_hold : (c : List Atom) → cube_holds c ys ≡ cube_holds c xs
  same_hold c =
      let at : Lit → Bool = lit_holds c in
      same_truth (cube_holds c ys) (cube_holds c xs)
      (λ t. list_all-from_AllPass at xs (all_back (λ l. at l ≡ true) (AllPass-from_list_all at ys t)))
      (λ t. list_all-from_AllPass at ys (same_all (λ l. at l ≡ true) (AllPass-from_list_all at xs t)))

-- ---- the literals of a cube turned, as far as they were read
-- a literal that joins a level to itself holds everywhere where it holds somewhere
holds_anywhere : (c e : List Atom) (o : Op) (x y : ℕ) → x ≡ y → op_holds o (atom_at e x) (atom_at e y) ≡ true → op_holds o (atom_at c x) (atom_at c y) ≡ true
holds_anywhere c e Eq x y same h = subst (λ z. equal (atom_at c x) (atom_at c z) ≡ true) same (equal_refl (atom_at c x))
holds_anywhere c e Ne x y same h =
    let alike : equal (atom_at e x) (atom_at e y) ≡ true = subst (λ z. equal (atom_at e x) (atom_at e z) ≡ true) same (equal_refl (atom_at e x)) in
    let no : not (equal (atom_at e x) (atom_at e y)) ≡ false = ap not alike in
    clash (not (equal (atom_at e x) (atom_at e y))) h no
holds_anywhere c e Lt x y same h =
    clash (below (atom_at e x) (atom_at e y)) h (subst (λ z. below (atom_at e x) (atom_at e z) ≡ false) same (below_irrefl (atom_at e x)))
holds_anywhere c e AtMost x y same h =
    ap not (subst (λ z. below (atom_at c z) (atom_at c x) ≡ false) same (below_irrefl (atom_at c x)))

module _ (c : List Atom) (turned xs : List Lit) (i : ℕ) (d : Lit) (b : i < length xs) (same : cube_holds c turned ≡ cube_holds c (take i xs)) where
  pub turned_grows : (r : List Lit) (t : Lit) → r ≡ turned ++ t ∷ [] → lit_holds c t ≡ lit_holds c (get_or xs i d) → cube_holds c r ≡ cube_holds c (take (i + 1) xs)
  turned_grows r t e f =
      ap (cube_holds c) e ∙ (list_all-append (lit_holds c) turned (t ∷ []) ∙ (ap (λ p. cube_holds c turned && (p && true)) f ∙ (sym (list_all-append (lit_holds c) turned (get_or xs i d ∷ [])) ∙ tight_grows c turned xs i d b same (turned ++ get_or xs i d ∷ []) refl)))

  pub turned_stays : CubeIsSatisfiable xs → (get_or xs i d).left ≡ (get_or xs i d).right → cube_holds c turned ≡ cube_holds c (take (i + 1) xs)
  turned_stays met joined =
      let l : Lit = get_or xs i d in
      let somewhere : lit_holds met.0 l ≡ true = AllPass-from_list_all (lit_holds met.0) xs met.1 i d b in
      tight_stays c turned xs i d b same (λ h. holds_anywhere c met.0 l.op l.left l.right joined somewhere)

-- ---- what stands in a cube
same_holds : (c : List Atom) (b : List Lit) (l : Lit) → list_any (λ m. lit_same m l) b ≡ true → cube_holds c b ≡ true → lit_holds c l ≡ true
same_holds c b l h t =
    let at = Any-from_list_any (λ m. lit_same m l) b h in
    let here : lit_holds c at.1 ≡ true = subst (λ (y : Lit). lit_holds c y ≡ true) at.3 (AllPass-from_list_all (lit_holds c) b t at.0 at.1 at.2) in
    subst (λ (y : Lit). lit_holds c y ≡ true) (lit_from_same at.1 l at.4) here

part_holds : (c : List Atom) (a b : List Lit) → is_part a b ≡ true → cube_holds c b ≡ true → cube_holds c a ≡ true
part_holds c [] b h t = refl
part_holds c (l ∷ a) b h t =
    let parts = and_parts (list_any (λ m. lit_same m l) b) (is_part a b) h in
    and_from (lit_holds c l) (cube_holds c a) (same_holds c b l parts.0 t) (part_holds c a b parts.1 t)

-- ---- a pruned constraint of normal cubes that are sorted
not_part : (a b : List Lit) → AreIncomparable a b → is_part a b ≡ false
not_part a b apart = not_true (is_part a b) (λ h. apart.1 (λ c t. part_holds c a b h t))

not_one : (a b : List Lit) → AreIncomparable a b → a ≢ b
not_one a b apart e = apart.0 (λ c t. subst (λ k. cube_holds c k ≡ true) e t)

pub normalised_from : (g : List (List Lit)) → All IsNormalCube g → IsPruned g → AllPairs (λ a b. IsFalse (cube_before b a)) g → IsNormalised g
normalised_from g cubes pruned sorted = record {
  cubes = cubes;
  increasing = λ i j d l m. rises cube_before cube_before_trans cube_before_irrefl cube_equal (get_or g i d) (get_or g j d) (sorted i j d l m) (not_one (get_or g i d) (get_or g j d) (pruned.apart i j d l m));
  lean = λ i j d l m. (not_part (get_or g i d) (get_or g j d) (pruned.apart i j d l m), not_part (get_or g j d) (get_or g i d) ((pruned.apart i j d l m).1, (pruned.apart i j d l m).0));
}
