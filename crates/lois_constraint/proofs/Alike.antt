-- Literals that the code calls equal.
use Rattle.std.proofs.Common.{◌≡◌, ℕ, Bool, true, ◌&&◌, List, eqb, ◌↔◌, refl, rules, subst}
use Rattle.std.specs.Cmp.{IsEquivalence}
use Rattle.std.specs.List.{Contains, dedup}
use Rattle.std.specs.List.Sorted.{IsPermutation}
use Rattle.std.proofs.lemmas.Bool.{and_parts, and_from, eqb-true, eq-eqb}
use Rattle.std.proofs.lemmas.List.Kept.{Contains-dedup, Contains-from_dedup}
use Rattle.std.proofs.lemmas.List.Sorted.{Contains-permutation, IsPermutation-sym}
use denote.Enum.Bare.{sameb, same_true}
use Rattle.lois_base.proofs.Order.{same_truth}
use Rattle.lois_base.specs.contracts.guards.Op.{the_type}
use Rattle.lois_base.specs.declared.guards.Lit.{Lit}
use Rattle.lois_base.specs.declared.guards.Op.{Op}
use Rattle.lois_base.specs.declared.guards.Op.TheVariants.{Eq, Ne, Lt, AtMost}

abbrev pub lit_eq : Lit → Lit → Bool
lit_eq a b = sameb the_type a.op b.op && (eqb a.left b.left && eqb a.right b.right)

abbrev literal : Op → ℕ → ℕ → Lit
literal o x y = record { op = o; left = x; right = y }

parts_same : (o o' : Op) (x x' y y' : ℕ) → o ≡ o' → x ≡ x' → y ≡ y' → literal o x y ≡ literal o' x' y'
parts_same o o' x x' y y' e f g = rw (e, f, g) refl

pub lits_same : (a b : Lit) → lit_eq a b ≡ true → a ≡ b
lits_same a b h =
    let parts = and_parts (sameb the_type a.op b.op) (eqb a.left b.left && eqb a.right b.right) h in
    let rest = and_parts (eqb a.left b.left) (eqb a.right b.right) parts.1 in
    parts_same a.op b.op a.left b.left a.right b.right (same_true the_type (search rules) _ _ parts.0) (eqb-true a.left b.left rest.0) (eqb-true a.right b.right rest.1)

same_op : (o : Op) → sameb the_type o o ≡ true
same_op Eq = refl
same_op Ne = refl
same_op Lt = refl
same_op AtMost = refl

pub lit_eq_itself : (a : Lit) → lit_eq a a ≡ true
lit_eq_itself a =
    and_from (sameb the_type a.op a.op) (eqb a.left a.left && eqb a.right a.right) (same_op a.op) (and_from (eqb a.left a.left) (eqb a.right a.right) (eq-eqb a.left a.left refl) (eq-eqb a.right a.right refl))

turned_round : (a b : Lit) → lit_eq a b ≡ true → lit_eq b a ≡ true
turned_round a b h = subst (λ z. lit_eq z a ≡ true) (lits_same a b h) (lit_eq_itself a)

equivalence : IsEquivalence lit_eq
equivalence = record {
  refl = lit_eq_itself;
  symm = λ x y. same_truth (lit_eq x y) (lit_eq y x) (turned_round x y) (turned_round y x);
  congr = λ x y z h. subst (λ w. lit_eq x z ≡ lit_eq w z) (lits_same x y h) refl;
}

-- what is left of the literals in another order where repeated neighbours are dropped
pub same_literals : (xs ys : List Lit) → IsPermutation xs ys → (l : Lit) → Contains xs l ↔ Contains (dedup lit_eq ys) l
same_literals xs ys p l = (
  λ h. Contains-dedup equivalence lits_same ys l (Contains-permutation xs ys l p h),
  λ h. Contains-permutation ys xs l (IsPermutation-sym xs ys p) (Contains-from_dedup lit_eq ys l h),
)
