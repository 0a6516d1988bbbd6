-- A literal with `=` that each cube has fixes the higher of its levels.
use Rattle.std.proofs.Common.{◌≡◌, ℕ, ◌⊎◌, inl, inr, true, List, sym, subst}
use Rattle.std.specs.Bool.{IsTrue}
use Rattle.std.specs.List.{All, Contains}
use Rattle.std.proofs.lemmas.List.Folds.{Any-from_list_any}
use Rattle.std.proofs.lemmas.List.Sums.{AllPass-from_list_all}
use Rattle.lois_base.specs.Atom.{Atom, equal}
use Rattle.lois_base.specs.Truth.{atom_at, op_holds, lit_holds, cube_holds, holds}
use Rattle.lois_base.specs.declared.guards.Lit.{Lit}
use Rattle.lois_base.specs.declared.guards.Op.TheVariants.{Eq}
use Rattle.lois_base.proofs.Order.{equal_sym}

pub shared_holds : (c : List Atom) (h : List (List Lit)) (l : Lit) → All (λ (k : List Lit). Contains k l) h → IsTrue (holds c h) → IsTrue (lit_holds c l)
shared_holds c h l each t =
    let at = Any-from_list_any (cube_holds c) h t in
    let has : Contains at.1 l = subst (λ (z : List Lit). Contains z l) at.3 (each at.0 at.1 at.2) in
    subst (λ (z : Lit). lit_holds c z ≡ true) has.2 (AllPass-from_list_all (lit_holds c) at.1 at.4 has.0 l has.1)

pub tied_atoms : (c : List Atom) (l : Lit) (b a : ℕ) → l.op ≡ Eq → ((b ≡ l.left) × (a ≡ l.right)) ⊎ ((b ≡ l.right) × (a ≡ l.left)) → IsTrue (lit_holds c l) → IsTrue (equal (atom_at c b) (atom_at c a))
tied_atoms c l b a equated levels t = go levels
  where
    same : IsTrue (equal (atom_at c l.left) (atom_at c l.right))
    same = subst (λ o. IsTrue (op_holds o (atom_at c l.left) (atom_at c l.right))) equated t

    go : ((b ≡ l.left) × (a ≡ l.right)) ⊎ ((b ≡ l.right) × (a ≡ l.left)) → IsTrue (equal (atom_at c b) (atom_at c a))
    go (inl (p, q)) =
        subst (λ j. IsTrue (equal (atom_at c j) (atom_at c a))) (sym p) (subst (λ j. IsTrue (equal (atom_at c l.left) (atom_at c j))) (sym q) same)
    go (inr (p, q)) =
        subst (λ j. IsTrue (equal (atom_at c j) (atom_at c a))) (sym p) (subst (λ j. IsTrue (equal (atom_at c l.right) (atom_at c j))) (sym q) (equal_sym (atom_at c l.left) (atom_at c l.right) same))
