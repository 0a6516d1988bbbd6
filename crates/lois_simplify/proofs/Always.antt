-- Guards that hold at each choice.
use Rattle.std.proofs.Common.{◌≡◌, ◌≢◌, ℕ, zero, suc, Bool, true, false, ◌&&◌, ◌||◌, List, [], ◌∷◌, length, refl, sym, ap, subst, arith}
use Rattle.std.specs.Bool.{IsTrue, IsFalse}
use Rattle.std.specs.List.{AllPairs}
use Rattle.std.proofs.lemmas.List.Elements.{All-nil, All-cons}
use Rattle.std.proofs.lemmas.List.Kept.{AllPairs-cons}
use Rattle.lois_base.specs.Atom.{Atom, whole}
use Rattle.lois_base.specs.Truth.{holds}
use Rattle.lois_base.specs.declared.guards.Lit.{Lit}
use Rattle.lois_constraint.specs.Normalised.{IsOriented, lit_before, cube_before, is_part, IsNormalCube, IsNormalised}
use Rattle.lois_deciders.specs.Satisfiability.{ConstraintIsSatisfiable}

-- nothing is added where the guard always holds
pub always_adds_nothing : (u g : List (List Lit)) → g ≡ [] ∷ [] → (c : List Atom) → holds c u ≡ (holds c u && holds c g)
always_adds_nothing u g e c =
    subst (λ z. holds c u ≡ (holds c u && holds c z)) (sym e) (go (holds c u))
  where
    go : (t : Bool) → t ≡ (t && (true || false))
    go true = refl
    go false = refl

no_pairs : {X : Type 0} (R : X → X → Type 0) → AllPairs R []
no_pairs R i j d lt within = absurd (omega (arith, within))

empty_cube_is_normal : IsNormalCube []
empty_cube_is_normal = record {
  apart = All-nil (λ l. l.left ≢ l.right);
  turned = All-nil (λ l. IsOriented l.op l.left l.right);
  increasing = no_pairs (λ l m. IsTrue (lit_before l m));
}

pub always_is_normalised : IsNormalised ([] ∷ [])
always_is_normalised = record {
  cubes = All-cons IsNormalCube [] [] empty_cube_is_normal (All-nil IsNormalCube);
  increasing = AllPairs-cons (λ a b. IsTrue (cube_before a b)) [] [] (All-nil (λ b. IsTrue (cube_before [] b))) (no_pairs (λ a b. IsTrue (cube_before a b)));
  lean = AllPairs-cons (λ a b. IsFalse (is_part a b) × IsFalse (is_part b a)) [] [] (All-nil (λ b. IsFalse (is_part [] b) × IsFalse (is_part b []))) (no_pairs (λ a b. IsFalse (is_part a b) × IsFalse (is_part b a)));
}

-- as many atoms as are wanted
some_choice : (n : ℕ) → (c : List Atom) × (length c ≡ n)
some_choice zero = ([], refl)
some_choice (suc n) = (whole 0 ∷ (some_choice n).0, ap suc (some_choice n).1)

pub always_can_be_met : (n : ℕ) (u : List (List Lit)) → u ≡ [] ∷ [] → ConstraintIsSatisfiable n u
always_can_be_met n u e =
    let c = some_choice n in (c.0, c.1, subst (λ z. holds c.0 z ≡ true) (sym e) refl)
