-- Cubes that others have, and cubes that none of several others contains.
use Rattle.std.proofs.Common.{◌≡◌, ◌&&◌, List, ◌++◌, sym, ap, ◌∙◌}
use Rattle.std.proofs.lemmas.List.Elements.{All-weaker}
use Rattle.std.specs.Bool.{IsTrue}
use Rattle.std.specs.List.{All}
use Rattle.lois_base.proofs.Both.{cubes_append}
use Rattle.lois_base.specs.Atom.{Atom}
use Rattle.lois_base.specs.Truth.{cube_holds}
use Rattle.lois_base.specs.declared.guards.Lit.{Lit}
use Rattle.lois_constraint.specs.Entailment.{CubeIsSatisfiable, Entails}
use Rattle.lois_constraint.specs.Uncovered.{IsUncovered}

-- what holds where two cubes do is outside where the two together are
pub both_outside : (k q both : List Lit) (g : List (List Lit)) → ((c : List Atom) → cube_holds c both ≡ (cube_holds c k && cube_holds c q)) → CubeIsSatisfiable both → All (λ p. Entails both p → ⊥) g → IsUncovered (k ++ q) g
both_outside k q both g same met apart = record {
  met = (met.0, there met.0 met.1);
  apart = All-weaker (λ p. Entails both p → ⊥) (λ p. Entails (k ++ q) p → ⊥) (λ p out within. out (λ c h. within c (there c h))) g apart;
}
  where
    there : (c : List Atom) → IsTrue (cube_holds c both) → IsTrue (cube_holds c (k ++ q))
    there c h = cubes_append c k q ∙ (sym (same c) ∙ h)

-- cubes that hold alike are outside alike
pub alike_outside : (k q p : List Lit) (g : List (List Lit)) → ((c : List Atom) → cube_holds c k ≡ cube_holds c q) → IsUncovered (k ++ p) g → IsUncovered (q ++ p) g
alike_outside k q p g same out = record {
  met = (out.met.0, here out.met.0 ∙ out.met.1);
  apart = All-weaker (λ r. Entails (k ++ p) r → ⊥) (λ r. Entails (q ++ p) r → ⊥) (λ r apart within. apart (λ c h. within c (here c ∙ h))) g out.apart;
}
  where
    here : (c : List Atom) → cube_holds c (q ++ p) ≡ cube_holds c (k ++ p)
    here c = cubes_append c q p ∙ ap (λ b. b && cube_holds c p) (sym (same c)) ∙ sym (cubes_append c k p)
