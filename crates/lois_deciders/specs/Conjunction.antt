-- Two constraints that are met at once.
use Rattle.std.specs.Prelude.{◌≡◌, ℕ, Bool, ◌&&◌, List, length, IsTrue}
use Rattle.lois_base.specs.Atom.{Atom}
use Rattle.lois_base.specs.Fits.{ConstraintFits}
use Rattle.lois_base.specs.Truth.{holds}
use Rattle.lois_base.specs.Validity.{AdmitsConstraint}
use Rattle.lois_base.specs.declared.guards.Lit.{Lit}
use Rattle.lois_constraint.specs.Entailment.{IsPruned}
use Rattle.lois_deciders.specs.Satisfaction.{IsConstraintSample}

-- the constraint r over n levels holds where g and h both do, and at the sample s
pub record IsSampledConjunction (n : ℕ) (g h r : List (List Lit)) (s : List ℕ) : Type 0 where
  pub truth : (c : List Atom) → holds c r ≡ (holds c g && holds c h)
  pub levels : ConstraintFits n r
  pub operators : (ordered : Bool) → AdmitsConstraint ordered g → AdmitsConstraint ordered h → AdmitsConstraint ordered r
  pub pruned : IsPruned r
  pub sample : IsConstraintSample n r s

-- at no choice of n atoms both hold
abbrev pub AreInconsistent : ℕ → List (List Lit) → List (List Lit) → Type 0
AreInconsistent n g h = (c : List Atom) → length c ≡ n → IsTrue (holds c g) → IsTrue (holds c h) → ⊥
