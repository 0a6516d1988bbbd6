use Rattle.std.proofs.Common.{ℕ, drop}
use Rattle.std.specs.Bool.{IsTrue}
use Rattle.lois_base.specs.Fits.{ConstraintFits}
use Rattle.lois_base.specs.FormulaView.{view}
use Rattle.lois_base.specs.Truth.{holds}
use Rattle.lois_base.specs.Validity.{AdmitsConstraint}
use Rattle.lois_relate.proofs.Loops.{AnySoFar}
use Rattle.lois_algebra.proofs.depth.constraint_formula.Given as goal

abbrev pub invariant-loop-cube : goal.invariant-loop-cube
invariant-loop-cube l =
    (n : ℕ) → ConstraintFits n l.constraint → AnySoFar n (λ c. IsTrue (holds c (drop l.cube-index l.cube-items))) (λ c. IsTrue (holds c l.constraint)) (λ o. AdmitsConstraint o l.constraint) (view l.found)
