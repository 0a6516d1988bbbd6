use Rattle.std.proofs.Common.{ℕ, drop}
use Rattle.std.specs.Bool.{IsTrue}
use Rattle.lois_base.specs.FormulaView.{view}
use Rattle.lois_base.specs.Truth.{holds}
use Rattle.lois_base.specs.Validity.{AdmitsConstraint}
use Rattle.lois_relate.specs.Named.{atoms_named, AreBelow}
use Rattle.lois_relate.proofs.Loops.{AnySoFar}
use Rattle.lois_relate.proofs.naming.guard_formula.Given as goal

abbrev pub invariant-loop-cube : goal.invariant-loop-cube
invariant-loop-cube l =
    (n : ℕ) → AreBelow n l.names → AnySoFar n (λ c. IsTrue (holds (atoms_named l.names c) (drop l.cube-index l.cube-items))) (λ c. IsTrue (holds (atoms_named l.names c) l.guard)) (λ o. AdmitsConstraint o l.guard) (view l.found)
