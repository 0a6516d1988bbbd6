use Rattle.std.proofs.Common.{ℕ, drop}
use Rattle.std.specs.Bool.{IsTrue}
use Rattle.lois_base.specs.Fits.{CubeFits}
use Rattle.lois_base.specs.FormulaView.{view}
use Rattle.lois_base.specs.Truth.{cube_holds}
use Rattle.lois_base.specs.Validity.{AdmitsCube}
use Rattle.lois_relate.proofs.Loops.{AllSoFar}
use Rattle.lois_algebra.proofs.depth.cube_formula.Given as goal

abbrev pub invariant-loop-lit : goal.invariant-loop-lit
invariant-loop-lit l =
    (n : ℕ) → CubeFits n l.cube → AllSoFar n (λ c. IsTrue (cube_holds c (drop l.lit-index l.lit-items))) (λ c. IsTrue (cube_holds c l.cube)) (λ o. AdmitsCube o l.cube) (view l.met)
