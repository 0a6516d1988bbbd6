use Rattle.std.proofs.Common.{ℕ, drop}
use Rattle.std.specs.Bool.{IsTrue}
use Rattle.lois_base.specs.FormulaView.{view}
use Rattle.lois_base.specs.Truth.{cube_holds}
use Rattle.lois_base.specs.Validity.{AdmitsCube}
use Rattle.lois_relate.specs.Named.{atoms_named, AreBelow}
use Rattle.lois_relate.proofs.Loops.{AllSoFar}
use Rattle.lois_relate.proofs.naming.cube_formula.Given as goal

abbrev pub invariant-loop-lit : goal.invariant-loop-lit
invariant-loop-lit l =
    (n : ℕ) → AreBelow n l.names → AllSoFar n (λ c. IsTrue (cube_holds (atoms_named l.names c) (drop l.lit-index l.lit-items))) (λ c. IsTrue (cube_holds (atoms_named l.names c) l.cube)) (λ o. AdmitsCube o l.cube) (view l.met)
