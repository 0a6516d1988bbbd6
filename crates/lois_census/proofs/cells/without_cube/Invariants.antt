use Rattle.std.proofs.Common.{ℕ, Bool, List}
use Rattle.std.specs.Bool.{IsFalse}
use Rattle.lois_base.specs.Atom.{Atom}
use Rattle.lois_base.specs.Fits.{CubeFits, ConstraintFits}
use Rattle.lois_base.specs.Truth.{cube_holds, holds, sampled}
use Rattle.lois_base.specs.Validity.{AdmitsCube, AdmitsConstraint}
use Rattle.lois_census.specs.Left.{IsLeftOf}
use Rattle.lois_census.proofs.cells.without_cube.Given as goal

abbrev pub invariant-loop-cube : goal.invariant-loop-cube
invariant-loop-cube l = record {
  left : (e : List Atom) → IsLeftOf (cube_holds e l.other) (holds e l.yielded) (holds e l.left);
  gone : IsFalse (holds (sampled l.sample) l.left);
  fits : (n : ℕ) → ConstraintFits n l.yielded → CubeFits n l.other → ConstraintFits n l.left;
  operators : (o : Bool) → AdmitsConstraint o l.yielded → AdmitsCube o l.other → AdmitsConstraint o l.left;
}
