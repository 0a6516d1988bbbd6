use Rattle.std.proofs.Common.{take}
use Rattle.lois_base.specs.Fits.{ConstraintFits}
use Rattle.lois_base.specs.Bound.{HoldsForSome}
use Rattle.lois_deciders.proofs.stages.without_level.Given as goal

abbrev pub invariant-loop-cube : goal.invariant-loop-cube
invariant-loop-cube l = record {
  truth : HoldsForSome l.level (take l.cube-index l.cube-items) l.rest;
  levels : ConstraintFits l.level l.rest;
}
