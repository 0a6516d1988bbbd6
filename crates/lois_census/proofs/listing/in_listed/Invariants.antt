use Rattle.std.proofs.Common.{take, map}
use Rattle.lois_base.specs.Fits.{ConstraintFits}
use Rattle.lois_base.specs.Tree.{tree}
use Rattle.lois_base.specs.Validity.{AdmitsConstraint}
use Rattle.lois_census.specs.Left.{HoldsWhereListed}
use Rattle.lois_census.specs.OrbitView.{orbit_of}
use Rattle.lois_census.proofs.listing.in_listed.Given as goal

abbrev pub invariant-loop-orbit : goal.invariant-loop-orbit
invariant-loop-orbit g l = record {
  listed : HoldsWhereListed g.T.Structure.ordered l.comp.binders (tree l.comp.item) (map orbit_of (take l.orbit-index l.orbit-items)) l.taken;
  fits : ConstraintFits l.comp.binders l.taken;
  operators : AdmitsConstraint g.T.Structure.ordered l.taken;
}
