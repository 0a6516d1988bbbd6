use Rattle.std.specs.List.{AllPairs}
use Rattle.lois_base.specs.Fits.{ConstraintFits}
use Rattle.lois_base.specs.Tree.{tree, comp_of}
use Rattle.lois_base.specs.Validity.{AdmitsConstraint}
use Rattle.lois_deciders.specs.OnlyAsked.{HasOnlyAsked}
use Rattle.lois_census.specs.Left.{AddsOnly, HoldsWhereListed, IsRemainder}
use Rattle.lois_census.specs.Orbits.{AreDisjointOrbits, IsTakenFrom}
use Rattle.lois_census.proofs.Measures.{sample_count}
use Rattle.lois_census.proofs.listing.add_orbits.Given as goal

abbrev pub invariant-samples : goal.invariant-samples
invariant-samples g l = record {
  left : IsRemainder g.T.Structure.ordered l.comp.binders l.comp.guard (tree l.comp.item) l.orbits l.left;
  fits : ConstraintFits l.comp.binders l.left;
  operators : AdmitsConstraint g.T.Structure.ordered l.left;
  added : AddsOnly (IsTakenFrom g.T.Structure.ordered (comp_of l.comp)) l.fn.orbits l.orbits;
  listed : HoldsWhereListed g.T.Structure.ordered l.comp.binders (tree l.comp.item) l.orbits l.taken;
  listed_fits : ConstraintFits l.comp.binders l.taken;
  listed_operators : AdmitsConstraint g.T.Structure.ordered l.taken;
  apart : AllPairs (AreDisjointOrbits g.T.Structure.ordered) l.orbits;
  only_asked : HasOnlyAsked (λ b. (goal.Decider-dyn g (b.vtable, b.value)).kind_of b.value) (λ b. (goal.Decider-dyn g (b.vtable, b.value)).questions b.value) l.fn.chosen l.chosen;
}

abbrev pub decreases-samples : goal.decreases-samples
decreases-samples g l = sample_count l.comp.binders l.left
