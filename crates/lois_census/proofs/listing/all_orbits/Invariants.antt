use Rattle.std.proofs.Common.{take, map}
use Rattle.std.specs.List.{All, AllPairs}
use Rattle.lois_base.specs.Data.{comps_of}
use Rattle.lois_base.specs.Tree.{comp_of}
use Rattle.lois_deciders.specs.OnlyAsked.{HasOnlyAsked}
use Rattle.lois_census.specs.Left.{IsTakenFromSome, IsCoveredByOrbits}
use Rattle.lois_census.specs.Orbits.{AreDisjointOrbits, AreTakenInOrder}
use Rattle.lois_census.proofs.listing.all_orbits.Given as goal

abbrev pub invariant-loop-comp : goal.invariant-loop-comp
invariant-loop-comp g l = record {
  taken : All (IsTakenFromSome g.T.Structure.ordered l.comps) l.orbits;
  in_order : AreTakenInOrder g.T.Structure.ordered (comps_of (map comp_of (take l.comp-index l.comp-items))) l.orbits;
  covered : All (IsCoveredByOrbits g.T.Structure.ordered l.orbits) (map comp_of (take l.comp-index l.comp-items));
  apart : AllPairs (AreDisjointOrbits g.T.Structure.ordered) l.orbits;
  only_asked : HasOnlyAsked (λ b. (goal.Decider-dyn g (b.vtable, b.value)).kind_of b.value) (λ b. (goal.Decider-dyn g (b.vtable, b.value)).questions b.value) l.fn.chosen l.chosen;
}
