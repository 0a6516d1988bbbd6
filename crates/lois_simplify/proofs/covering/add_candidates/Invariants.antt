use Rattle.std.proofs.Common.{◌≡◌, ◌⊎◌, map, take, Some, Contains}
use Rattle.std.specs.List.{All}
use Rattle.lois_base.specs.Data.{CompD}
use Rattle.lois_base.specs.Tree.{comp_of}
use Rattle.lois_simplify.specs.Candidates.{behind}
use Rattle.lois_simplify.proofs.covering.add_candidates.Given as goal

abbrev pub invariant-loop-position : goal.invariant-loop-position
invariant-loop-position l = record {
  kept : (k : CompD) → Contains l.fn.candidates k → Contains l.candidates k;
  only : (k : CompD) → Contains l.candidates k → Contains l.fn.candidates k ⊎ Contains (map comp_of l.comps) k;
  all : All (λ i. (k : CompD) → behind l.first (map comp_of l.comps) i ≡ Some k → Contains l.candidates k) (take l.position-index l.position-items);
}
