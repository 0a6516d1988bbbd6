use Rattle.std.proofs.Common.{◌≡◌, List, take}
use Rattle.std.specs.List.{All}
use Rattle.lois_base.specs.Atom.{Atom}
use Rattle.lois_base.specs.Truth.{holds}
use Rattle.lois_constraint.specs.Entailment.{IsPruned}
use Rattle.lois_constraint.specs.Normalised.{IsNormalCube}
use Rattle.lois_constraint.specs.Rules.{Rule, ConstraintObeys}
use Rattle.lois_constraint.proofs.Pruned.{ApartFrom}
use Rattle.lois_constraint.proofs.normal.normal_cubes.Given as goal

abbrev pub invariant-loop-cube : goal.invariant-loop-cube
invariant-loop-cube l = record {
  truth : (e : List Atom) → holds e l.cubes.items ≡ holds e (take l.cube-index l.cube-items);
  normal : All IsNormalCube l.cubes.items;
  pruned : IsPruned l.cubes.items;
  later : ApartFrom l.cube-items l.cube-index l.cubes.items;
  rules : (rule : Rule) → ConstraintObeys rule l.cube-items → ConstraintObeys rule l.cubes.items;
}
