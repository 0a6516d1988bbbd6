use Rattle.std.proofs.Common.{◌≡◌, ◌&&◌, List, take}
use Rattle.lois_base.specs.Atom.{Atom}
use Rattle.lois_base.specs.Truth.{cube_holds}
use Rattle.lois_constraint.specs.LevelOrders.{is_at_most}
use Rattle.lois_constraint.specs.Order.{IsOrderClosure}
use Rattle.lois_constraint.specs.Rules.{Rule, CubeObeys}
use Rattle.lois_constraint.proofs.closed_cube.ClosedCube.and_literals.Given as goal

abbrev pub invariant-loop-lit : goal.invariant-loop-lit
invariant-loop-lit l = record {
  order : IsOrderClosure (is_at_most l.order) l.cube;
  truth : (c : List Atom) → cube_holds c l.cube ≡ (cube_holds c l.fn.self && cube_holds c (take l.lit-index l.literals));
  rules : (rule : Rule) → CubeObeys rule l.fn.self → CubeObeys rule l.literals → CubeObeys rule l.cube;
}
