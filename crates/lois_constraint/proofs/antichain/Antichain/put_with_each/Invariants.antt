use Rattle.std.proofs.Common.{◌≡◌, ◌&&◌, ◌||◌, List, take}
use Rattle.lois_base.specs.Atom.{Atom}
use Rattle.lois_base.specs.Truth.{cube_holds, holds}
use Rattle.lois_constraint.specs.Rules.{Rule, CubeObeys, ConstraintObeys}
use Rattle.lois_constraint.proofs.antichain.Antichain.put_with_each.Given as goal

abbrev pub invariant-loop-other : goal.invariant-loop-other
invariant-loop-other l = record {
  truth : (c : List Atom) → holds c l.antichain ≡ (holds c l.fn.self || (cube_holds c l.closed && holds c (take l.other-index l.other-items)));
  rules : (rule : Rule) → ConstraintObeys rule l.fn.self → CubeObeys rule l.closed → ConstraintObeys rule l.others → ConstraintObeys rule l.antichain;
}
