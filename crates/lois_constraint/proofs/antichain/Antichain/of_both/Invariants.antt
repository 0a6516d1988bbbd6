use Rattle.std.proofs.Common.{◌≡◌, ◌&&◌, List, take}
use Rattle.lois_base.specs.Atom.{Atom}
use Rattle.lois_base.specs.Truth.{holds}
use Rattle.lois_constraint.specs.Rules.{Rule, ConstraintObeys}
use Rattle.lois_constraint.proofs.antichain.Antichain.of_both.Given as goal

abbrev pub invariant-loop-cube : goal.invariant-loop-cube
invariant-loop-cube l = record {
  truth : (e : List Atom) → holds e l.antichain ≡ (holds e (take l.cube-index l.cube-items) && holds e l.b);
  rules : (rule : Rule) → ConstraintObeys rule l.a → ConstraintObeys rule l.b → ConstraintObeys rule l.antichain;
}
