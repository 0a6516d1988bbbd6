use Rattle.std.proofs.Common.{◌≡◌, ◌&&◌, ◌||◌, List}
use Rattle.lois_base.specs.Atom.{Atom}
use Rattle.lois_base.specs.Truth.{holds}
use Rattle.lois_constraint.specs.Rules.{Rule, ConstraintObeys}
use Rattle.lois_constraint.proofs.antichain.with_met.Given as goal

abbrev pub invariant-loop-cube : goal.invariant-loop-cube
invariant-loop-cube l = record {
  truth : (e : List Atom) → holds e l.met ≡ (holds e l.fn.antichain || (holds e l.yielded && holds e l.c));
  rules : (rule : Rule) → ConstraintObeys rule l.fn.antichain → ConstraintObeys rule l.yielded → ConstraintObeys rule l.c → ConstraintObeys rule l.met;
}
