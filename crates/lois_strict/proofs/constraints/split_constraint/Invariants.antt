use Rattle.std.proofs.Common.{◌≡◌, List, take}
use Rattle.lois_base.specs.Atom.{Atom}
use Rattle.lois_base.specs.Truth.{holds}
use Rattle.lois_base.specs.Validity.{IsStrictConstraint}
use Rattle.lois_constraint.specs.Rules.{Rule, ConstraintObeys}
use Rattle.lois_strict.proofs.constraints.split_constraint.Given as goal

abbrev pub invariant-loop-cube : goal.invariant-loop-cube
invariant-loop-cube l = record {
  truth : (e : List Atom) → holds e l.split ≡ holds e (take l.cube-index l.cube-items);
  strict : IsStrictConstraint l.split;
  rules : (rule : Rule) → ConstraintObeys rule l.c → ConstraintObeys rule l.split;
}
