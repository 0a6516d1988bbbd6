use Rattle.std.proofs.Common.{◌≡◌, ◌&&◌, ◌||◌, List}
use Rattle.std.specs.List.{All}
use Rattle.lois_base.specs.Atom.{Atom}
use Rattle.lois_base.specs.Truth.{holds}
use Rattle.lois_base.specs.declared.guards.Lit.{Lit}
use Rattle.lois_constraint.specs.Entailment.{AreIncomparable, IsPruned}
use Rattle.lois_constraint.specs.Rules.{Rule, ConstraintObeys}
use Rattle.lois_constraint.proofs.antichain.parted.Given as goal

abbrev pub invariant-loop-cube : goal.invariant-loop-cube
invariant-loop-cube l = record {
  truth : (e : List Atom) → (holds e l.within.items || (holds e l.others.items && holds e l.c)) ≡ (holds e l.yielded && holds e l.c);
  pruned : IsPruned l.yielded → IsPruned l.within.items;
  apart : (z : List Lit) → All (λ k. AreIncomparable k z) l.yielded → All (λ k. AreIncomparable k z) l.within.items;
  within_rules : (rule : Rule) → ConstraintObeys rule l.yielded → ConstraintObeys rule l.within.items;
  other_rules : (rule : Rule) → ConstraintObeys rule l.yielded → ConstraintObeys rule l.others.items;
}
