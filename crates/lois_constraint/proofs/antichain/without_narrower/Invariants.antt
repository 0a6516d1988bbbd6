use Rattle.std.proofs.Common.{◌≡◌, ◌||◌, List}
use Rattle.std.specs.List.{All}
use Rattle.lois_base.specs.Atom.{Atom}
use Rattle.lois_base.specs.Truth.{cube_holds, holds}
use Rattle.lois_base.specs.declared.guards.Lit.{Lit}
use Rattle.lois_constraint.specs.Entailment.{Entails, AreIncomparable, IsPruned}
use Rattle.lois_constraint.specs.Rules.{Rule, ConstraintObeys}
use Rattle.lois_constraint.proofs.antichain.without_narrower.Given as goal

abbrev pub invariant-loop-other : goal.invariant-loop-other
invariant-loop-other l = record {
  truth : (c : List Atom) → (holds c l.kept.items || cube_holds c l.cube) ≡ (holds c l.yielded || cube_holds c l.cube);
  outside : All (λ k. Entails k l.cube → ⊥) l.kept.items;
  uncovered : All (λ k. Entails l.cube k → ⊥) l.yielded → All (λ k. Entails l.cube k → ⊥) l.kept.items;
  pruned : IsPruned l.yielded → IsPruned l.kept.items;
  apart : (z : List Lit) → All (λ k. AreIncomparable k z) l.yielded → All (λ k. AreIncomparable k z) l.kept.items;
  rules : (rule : Rule) → ConstraintObeys rule l.yielded → ConstraintObeys rule l.kept.items;
}
