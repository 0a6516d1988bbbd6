use Rattle.std.proofs.Common.{◌≡◌, ◌≢◌, List, take}
use Rattle.std.specs.List.{All}
use Rattle.lois_base.specs.Atom.{Atom}
use Rattle.lois_base.specs.Truth.{cube_holds}
use Rattle.lois_constraint.specs.Normalised.{IsOriented}
use Rattle.lois_constraint.specs.Rules.{Rule, CubeObeys}
use Rattle.lois_constraint.proofs.normal.turned_literals.Given as goal

abbrev pub invariant-loop-lit : goal.invariant-loop-lit
invariant-loop-lit l = record {
  truth : (c : List Atom) → cube_holds c l.turned_ones.items ≡ cube_holds c (take l.lit-index l.literals);
  apart : All (λ x. x.left ≢ x.right) l.turned_ones.items;
  turned : All (λ x. IsOriented x.op x.left x.right) l.turned_ones.items;
  rules : (rule : Rule) → CubeObeys rule l.literals → CubeObeys rule l.turned_ones.items;
}
