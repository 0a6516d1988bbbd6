use Rattle.std.proofs.Common.{◌≡◌, ◌&&◌, List, take}
use Rattle.lois_base.specs.Atom.{Atom}
use Rattle.lois_base.specs.Truth.{cube_holds}
use Rattle.lois_constraint.specs.Rules.{Rule, CubeObeys}
use Rattle.lois_constraint.proofs.normal.not_implied.Given as goal

abbrev pub invariant-loop-lit : goal.invariant-loop-lit
invariant-loop-lit l = record {
  truth : (c : List Atom) → (cube_holds c l.closed && cube_holds c l.kept.items) ≡ (cube_holds c l.closed && cube_holds c (take l.lit-index l.literals));
  rules : (rule : Rule) → CubeObeys rule l.literals → CubeObeys rule l.kept.items;
}
