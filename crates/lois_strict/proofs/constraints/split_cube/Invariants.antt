use Rattle.std.proofs.Common.{◌≡◌, true, ◌&&◌, List, take, filter}
use Rattle.lois_base.specs.Atom.{Atom}
use Rattle.lois_base.specs.Truth.{cube_holds, holds}
use Rattle.lois_base.specs.Validity.{is_strict, IsStrictConstraint}
use Rattle.lois_constraint.specs.Rules.{Rule, CubeObeys, ConstraintObeys}
use Rattle.lois_strict.proofs.constraints.split_cube.Given as goal

abbrev pub invariant-loop-lit : goal.invariant-loop-lit
invariant-loop-lit l = record {
  there : (e : List Atom) → cube_holds e l.cube ≡ true → holds e l.parts ≡ true;
  back : (e : List Atom) → holds e l.parts ≡ true → (cube_holds e (filter (λ q. is_strict q.op) l.cube) && cube_holds e (take l.lit-index l.lit-items)) ≡ true;
  strict : IsStrictConstraint l.parts;
  rules : (rule : Rule) → CubeObeys rule l.cube → ConstraintObeys rule l.parts;
}
