use Rattle.std.proofs.Common.{◌≡◌, ◌<◌, List, [], ◌∷◌, ◌++◌, length, take, refl, ◌+◌, sym, ap, ◌∙◌, subst, arith}
use Rattle.std.specs.List.{All}
use Rattle.std.proofs.lemmas.Grind.{common_steps}
use Rattle.std.proofs.lemmas.List.Elements.{All-push}
use Rattle.lois_base.specs.Atom.{Atom}
use Rattle.lois_base.specs.Truth.{cube_holds, holds}
use Rattle.lois_base.specs.declared.guards.Lit.{Lit}
use Rattle.lois_constraint.specs.Entailment.{CubeIsSatisfiable, IsPruned}
use Rattle.lois_constraint.specs.Normalised.{IsNormalCube}
use Rattle.lois_constraint.specs.Rules.{CubeObeys, ConstraintObeys}
use Rattle.lois_constraint.proofs.Pruned.{ApartFrom, read_holds, read_pruned, read_apart}
use Rattle.lois_constraint.proofs.Uses.{item_obeys}
use Rattle.lois_constraint.proofs.normal.normal_cubes.Goals as goal

pub normal_cube-requires : goal.normal_cube-requires
normal_cube-requires c =
    let whole : IsPruned c.as_slice-cube-items.result.now = subst IsPruned (sym c.as_slice-cube-items.ensures) c.requires in
    subst CubeIsSatisfiable (sym c.cube-item.is) (whole.met c.loop-cube.cube-index c.cube-item.result c.loop-cube-test.true)

pub loop-cube-preserved : goal.loop-cube-preserved
loop-cube-preserved c =
    let xs : List (List Lit) = c.as_slice-cube-items.result.now in
    let g : List (List Lit) = c.loop-cube.cubes.items in
    let i = c.loop-cube.cube-index in
    let x : List Lit = c.cube-item.result in
    let y : List Lit = c.in_ok-normal_cube.field-0 in
    let inside : i < length xs = c.loop-cube-test.true in
    let whole : IsPruned xs = subst IsPruned (sym c.as_slice-cube-items.ensures) c.requires in
    let same : (e : List Atom) → cube_holds e y ≡ cube_holds e x = c.in_ok-normal_cube.ensures.truth in
    let is : c.push.new.self.items ≡ g ++ y ∷ [] = c.in_ok-push.ensures.items in
    let before = c.loop-cube.invariant in
    record {
      truth = λ e. ap (holds e) is ∙ read_holds g xs x y i inside c.cube-item.is same e (before.truth e);
      normal = subst (All IsNormalCube) (sym is) (All-push IsNormalCube g y before.normal c.in_ok-normal_cube.ensures.normal);
      pruned = subst IsPruned (sym is) (read_pruned g xs x y i inside c.cube-item.is same whole before.later before.pruned);
      later = subst (ApartFrom xs (i + 1)) (sym is) (read_apart g xs x y i inside c.cube-item.is same whole before.later);
      rules = λ rule h. subst (ConstraintObeys rule) (sym is) (All-push (CubeObeys rule) g y (before.rules rule h) (c.in_ok-normal_cube.ensures.rules rule (item_obeys rule xs xs i x refl inside c.cube-item.is h)));
    }

pub returns-clause-truth : goal.returns-clause-truth
returns-clause-truth c =
    let all : take c.loop-cube.cube-index c.as_slice-cube-items.result.now ≡ c.args.pruned.now = grind (arith, common_steps) in
    λ e. c.loop-cube.invariant.truth e ∙ ap (holds e) all
