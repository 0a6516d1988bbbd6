use Rattle.std.proofs.Common.{◌≡◌, List, refl, sym, ◌∙◌, subst}
use Rattle.std.proofs.lemmas.List.Folds.{map_fixed}
use Rattle.std.proofs.lemmas.Iterator.Adapters.{YieldsList-from_vec}
use Rattle.std.proofs.lemmas.Iterator.Consumers.{YieldsList-end}
use Rattle.lois_base.specs.Fits.{CubeFits, ConstraintFits}
use Rattle.lois_base.specs.Truth.{cube_holds, holds}
use Rattle.lois_base.specs.Validity.{AdmitsCube, AdmitsConstraint}
use Rattle.lois_base.specs.declared.guards.Lit.{Lit}
use Rattle.lois_base.proofs.Lists.{all_before, all_last}
use Rattle.lois_census.specs.Left.{IsLeftOf}
use Rattle.lois_census.proofs.Parting.{left_then, last_cube}
use Rattle.lois_census.proofs.cells.without_cube.Goals as goal

pub loop-cube-preserved : goal.loop-cube-preserved
loop-cube-preserved c =
    let other : List Lit = c.args.other.now in
    let x : List Lit = c.in-Some.cube in
    let xs : List (List Lit) = c.loop-cube.yielded in
    let left = c.loop-cube.left in
    let after = c.push_left.new.cubes in
    let before = c.loop-cube.invariant in
    record {
      left = λ e. subst (λ b. IsLeftOf (cube_holds e other) b (holds e after)) (sym (last_cube e xs x)) (left_then (cube_holds e other) (holds e xs) (holds e left) (cube_holds e x) (holds e after) (before.left e) (c.in_ok-push_left.ensures.left e));
      gone = c.in_ok-push_left.ensures.gone before.gone;
      fits = λ n h k. c.in_ok-push_left.ensures.fits n (before.fits n (all_before (CubeFits n) xs x h) k) (all_last (CubeFits n) xs x h) k;
      operators = λ o h k. c.in_ok-push_left.ensures.operators o (before.operators o (all_before (AdmitsCube o) xs x h) k) (all_last (AdmitsCube o) xs x h) k;
    }

pub returns-clause-left : goal.returns-clause-left
returns-clause-left c =
    let all = YieldsList-end (YieldsList-from_vec c.into_vec-cube-items.result.items (cc) (cc)) c.loop-cube.yielded c.loop-cube.cube-iterator c.loop-cube.yielded_by c.next.result c.next.new.self c.in-None.is c.next.ensures.steps in
    let whole : c.loop-cube.yielded ≡ c.args.constraint = sym (map_fixed (λ (x : List Lit). x) c.loop-cube.yielded (λ i d l. refl)) ∙ (all.0 ∙ c.into_vec-cube-items.ensures) in
    λ e. subst (λ (g : List (List Lit)). IsLeftOf (cube_holds e c.args.other.now) (holds e g) (holds e c.loop-cube.left)) whole (c.loop-cube.invariant.left e)

pub returns-clause-fits : goal.returns-clause-fits
returns-clause-fits c =
    let all = YieldsList-end (YieldsList-from_vec c.into_vec-cube-items.result.items (cc) (cc)) c.loop-cube.yielded c.loop-cube.cube-iterator c.loop-cube.yielded_by c.next.result c.next.new.self c.in-None.is c.next.ensures.steps in
    let whole : c.loop-cube.yielded ≡ c.args.constraint = sym (map_fixed (λ (x : List Lit). x) c.loop-cube.yielded (λ i d l. refl)) ∙ (all.0 ∙ c.into_vec-cube-items.ensures) in
    λ n h k. c.loop-cube.invariant.fits n (subst (ConstraintFits n) (sym whole) h) k

pub returns-clause-operators : goal.returns-clause-operators
returns-clause-operators c =
    let all = YieldsList-end (YieldsList-from_vec c.into_vec-cube-items.result.items (cc) (cc)) c.loop-cube.yielded c.loop-cube.cube-iterator c.loop-cube.yielded_by c.next.result c.next.new.self c.in-None.is c.next.ensures.steps in
    let whole : c.loop-cube.yielded ≡ c.args.constraint = sym (map_fixed (λ (x : List Lit). x) c.loop-cube.yielded (λ i d l. refl)) ∙ (all.0 ∙ c.into_vec-cube-items.ensures) in
    λ o h k. c.loop-cube.invariant.operators o (subst (AdmitsConstraint o) (sym whole) h) k
