use Rattle.std.proofs.Common.{◌+◌, Bool, sym, subst, drop, arith}
use Rattle.lois_base.specs.Fits.{ConstraintFits, CubeFits}
use Rattle.lois_base.specs.FormulaView.{view}
use Rattle.lois_base.specs.Validity.{AdmitsConstraint, AdmitsCube}
use Rattle.lois_base.proofs.Viewed.{rest_is}
use Rattle.lois_relate.proofs.Loops.{any_go_on, any_end}
use Rattle.lois_relate.proofs.Steps.{cubes_split, no_cubes}
use Rattle.lois_algebra.proofs.depth.constraint_formula.Goals as goal

pub loop-cube-preserved : goal.loop-cube-preserved
loop-cube-preserved c = λ n within.
    let items = c.as_slice-cube-items.result.now in
    let i = c.loop-cube.cube-index in
    let fits : ConstraintFits n items = subst (ConstraintFits n) (sym c.as_slice-cube-items.ensures) within in
    let admits : (o : Bool) → AdmitsConstraint o c.args.constraint.now → AdmitsConstraint o items = λ o. subst (AdmitsConstraint o) (sym c.as_slice-cube-items.ensures) in
    any_go_on n _ _ _ _ _ _ (view c.loop-cube.found) (view c.in_ok-one.one) (view c.in_ok-found.found) (c.loop-cube.invariant n within) (λ d. cubes_split d (drop i items) (drop (i + 1) items) c.cube-item.result (rest_is items i c.cube-item.result c.loop-cube-test.true c.cube-item.is)) (c.in_ok-one.ensures n (subst (CubeFits n) (sym c.cube-item.is) (fits i c.cube-item.result c.loop-cube-test.true))) (λ o h. subst (AdmitsCube o) (sym c.cube-item.is) (admits o h i c.cube-item.result c.loop-cube-test.true)) c.in_ok-found.ensures

pub returns : goal.returns
returns c = λ n within. any_end n _ _ _ (view c.loop-cube.found) (λ d. no_cubes d c.as_slice-cube-items.result.now c.loop-cube.cube-index (omega arith)) (c.loop-cube.invariant n within)
