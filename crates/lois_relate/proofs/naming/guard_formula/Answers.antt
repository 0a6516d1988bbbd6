use Rattle.std.proofs.Common.{◌+◌, Bool, sym, subst, drop, length, arith}
use Rattle.lois_base.specs.Fits.{ConstraintFits, CubeFits}
use Rattle.lois_base.specs.FormulaView.{view}
use Rattle.lois_base.specs.Validity.{AdmitsConstraint, AdmitsCube}
use Rattle.lois_relate.specs.Named.{atoms_named}
use Rattle.lois_base.proofs.Viewed.{rest_is}
use Rattle.lois_relate.proofs.Loops.{any_go_on, any_end}
use Rattle.lois_relate.proofs.Steps.{cubes_split, no_cubes}
use Rattle.lois_relate.proofs.naming.guard_formula.Goals as goal

pub cube_formula-requires : goal.cube_formula-requires
cube_formula-requires c =
    let names = c.args.names.now in
    let items = c.as_slice-cube-items.result.now in
    let fits : ConstraintFits (length names) items = subst (ConstraintFits (length names)) (sym c.as_slice-cube-items.ensures) c.requires in
    subst (CubeFits (length names)) (sym c.cube-item.is) (fits c.loop-cube.cube-index c.cube-item.result c.loop-cube-test.true)

pub loop-cube-preserved : goal.loop-cube-preserved
loop-cube-preserved c = λ n below.
    let names = c.args.names.now in
    let items = c.as_slice-cube-items.result.now in
    let i = c.loop-cube.cube-index in
    let admits : (o : Bool) → AdmitsConstraint o c.args.guard.now → AdmitsConstraint o items = λ o. subst (AdmitsConstraint o) (sym c.as_slice-cube-items.ensures) in
    any_go_on n _ _ _ _ _ _ (view c.loop-cube.found) (view c.in_ok-one.one) (view c.in_ok-found.found) (c.loop-cube.invariant n below) (λ d. cubes_split (atoms_named names d) (drop i items) (drop (i + 1) items) c.cube-item.result (rest_is items i c.cube-item.result c.loop-cube-test.true c.cube-item.is)) (c.in_ok-one.ensures n below) (λ o h. subst (AdmitsCube o) (sym c.cube-item.is) (admits o h i c.cube-item.result c.loop-cube-test.true)) c.in_ok-found.ensures

pub returns : goal.returns
returns c = λ n below. any_end n _ _ _ (view c.loop-cube.found) (λ d. no_cubes (atoms_named c.args.names.now d) c.as_slice-cube-items.result.now c.loop-cube.cube-index (omega arith)) (c.loop-cube.invariant n below)
