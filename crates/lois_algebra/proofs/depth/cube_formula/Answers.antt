use Rattle.std.proofs.Common.{◌+◌, Bool, sym, subst, drop, arith}
use Rattle.lois_base.specs.Fits.{CubeFits}
use Rattle.lois_base.specs.FormulaView.{view}
use Rattle.lois_base.specs.Validity.{AdmitsCube}
use Rattle.lois_base.proofs.FormulaViews.{view_Lit}
use Rattle.lois_base.proofs.Viewed.{rest_at}
use Rattle.lois_relate.proofs.Loops.{all_go_on, all_end}
use Rattle.lois_relate.proofs.Steps.{literals_split, no_literals}
use Rattle.lois_algebra.proofs.Deep.{literal_says}
use Rattle.lois_algebra.proofs.depth.cube_formula.Goals as goal

pub loop-lit-preserved : goal.loop-lit-preserved
loop-lit-preserved c = λ n within.
    let items = c.as_slice-lit-items.result.now in
    let i = c.loop-lit.lit-index in
    let fits : CubeFits n items = subst (CubeFits n) (sym c.as_slice-lit-items.ensures) within in
    let admits : (o : Bool) → AdmitsCube o c.args.cube.now → AdmitsCube o items = λ o. subst (AdmitsCube o) (sym c.as_slice-lit-items.ensures) in
    all_go_on n _ _ _ _ _ _ (view c.loop-lit.met) _ (view c.in_ok-met.met) (c.loop-lit.invariant n within) (λ d. literals_split d (drop i items) (drop (i + 1) items) _ (rest_at items i _ c.loop-lit-test.true)) (literal_says n _ _ (view_Lit _) (fits i _ c.loop-lit-test.true)) (λ o h. admits o h i _ c.loop-lit-test.true) c.in_ok-met.ensures

pub returns : goal.returns
returns c = λ n within. all_end n _ _ _ (view c.loop-lit.met) (λ d. no_literals d c.as_slice-lit-items.result.now c.loop-lit.lit-index (omega arith)) (c.loop-lit.invariant n within)
