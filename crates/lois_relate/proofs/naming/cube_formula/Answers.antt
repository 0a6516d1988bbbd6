use Rattle.std.proofs.Common.{◌+◌, Bool, sym, subst, drop, length, arith}
use Rattle.lois_base.specs.Fits.{CubeFits}
use Rattle.lois_base.specs.FormulaView.{view}
use Rattle.lois_base.specs.Validity.{AdmitsCube}
use Rattle.lois_relate.specs.Named.{atoms_named}
use Rattle.lois_base.proofs.FormulaViews.{view_Lit}
use Rattle.lois_base.proofs.Viewed.{rest_at}
use Rattle.lois_relate.proofs.Loops.{all_go_on, all_end}
use Rattle.lois_relate.proofs.Steps.{literal_says, literals_split, no_literals}
use Rattle.lois_relate.proofs.naming.cube_formula.Goals as goal

pub loop-lit-preserved : goal.loop-lit-preserved
loop-lit-preserved c = λ n below.
    let names = c.args.names.now in
    let items = c.as_slice-lit-items.result.now in
    let i = c.loop-lit.lit-index in
    let fits : CubeFits (length names) items = subst (CubeFits (length names)) (sym c.as_slice-lit-items.ensures) c.requires in
    let admits : (o : Bool) → AdmitsCube o c.args.cube.now → AdmitsCube o items = λ o. subst (AdmitsCube o) (sym c.as_slice-lit-items.ensures) in
    all_go_on n _ _ _ _ _ _ (view c.loop-lit.met) _ (view c.in_ok-met.met) (c.loop-lit.invariant n below) (λ d. literals_split (atoms_named names d) (drop i items) (drop (i + 1) items) _ (rest_at items i _ c.loop-lit-test.true)) (literal_says names _ c.named_literal.result _ (view_Lit c.named_literal.result) c.named_literal.ensures (fits i _ c.loop-lit-test.true) n below) (λ o h. admits o h i _ c.loop-lit-test.true) c.in_ok-met.ensures

pub returns : goal.returns
returns c = λ n below. all_end n _ _ _ (view c.loop-lit.met) (λ d. no_literals (atoms_named c.args.names.now d) c.as_slice-lit-items.result.now c.loop-lit.lit-index (omega arith)) (c.loop-lit.invariant n below)
