use Rattle.std.proofs.Common.{◌+◌, length, refl, subst, arith}
use Rattle.lois_base.specs.FormulaData.{lit}
use Rattle.lois_base.specs.FormulaView.{view}
use Rattle.lois_base.proofs.FormulaViews.{view_Lit}
use Rattle.lois_relate.specs.Built.{IsBoth}
use Rattle.lois_census.proofs.AlikeFormulas.{says_lit, beside_more}
use Rattle.lois_census.proofs.alike.alike_beside.Goals as goal

pub loop-i-preserved : goal.loop-i-preserved
loop-i-preserved g c =
    let s = c.args.sample.now in
    let n = c.args.from in
    let i = c.loop-i.i in
    let j = c.args.last in
    let l = c.related-literal.result in
    beside_more g.T.Structure.ordered n s j i (view c.loop-i.met) (lit l) (view c.in_ok-met.met) c.loop-i.invariant
    (says_lit g.T.Structure.ordered n (length s) s i j l (omega (arith, c.loop-i-test.true, c.requires.position)) c.requires.position refl c.related-literal.ensures.truth (c.related-literal.ensures.levels (n + length s) (omega (arith, c.loop-i-test.true, c.requires.position)) (omega (arith, c.requires.position))) c.related-literal.ensures.operators)
    (subst (λ z. IsBoth (view c.loop-i.met) z (view c.in_ok-met.met)) (view_Lit l) c.in_ok-met.ensures)
