use Rattle.std.proofs.Common.{arith}
use Rattle.lois_answers.specs.LineView.{line_of}
use Rattle.lois_answers.proofs.LastNamed.{named_more}
use Rattle.lois_answers.proofs.results.Lines.last_named.Goals as goal
use Rattle.lois_answers.proofs.results.Lines.last_named.Goals.{then-eq, else-eq}

pub loop-line-preserved : goal.loop-line-preserved
loop-line-preserved c =
    let more = named_more line_of c.args.name.now c.deref-line-items.result.now c.loop-line.line-index c.line-item.result c.loop-line-test.true c.line-item.is in
    let inv = c.loop-line.invariant in
    let eq = c.eq.ensures in
    elim c.if-eq.branch [ then-eq w ↦ grind (arith, more, inv, eq, w.if-eq, w.found-is) | else-eq w ↦ grind (arith, more, inv, eq, w.if-eq, w.found-is) ]
