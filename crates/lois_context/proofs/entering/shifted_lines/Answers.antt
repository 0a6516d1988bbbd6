use Rattle.lois_base.specs.Fits.{Fits}
use Rattle.lois_answers.specs.LineView.{line_of}
use Rattle.lois_base.proofs.Viewed.{item_has}
use Rattle.lois_context.proofs.entering.shifted_lines.Goals as goal

pub carried_term-requires-clause-fits : goal.carried_term-requires-clause-fits
carried_term-requires-clause-fits c =
    item_has line_of (λ l. Fits c.args.size l.term) c.as_slice-line-items.result.now c.args.lines.now c.loop-line.line-index c.line-item.result c.as_slice-line-items.ensures.items c.loop-line-test.true c.line-item.is c.requires.fits
