use Rattle.std.proofs.Common.{sym, ◌∙◌}
use Rattle.lois_same.proofs.TextEnds.{end_further}
use Rattle.lois_same.proofs.two_texts.first_length.Goals as goal

pub loop-i-preserved : goal.loop-i-preserved
loop-i-preserved c = end_further c.args.text.now c.loop-i.i c.loop-i-test.true (sym c.starts_with.ensures.value ∙ c.if-starts_with.false) c.loop-i.invariant
