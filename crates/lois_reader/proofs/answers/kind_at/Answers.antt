use Rattle.lois_reader.specs.AnswerValues.{kinds_at, all_kinds}
use Rattle.lois_reader.proofs.Forms.{kinds_go_on}
use Rattle.lois_reader.proofs.answers.kind_at.Goals as goal

pub loop-kind-preserved : goal.loop-kind-preserved
loop-kind-preserved c = kinds_go_on c.in_default.field-0 all_kinds c.loop-kind.kind-index _ c.args.bytes.now (kinds_at all_kinds c.args.bytes.now) c.loop-kind-test.true (rw c.text.ensures.exact at c.in_default.ensures.end) c.in_default.ensures.sure c.loop-kind.invariant
