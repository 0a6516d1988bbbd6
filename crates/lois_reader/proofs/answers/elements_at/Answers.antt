use Rattle.std.proofs.Common.{sym, ◌∙◌, arith}
use Rattle.lois_answers.specs.LineView.{line_of}
use Rattle.lois_reader.specs.Reading.{begins}
use Rattle.lois_reader.specs.AnswerValues.{elements_at, element_at}
use Rattle.lois_reader.proofs.Lists.{many_next}
use Rattle.lois_reader.proofs.answers.elements_at.Goals as goal

pub loop-alloc-preserved : goal.loop-alloc-preserved
loop-alloc-preserved c = record {
  elements = rw c.in_ok-push.ensures.appended (many_next (begins 102) (element_at c.args.scope.now c.args.levels) c.loop-alloc.elements c.loop-alloc.rest.now (line_of c.in_ok-element.element) c.in_ok-element.after.now (elements_at c.args.scope.now c.args.levels c.args.bytes.now) (sym c.begins.ensures ∙ c.loop-alloc-test.true) c.in_ok-element.ensures.element c.in_ok-element.ensures.shorter c.loop-alloc.invariant.elements);
  shorter = omega (arith, c.in_ok-element.ensures.shorter);
}
