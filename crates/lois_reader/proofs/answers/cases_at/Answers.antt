use Rattle.std.proofs.Common.{sym, ◌∙◌, arith}
use Rattle.lois_answers.specs.CaseView.{case_of}
use Rattle.lois_reader.specs.Reading.{begins}
use Rattle.lois_reader.specs.AnswerValues.{cases_at, case_at}
use Rattle.lois_reader.proofs.Lists.{many_next}
use Rattle.lois_reader.proofs.answers.cases_at.Goals as goal

pub loop-alloc-preserved : goal.loop-alloc-preserved
loop-alloc-preserved c = record {
  cases = rw c.in_ok-push.ensures.appended (many_next (begins 99) (case_at c.args.scope.now) c.loop-alloc.cases c.loop-alloc.rest.now (case_of c.in_ok-case.case) c.in_ok-case.after.now (cases_at c.args.scope.now c.args.bytes.now) (sym c.begins.ensures ∙ c.loop-alloc-test.true) c.in_ok-case.ensures.case c.in_ok-case.ensures.shorter c.loop-alloc.invariant.cases);
  shorter = omega (arith, c.in_ok-case.ensures.shorter);
}
