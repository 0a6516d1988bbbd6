use Rattle.std.proofs.Common.{sym, ◌∙◌, arith}
use Rattle.lois_reader.specs.Reading.{begins}
use Rattle.lois_reader.specs.AnswerValues.{numbers_at, number_of_choice_at}
use Rattle.lois_reader.proofs.Lists.{many_next}
use Rattle.lois_reader.proofs.answers.numbers_at.Goals as goal

pub loop-rest-preserved : goal.loop-rest-preserved
loop-rest-preserved c = record {
  numbers = rw c.in_ok-push.ensures.ok (many_next (begins 32) number_of_choice_at c.loop-rest.numbers c.loop-rest.rest.now c.in_ok-number.number c.in_ok-number.after.now (numbers_at c.args.bytes.now) (sym c.begins.ensures ∙ c.loop-rest-test.true) c.in_ok-number.ensures.number c.in_ok-number.ensures.shorter c.loop-rest.invariant.numbers);
  shorter = omega (arith, c.in_ok-number.ensures.shorter);
}
