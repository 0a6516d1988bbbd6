use Rattle.std.proofs.Common.{length}
use Rattle.lois_questions.proofs.AnswersWritten.{no_answer, within_is_written}
use Rattle.lois_questions.specs.declared.command_line.Question.TheVariants.{Within}
use Rattle.lois_questions.proofs.answers.answer_within.Goals as goal

pub returns-in-NotResults-clause-answer : goal.returns-in-NotResults-clause-answer
returns-in-NotResults-clause-answer g c =
    let read = rw c.in-NotResults.is at c.in_ok-results.ensures in
    no_answer (Within c.args.first.now c.args.second.now) c.args.text.now c.in-NotResults.place read

pub returns-clause-written : goal.returns-clause-written
returns-clause-written g c =
    let r = c.in-Results.results in
    within_is_written (length r.parameters) c.args.first.now c.args.second.now r c.in_ok-inclusion.inclusion r.order c.within_outcome.result c.in_ok-inclusion.ensures.inclusion c.in_ok-inclusion.ensures.usual c.within_outcome.ensures
