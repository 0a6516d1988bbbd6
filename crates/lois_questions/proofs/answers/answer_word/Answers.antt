use Rattle.std.proofs.Common.{length}
use Rattle.lois_questions.proofs.AnswersWritten.{no_answer, word_is_written}
use Rattle.lois_questions.specs.declared.command_line.Question.TheVariants.{Word}
use Rattle.lois_questions.proofs.answers.answer_word.Goals as goal

pub returns-in-NotResults-clause-answer : goal.returns-in-NotResults-clause-answer
returns-in-NotResults-clause-answer g c =
    let read = rw c.in-NotResults.is at c.in_ok-results.ensures in
    no_answer (Word c.args.name.now) c.args.text.now c.in-NotResults.place read

pub returns-clause-written : goal.returns-clause-written
returns-clause-written g c =
    let r = c.in-Results.results in
    word_is_written (length r.parameters) c.args.name.now r c.in_ok-witness.witness r.order c.word_outcome.result c.in_ok-witness.ensures.witness c.in_ok-witness.ensures.usual c.word_outcome.ensures
