use Rattle.lois_questions.proofs.AnswersWritten.{no_answer, picture_is_written}
use Rattle.lois_questions.specs.declared.command_line.Question.TheVariants.{Picture}
use Rattle.lois_questions.proofs.answers.answer_picture.Goals as goal

pub returns-in-NotResults-clause-answer : goal.returns-in-NotResults-clause-answer
returns-in-NotResults-clause-answer g c =
    let read = rw c.in-NotResults.is at c.in_ok-results.ensures in
    no_answer (Picture c.args.name.now) c.args.text.now c.in-NotResults.place read

pub returns-clause-written : goal.returns-clause-written
returns-clause-written g c =
    picture_is_written c.in_ok-picture.picture c.picture_outcome.result c.in_ok-picture.ensures.text c.picture_outcome.ensures
