use Rattle.lois_deciders.specs.contracts.questions.QuestionPartialEq.TheImpl.{eq-value}
use Rattle.lois_deciders.proofs.Remembered.{kept_right, copy_answers, put_or_not, questions_same}
use Rattle.lois_deciders.proofs.memo.keep.Goals as goal

pub returns-in-Ok-clause-right : goal.returns-in-Ok-clause-right
returns-in-Ok-clause-right c =
    kept_right eq-value.it c.args.answers.now c.args.question c.in-Ok.copy (questions_same c.args.question) c.requires.kept (copy_answers c.args.question c.in-Ok.copy c.args.answer.now c.in-Ok.ensures c.requires.answer) c.put.new.self c.put.result c.put.ensures.entries c.put.ensures.err

pub returns-in-Ok-clause-entries : goal.returns-in-Ok-clause-entries
returns-in-Ok-clause-entries c =
    put_or_not c.args.question c.in-Ok.copy c.args.answer.now c.args.answers.now c.put.new.self c.in-Ok.ensures c.put.result c.put.ensures.entries c.put.ensures.err
