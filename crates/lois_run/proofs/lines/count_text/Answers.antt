use Rattle.lois_run.proofs.LineAnswers.{no_census, census_is_written}
use Rattle.lois_run.proofs.lines.count_text.Goals as goal

pub returns-in-NotResults-clause-answer : goal.returns-in-NotResults-clause-answer
returns-in-NotResults-clause-answer g c =
    let read = rw c.in-NotResults.is at c.in_ok-results.ensures in
    no_census c.args.text.now c.args.name.now c.in-NotResults.place read

pub returns-clause-written : goal.returns-clause-written
returns-clause-written g c =
    let read = rw c.in-Results.is at c.in_ok-results.ensures in
    census_is_written c.in-Results.results read.0 c.args.name.now c.in_ok-answer.answer c.counted_outcome.result c.in_ok-answer.ensures.answer c.counted_outcome.ensures
