use Rattle.std.proofs.Common.{length}
use Rattle.lois_run.proofs.LineAnswers.{no_comparison, comparison_is_written}
use Rattle.lois_run.proofs.lines.compare_text.Goals as goal

pub returns-in-NotResults-clause-answer : goal.returns-in-NotResults-clause-answer
returns-in-NotResults-clause-answer g c =
    let read = rw c.in-NotResults.is at c.in_ok-results.ensures in
    no_comparison c.args.text.now c.args.first.now c.args.second.now c.in-NotResults.place read

pub returns-clause-written : goal.returns-clause-written
returns-clause-written g c =
    let r = c.in-Results.results in
    comparison_is_written (length r.parameters) c.args.first.now c.args.second.now r c.in_ok-comparison.comparison r.order c.compared_outcome.result c.in_ok-comparison.ensures.comparison c.in_ok-comparison.ensures.usual c.compared_outcome.ensures
