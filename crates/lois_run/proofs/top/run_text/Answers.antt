use Rattle.lois_script.specs.View.{script_tree}
use Rattle.lois_run.proofs.Answered.{refused_is_run, run_answered}
use Rattle.lois_run.proofs.top.run_text.Goals as goal

pub returns-in-Script-clause-answer : goal.returns-in-Script-clause-answer
returns-in-Script-clause-answer g c =
    let read = rw c.in-Script.is at c.in_ok-scoped.ensures in
    run_answered c.args.text.now (script_tree c.in-Script.scoped) read.0 read.1 c.run.result c.run.ensures

pub returns-in-Refused-clause-answer : goal.returns-in-Refused-clause-answer
returns-in-Refused-clause-answer g c =
    let read = rw c.in-Refused.is at c.in_ok-scoped.ensures in
    refused_is_run c.args.text.now c.in-Refused.refusal read
