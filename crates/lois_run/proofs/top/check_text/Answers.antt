use Rattle.lois_run.proofs.Answered.{refused_is_checked, checked_is_answered}
use Rattle.lois_run.proofs.top.check_text.Goals as goal

pub returns-in-Script-clause-answer : goal.returns-in-Script-clause-answer
returns-in-Script-clause-answer c =
    let read = rw c.in-Script.is at c.in_ok-scoped.ensures in
    checked_is_answered c.args.text.now c.in-Script.scoped c.into_script.result read c.into_script.ensures.same

pub returns-in-Refused-clause-answer : goal.returns-in-Refused-clause-answer
returns-in-Refused-clause-answer c =
    let read = rw c.in-Refused.is at c.in_ok-scoped.ensures in
    refused_is_checked c.args.text.now c.in-Refused.refusal read
