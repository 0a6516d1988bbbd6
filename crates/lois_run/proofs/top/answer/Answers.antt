use Rattle.std.proofs.Common.{true≢false, sym, ap, ◌∙◌}
use Rattle.std.proofs.lemmas.Result.{IfOk-weaker}
use Rattle.lois_deciders.proofs.Oracle.{none_is}
use Rattle.lois_run.specs.TextAnswers.{AnswersText}
use Rattle.lois_run.specs.Words.{asks_decider}
use Rattle.lois_run.proofs.top.answer.Goals as goal

pub unreachable-requires : goal.unreachable-requires
unreachable-requires g c =
    true≢false (sym (c.requires.decider (ap asks_decider c.in-Run.is)) ∙ none_is c.args.chosen c.in-None.is)

pub returns-in-Some-clause-answer : goal.returns-in-Some-clause-answer
returns-in-Some-clause-answer g c =
    rw c.in-Run.is (IfOk-weaker c.run_text.result _ (AnswersText _ c.args.text.now) (λ o answers. answers _) c.run_text.ensures.answer)
