use Rattle.std.proofs.Common.{Some, map, string_bytes, Global, sym, ap, ◌∙◌, refl}
use Rattle.std.proofs.lemmas.Result.{IfOk-weaker}
use Rattle.lois_base.specs.declared.limits.TheConstants.{LONGEST_TEXT}
use Rattle.lois_run.specs.Words.{asks_decider}
use Rattle.lois_run.proofs.Numbers.{made_limits}
use Rattle.lois_command.proofs.Given.{gave_nothing, whatever_error}
use Rattle.lois_run.proofs.TextsOfOutcomes.{has_decider, has_its_decider, lacks_decider, lacks_its_decider, usage_is_told}
use Rattle.lois_run.proofs.top.outcome.Goals as goal

pub returns-in_err-command-clause-no_memory : goal.returns-in_err-command-clause-no_memory
returns-in_err-command-clause-no_memory g c =
    whatever_error g.S.Source.left g.S.Source.takes LONGEST_TEXT LONGEST_TEXT c.args.source.now c.args.source.now c.from_residual.result
    (gave_nothing g.S.Source.left g.S.Source.takes LONGEST_TEXT LONGEST_TEXT c.args.source.now)

pub returns-then-lacks_decider-clause-outcome : goal.returns-then-lacks_decider-clause-outcome
returns-then-lacks_decider-clause-outcome g c =
    let command = c.in-Some.command in
    let choice = rw c.wanted_kind.ensures at c.choose-chosen.ensures.none in
    let lacks = lacks_its_decider (asks_decider command) c.choose-chosen.result (sym c.lacks_decider.ensures ∙ c.if-lacks_decider.true) in
    usage_is_told _ _ g.S.Source.left g.S.Source.faults g.S.Source.takes c.args.source.now c.args.source.now
    (lacks_decider _ command c.choose-chosen.result choice (map (string_bytes {Z = Global}) c.args.words.now) (sym c.in_ok-command.ensures ∙ c.in-Some.is) lacks.0 lacks.1) refl

pub served-requires-clause-number : goal.served-requires-clause-number
served-requires-clause-number g c = λ n kind is. made_limits (map (string_bytes {Z = Global}) c.args.words.now) n kind (sym c.in_ok-command.ensures ∙ (c.in-Some.is ∙ ap Some is))

pub served-requires-clause-decider : goal.served-requires-clause-decider
served-requires-clause-decider g c =
    has_its_decider (asks_decider c.in-Some.command) c.choose-chosen.result (sym c.lacks_decider.ensures ∙ c.if-lacks_decider.false)

pub returns-clause-outcome : goal.returns-clause-outcome
returns-clause-outcome g c =
    let command = c.in-Some.command in
    let choice = rw c.wanted_kind.ensures at c.choose-chosen.ensures.none in
    let some = has_its_decider (asks_decider command) c.choose-chosen.result (sym c.lacks_decider.ensures ∙ c.if-lacks_decider.false) in
    IfOk-weaker c.served.result _ _ (λ o told. told _ _ (sym c.in_ok-command.ensures ∙ c.in-Some.is) (has_decider _ command c.choose-chosen.result choice some)) c.served.ensures.outcome

pub returns-clause-source_untouched : goal.returns-clause-source_untouched
returns-clause-source_untouched g c = λ usage.
    let command = c.in-Some.command in
    let choice = rw c.wanted_kind.ensures at c.choose-chosen.ensures.none in
    let some = has_its_decider (asks_decider command) c.choose-chosen.result (sym c.lacks_decider.ensures ∙ c.if-lacks_decider.false) in
    absurd (has_decider _ command c.choose-chosen.result choice some (usage command (sym c.in_ok-command.ensures ∙ c.in-Some.is)))
