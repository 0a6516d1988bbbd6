use Rattle.std.proofs.Common.{ap, ap₂, ◌∙◌}
use Rattle.std.proofs.lemmas.Result.{IfOk-weaker}
use Rattle.clap.specs.Words.{App, with_subcommand}
use Rattle.lois_questions.proofs.command_line.program.Goals as goal

pub returns : goal.returns
returns c =
    let word_is = c.in_ok-subcommand.ensures.shape c.in_ok-word_command.ensures.local ∙ ap₂ with_subcommand c.bare_program.ensures (ap (λ (a : App). a.top) c.in_ok-word_command.ensures.shape) in
    let within_is = c.in_ok-subcommand-2.ensures.shape c.in_ok-within_command.ensures.local ∙ ap₂ with_subcommand word_is (ap (λ (a : App). a.top) c.in_ok-within_command.ensures.shape) in
    let same_is = c.in_ok-subcommand-3.ensures.shape c.same_command.ensures.local ∙ ap₂ with_subcommand within_is (ap (λ (a : App). a.top) c.same_command.ensures.shape) in
    IfOk-weaker c.subcommand-4.result _ _ (λ r h. h.shape c.in_ok-picture_command.ensures.local ∙ ap₂ with_subcommand same_is (ap (λ (a : App). a.top) c.in_ok-picture_command.ensures.shape)) c.subcommand-4.ensures
