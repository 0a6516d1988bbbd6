use Rattle.std.proofs.Common.{ap, ap₂, ◌∙◌}
use Rattle.std.proofs.lemmas.Result.{IfOk-weaker}
use Rattle.clap.specs.Words.{App, app_of, with_subcommand}
use Rattle.lois_run.proofs.words.with_answer_commands.Goals as goal

pub returns : goal.returns
returns c =
    let first_is = c.in_ok-subcommand.ensures.shape c.new.ensures.local ∙ ap (with_subcommand (app_of c.args.program)) (ap (λ (a : App). a.top) c.new.ensures.app) in
    let second_is = c.in_ok-subcommand-2.ensures.shape c.in_ok-equal_command.ensures.local ∙ ap₂ with_subcommand first_is (ap (λ (a : App). a.top) c.in_ok-equal_command.ensures.shape) in
    let third_is = c.in_ok-subcommand-3.ensures.shape c.new-2.ensures.local ∙ ap₂ with_subcommand second_is (ap (λ (a : App). a.top) c.new-2.ensures.app) in
    IfOk-weaker c.subcommand-4.result _ _ (λ r h. h.shape c.in_ok-census_command.ensures.local ∙ ap₂ with_subcommand third_is (ap (λ (a : App). a.top) c.in_ok-census_command.ensures.shape)) c.subcommand-4.ensures
