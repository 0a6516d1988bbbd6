use Rattle.std.proofs.Common.{◌≡◌, rules, true, ap, ◌∙◌}
use Rattle.clap.specs.Simple.{app_of_fields, on_top}
use Rattle.clap.specs.Words.{App}
use Rattle.clap.specs.declared.builder.command.Command.TheViews.{out-Command}
use Rattle.lois_questions.proofs.command_line.bare_program.Goals as goal

abbrev settings : App → App
settings = on_top (λ s. record s { no_binary_name = true; disable_help_flag = true; disable_help_subcommand = true; subcommand_required = true })

pub returns : goal.returns
returns c =
    let fields : out-Command c.subcommand_required.result ≡ record (out-Command c.new.result) { no_binary_name = true; disable_help_flag = true; disable_help_subcommand = true; subcommand_required = true } = search rules in
    ap app_of_fields fields ∙ ap settings c.new.ensures.app
