use Rattle.std.proofs.Common.{◌∙◌}
use Rattle.lois_command.proofs.PlainWords.{mapped_plain}
use Rattle.lois_command.proofs.names.are_plain.Goals as goal

pub returns : goal.returns
returns c = c.are_all_plain.ensures ∙ mapped_plain c.args.words.now
