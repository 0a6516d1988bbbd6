use Rattle.std.proofs.Common.{◌∙◌}
use Rattle.lois_reader.proofs.Places.{among}
use Rattle.lois_reader.proofs.parameters.Parameters.contains.Goals as goal

pub returns : goal.returns
returns c = record { exact = c.contains.ensures ∙ among c.args.word.now c.self.inside.words.keys c.args.self.now (c.self.invariant ∙ c.self.view_is) }
