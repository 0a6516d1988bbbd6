use Rattle.std.proofs.Common.{◌∙◌}
use Rattle.lois_reader.proofs.Places.{place}
use Rattle.lois_reader.proofs.parameters.Parameters.place.Goals as goal

pub returns : goal.returns
returns c = record { exact = c.get_index_of.ensures.index ∙ place c.args.word.now c.self.inside.words.keys c.args.self.now (c.self.invariant ∙ c.self.view_is) }
