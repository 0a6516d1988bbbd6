use Rattle.std.proofs.Common.{ap, ◌∙◌}
use Rattle.lois_script.specs.View.{tree}
use Rattle.lois_script.specs.Lists.{stmt_tree}
use Rattle.lois_script.proofs.Views.{stmt_Let}
use Rattle.lois_vectors_statements.proofs.blocks.let_name.Goals as goal

pub returns-in-Let : goal.returns-in-Let
returns-in-Let c = (c.in-Let._pos.offset, tree c.in-Let._given, ap stmt_tree c.in-Let.is ∙ stmt_Let c.in-Let._pos c.in-Let.name c.in-Let._given)
