use Rattle.std.proofs.Common.{ap, ◌∙◌}
use Rattle.lois_script.specs.View.{cond_tree, stmts_of, stmts_list}
use Rattle.lois_script.specs.Lists.{stmt_tree}
use Rattle.lois_script.proofs.Views.{stmt_If}
use Rattle.lois_vectors_statements.proofs.blocks.if_side.Goals as goal

pub returns-in-If : goal.returns-in-If
returns-in-If c = (cond_tree c.in-If._condition, stmts_of (stmts_list c.in-If._other), ap stmt_tree c.in-If.is ∙ stmt_If c.in-If._condition c.in-If.side c.in-If._other)
