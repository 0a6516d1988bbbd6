use Rattle.std.proofs.Common.{ap, ◌∙◌}
use Rattle.lois_base.specs.Tree.{tree as term_tree}
use Rattle.lois_script.specs.Tree.{var}
use Rattle.lois_script.specs.View.{tree}
use Rattle.lois_script.proofs.Views.{tree_Var}
use Rattle.lois_eval.proofs.Nodes.{held_made, made_as}
use Rattle.lois_eval.proofs.forms.held_by.Goals as goal

pub returns-clause-term : goal.returns-clause-term
returns-clause-term g c =
    let k = c.args.context.now in
    let p = c.in-Var.field-0 in
    let x = c.in-Var.name in
    let t = term_tree c.in_ok-share_named-in-Var.field-0 in
    made_as k (tree c.args.e.now) (var p.offset x) t (ap tree c.in-Var.is ∙ tree_Var p x) (held_made k p.offset x t c.in_ok-share_named-in-Var.ensures)
