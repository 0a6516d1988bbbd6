use Rattle.std.proofs.Common.{ap, ◌∙◌}
use Rattle.lois_base.specs.Tree.{tree as term_tree}
use Rattle.lois_script.specs.Tree.{atoms, var}
use Rattle.lois_script.specs.View.{tree}
use Rattle.lois_script.proofs.Views.{tree_Atoms, tree_Var}
use Rattle.lois_eval.proofs.Nodes.{atoms_made, held_made, made_as}
use Rattle.lois_eval.proofs.forms.simple.Goals as goal

pub returns-in_ok-atoms-in-Atoms-clause-term : goal.returns-in_ok-atoms-in-Atoms-clause-term
returns-in_ok-atoms-in-Atoms-clause-term g c =
    let k = c.args.context.now in
    let p = c.in-Atoms.field-0 in
    let t = term_tree c.in_ok-atoms-in-Atoms.field-0 in
    let h = c.in_ok-atoms-in-Atoms.ensures in
    made_as k (tree c.args.e.now) (atoms p.offset) t (ap tree c.in-Atoms.is ∙ tree_Atoms p) (atoms_made k p.offset t h.members h.set h.levels h.operators h.widths)

pub returns-in_ok-look_up-in-Var-clause-term : goal.returns-in_ok-look_up-in-Var-clause-term
returns-in_ok-look_up-in-Var-clause-term g c =
    let k = c.args.context.now in
    let p = c.in-Var.field-0 in
    let x = c.in-Var.name in
    let t = term_tree c.in_ok-look_up-in-Var.field-0 in
    made_as k (tree c.args.e.now) (var p.offset x) t (ap tree c.in-Var.is ∙ tree_Var p x) (held_made k p.offset x t c.in_ok-look_up-in-Var.ensures)
