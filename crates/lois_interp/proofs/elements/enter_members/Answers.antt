use Rattle.lois_base.specs.Tree.{tree as term_tree}
use Rattle.lois_script.specs.View.{tree}
use Rattle.lois_interp.proofs.EnteredMembers.{entered_all}
use Rattle.lois_interp.proofs.elements.enter_members.Goals as goal

pub returns-clause-entered : goal.returns-clause-entered
returns-clause-entered g c =
    let D = c.in_ok-elements.ensures in
    entered_all (tree c.args.e.now) c.args.name.now c.args.context.now (term_tree c.in_ok-elements.elements) c.in_ok-enter_loop.field-0.items c.requires.new_name D.value D.set D.brackets D.operators D.widths c.in_ok-enter_loop.ensures.entered
