use Rattle.lois_base.specs.Tree.{tree as term_tree}
use Rattle.lois_answers.specs.declared.faults.FaultKind.TheVariants.{NotASet}
use Rattle.lois_script.specs.View.{tree}
use Rattle.lois_eval.specs.Throughout.{IsFaultOf}
use Rattle.lois_eval.specs.Checks.{IsFaultWith}
use Rattle.lois_interp.specs.Elements.{SetFails}
use Rattle.lois_interp.proofs.EnteredMembers.{no_set_fails, not_coll}
use Rattle.lois_eval.proofs.FaultsAt.{if_fault}
use Rattle.lois_interp.proofs.elements.elements_of.Goals as goal

pub returns-clause-fault : goal.returns-clause-fault
returns-clause-fault g c =
    let k = c.args.context.now in
    if_fault c.fault_under.result (IsFaultWith c.pos.result NotASet k.sample) (IsFaultOf g.T.Structure.ordered k (SetFails (tree c.args.e.now)))
    (λ f h. no_set_fails g.T.Structure.ordered (tree c.args.e.now) k c.pos.result (term_tree c.in_ok-term.term) f c.requires.operators c.in_ok-term.ensures.value (not_coll c.in_ok-term.term c.in_default.not-Coll) c.pos.ensures.first_token h) c.fault_under.ensures
