use Rattle.lois_script.specs.View.{stmts_list}
use Rattle.lois_interp.specs.Failed.{FailsBehind}
use Rattle.lois_interp.proofs.SplitElements.{split_from}
use Rattle.lois_interp.proofs.interpreting.run_body.Goals as goal

pub returns-in-Err-clause-fault : goal.returns-in-Err-clause-fault
returns-in-Err-clause-fault g c =
    split_from c.in-Err.stop c.split_stop.result (FailsBehind g.T.Structure.ordered (stmts_list c.args.body.now) c.args.opening) c.in-Err.ensures.first c.split_stop.ensures
