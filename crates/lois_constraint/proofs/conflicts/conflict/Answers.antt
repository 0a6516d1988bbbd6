use Rattle.lois_constraint.proofs.Tightened.{none_exactly, some_met}
use Rattle.lois_constraint.proofs.conflicts.conflict.Goals as goal

pub returns-clause-unmet : goal.returns-clause-unmet
returns-clause-unmet c =
    none_exactly c.args.cube.now c.in_ok-tight.tight c.is_none.result c.in_ok-tight.ensures.truth c.in_ok-tight.ensures.met c.is_none.ensures

pub returns-clause-met : goal.returns-clause-met
returns-clause-met c =
    some_met c.args.cube.now c.in_ok-tight.tight c.is_none.result c.in_ok-tight.ensures.truth c.in_ok-tight.ensures.met c.is_none.ensures
