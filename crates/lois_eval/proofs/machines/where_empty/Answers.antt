use Rattle.lois_base.specs.Tree.{tree}
use Rattle.lois_eval.proofs.Emptiness.{emptiness_of}
use Rattle.lois_eval.proofs.machines.where_empty.Goals as goal

pub returns-clause-emptiness : goal.returns-clause-emptiness
returns-clause-emptiness g c =
    let h = c.in_ok-empty.ensures in
    record {
      truth = emptiness_of c.args.context.now (tree c.args.automaton.now) c.in_ok-empty.field-0 h.empty h.accepts;
      levels = h.levels;
      operators = λ o context admits. h.operators o admits context.«when»;
    }
