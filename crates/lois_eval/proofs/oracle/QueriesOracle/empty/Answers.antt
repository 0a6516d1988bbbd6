use Rattle.std.proofs.Common.{inr, refl}
use Rattle.lois_deciders.specs.Reached.{at_once, after}
use Rattle.lois_eval.proofs.oracle.QueriesOracle.empty.Goals as goal

pub returns-clause-asked : goal.returns-clause-asked
returns-clause-asked g c = (
  after c.args.self.now.decider.now c.empty.new.arg2 c.empty.new.arg2
      (inr (inr (inr (inr (record { asked = c.args.self.now.empty; before = _; after = _; memory = c.args.alloc; operand = c.args.operand; automaton = c.args.automaton; context = c.args.context; answer = c.empty.result; call = c.empty.ensures; from = refl; to = refl })))))
      (at_once c.empty.new.arg2),
  refl,
)
