use Rattle.std.proofs.Common.{inl, inr, refl}
use Rattle.lois_deciders.specs.Reached.{at_once, after}
use Rattle.lois_eval.proofs.oracle.QueriesOracle.apply.Goals as goal

pub returns-clause-asked : goal.returns-clause-asked
returns-clause-asked g c = (
  after c.args.self.now.decider.now c.apply.new.arg2 c.apply.new.arg2
      (inr (inr (inr (inl (record { asked = c.args.self.now.apply; before = _; after = _; memory = c.args.alloc; operation = c.args.operation; operands = c.args.operands; values = c.args.values; context = c.args.context; answer = c.apply.result; call = c.apply.ensures; from = refl; to = refl })))))
      (at_once c.apply.new.arg2),
  refl,
)
