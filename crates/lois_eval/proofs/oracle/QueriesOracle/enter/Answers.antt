use Rattle.std.proofs.Common.{inl, inr, refl}
use Rattle.lois_deciders.specs.Reached.{at_once, after}
use Rattle.lois_eval.proofs.oracle.QueriesOracle.enter.Goals as goal

pub returns-clause-asked : goal.returns-clause-asked
returns-clause-asked g c = (
  after c.args.self.now.decider.now c.enter.new.arg2 c.enter.new.arg2
      (inr (inl (record { asked = c.args.self.now.enter; before = _; after = _; memory = c.args.alloc; context = c.args.context; elements = c.args.elements; name = c.args.name; answer = c.enter.result; call = c.enter.ensures; from = refl; to = refl })))
      (at_once c.enter.new.arg2),
  refl,
)
