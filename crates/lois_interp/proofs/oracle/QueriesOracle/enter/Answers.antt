use Rattle.std.proofs.Common.{inl, refl}
use Rattle.lois_deciders.specs.Reached.{at_once, after}
use Rattle.lois_interp.proofs.oracle.QueriesOracle.enter.Goals as goal

pub returns-clause-asked : goal.returns-clause-asked
returns-clause-asked g c = (
  after c.args.self.now.decider.now c.enter.new.arg2 c.enter.new.arg2
      (inl (record { asked = c.args.self.now.enter; before = _; after = _; memory = c.args.alloc; expression = c.args.elements; name = c.args.name; context = c.args.context; answer = c.enter.result; call = c.enter.ensures; from = refl; to = refl }))
      (at_once c.enter.new.arg2),
  refl,
)
