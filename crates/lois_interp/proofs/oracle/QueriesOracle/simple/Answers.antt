use Rattle.std.proofs.Common.{inl, inr, refl}
use Rattle.lois_deciders.specs.Reached.{at_once, after}
use Rattle.lois_interp.proofs.oracle.QueriesOracle.simple.Goals as goal

pub returns-clause-asked : goal.returns-clause-asked
returns-clause-asked g c = (
  after c.args.self.now.decider.now c.simple.new.arg2 c.simple.new.arg2
      (inr (inr (inl (record { asked = c.args.self.now.simple; before = _; after = _; memory = c.args.alloc; statement = c.args.stmt; context = c.args.context; answer = c.simple.result; call = c.simple.ensures; from = refl; to = refl }))))
      (at_once c.simple.new.arg2),
  refl,
)
