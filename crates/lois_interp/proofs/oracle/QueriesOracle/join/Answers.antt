use Rattle.std.proofs.Common.{inr, refl}
use Rattle.lois_deciders.specs.Reached.{at_once, after}
use Rattle.lois_interp.proofs.oracle.QueriesOracle.join.Goals as goal

pub returns-clause-asked : goal.returns-clause-asked
returns-clause-asked g c = (
  after c.args.self.now.decider.now c.join.new.arg2 c.join.new.arg2
      (inr (inr (inr (record { asked = c.args.self.now.join; before = _; after = _; memory = c.args.alloc; context = c.args.before; ends = c.args.ends; answer = c.join.result; call = c.join.ensures; from = refl; to = refl }))))
      (at_once c.join.new.arg2),
  refl,
)
