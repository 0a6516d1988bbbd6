use Rattle.std.proofs.Common.{inl, inr, refl}
use Rattle.lois_deciders.specs.Reached.{at_once, after}
use Rattle.lois_interp.proofs.oracle.QueriesOracle.sides.Goals as goal

pub returns-clause-asked : goal.returns-clause-asked
returns-clause-asked g c = (
  after c.args.self.now.decider.now c.sides.new.arg2 c.sides.new.arg2
      (inr (inl (record { asked = c.args.self.now.sides; before = _; after = _; memory = c.args.alloc; condition = c.args.condition; context = c.args.context; answer = c.sides.result; call = c.sides.ensures; from = refl; to = refl })))
      (at_once c.sides.new.arg2),
  refl,
)
