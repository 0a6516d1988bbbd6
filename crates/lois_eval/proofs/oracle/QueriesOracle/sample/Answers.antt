use Rattle.std.proofs.Common.{inl, refl}
use Rattle.lois_deciders.specs.Reached.{at_once, after}
use Rattle.lois_eval.proofs.oracle.QueriesOracle.sample.Goals as goal

pub returns-clause-asked : goal.returns-clause-asked
returns-clause-asked g c = (
  after c.args.self.now.decider.now c.sample.new.arg2 c.sample.new.arg2
      (inl (record { asked = c.args.self.now.sample; before = _; after = _; memory = c.args.alloc; left = c.args.a; right = c.args.b; size = c.args.size; answer = c.sample.result; call = c.sample.ensures; from = refl; to = refl }))
      (at_once c.sample.new.arg2),
  refl,
)
