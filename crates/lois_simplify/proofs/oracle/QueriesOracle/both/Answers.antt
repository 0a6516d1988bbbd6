use Rattle.std.proofs.Common.{inl, inr, refl}
use Rattle.lois_deciders.specs.Reached.{at_once, after}
use Rattle.lois_simplify.proofs.oracle.QueriesOracle.both.Goals as goal

pub returns-clause-asked : goal.returns-clause-asked
returns-clause-asked g c = (
  after c.args.self.now.decider.now c.both.new.arg2 c.both.new.arg2
      (inr (inl (record { asked = c.args.self.now.both; before = _; after = _; memory = c.args.alloc; left = c.args.a; right = c.args.b; size = c.args.size; answer = c.both.result; call = c.both.ensures; from = refl; to = refl })))
      (at_once c.both.new.arg2),
  refl,
)
