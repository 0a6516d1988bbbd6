use Rattle.std.proofs.Common.{inr, refl}
use Rattle.lois_deciders.specs.Reached.{at_once, after}
use Rattle.lois_simplify.proofs.oracle.QueriesOracle.counterexample.Goals as goal

pub returns-clause-asked : goal.returns-clause-asked
returns-clause-asked g c = (
  after c.args.self.now.decider.now c.counterexample.new.arg2 c.counterexample.new.arg2
      (inr (inr (record { asked = c.args.self.now.counterexample; before = _; after = _; memory = c.args.alloc; left = c.args.c; right = c.args.d; size = c.args.size; answer = c.counterexample.result; call = c.counterexample.ensures; from = refl; to = refl })))
      (at_once c.counterexample.new.arg2),
  refl,
)
