use Rattle.std.proofs.Common.{inl, inr, refl}
use Rattle.lois_deciders.specs.Reached.{at_once, after}
use Rattle.lois_eval.proofs.oracle.QueriesOracle.keep.Goals as goal

pub returns-clause-asked : goal.returns-clause-asked
returns-clause-asked g c = (
  after c.args.self.now.decider.now c.keep.new.arg2 c.keep.new.arg2
      (inr (inr (inl (record { asked = c.args.self.now.keep; before = _; after = _; memory = c.args.alloc; context = c.args.context; condition = c.args.condition; answer = c.keep.result; call = c.keep.ensures; from = refl; to = refl }))))
      (at_once c.keep.new.arg2),
  refl,
)
