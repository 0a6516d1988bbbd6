use Rattle.std.proofs.Common.{arith}
use Rattle.lois_base.specs.FormulaView.{view}
use Rattle.lois_census.proofs.AlikeFormulas.{below_more_of, says_alike}
use Rattle.lois_census.proofs.alike.alike.Goals as goal

pub loop-last-preserved : goal.loop-last-preserved
loop-last-preserved g c =
    below_more_of g.T.Structure.ordered c.args.from c.args.sample.now c.loop-last.last (view c.loop-last.met) (view c.in_ok-beside.beside) (view c.in_ok-met.met) c.loop-last.invariant c.in_ok-beside.ensures c.in_ok-met.ensures

pub returns : goal.returns
returns g c =
    says_alike g.T.Structure.ordered c.args.from c.args.sample.now c.loop-last.last (view c.loop-last.met) (omega arith) c.loop-last.invariant
