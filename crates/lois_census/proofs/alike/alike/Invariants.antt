use Rattle.std.proofs.Common.{length}
use Rattle.lois_base.specs.FormulaView.{view}
use Rattle.lois_census.specs.Alike.{StandsBelow, SaysBehind}
use Rattle.lois_census.proofs.alike.alike.Given as goal

abbrev pub invariant-loop-last : goal.invariant-loop-last
invariant-loop-last g l =
    SaysBehind g.T.Structure.ordered l.from (length l.sample) (StandsBelow g.T.Structure.ordered l.sample l.last) (view l.met)
