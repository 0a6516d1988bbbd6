use Rattle.std.proofs.Common.{length}
use Rattle.lois_base.specs.FormulaView.{view}
use Rattle.lois_census.specs.Alike.{StandsBeside, SaysBehind}
use Rattle.lois_census.proofs.alike.alike_beside.Given as goal

abbrev pub invariant-loop-i : goal.invariant-loop-i
invariant-loop-i g l =
    SaysBehind g.T.Structure.ordered l.from (length l.sample) (StandsBeside g.T.Structure.ordered l.sample l.last l.i) (view l.met)
