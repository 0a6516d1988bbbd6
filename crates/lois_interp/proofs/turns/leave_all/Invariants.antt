use Rattle.lois_script.specs.View.{cond_tree}
use Rattle.lois_interp.specs.Reached.{RunsFrom}
use Rattle.lois_interp.specs.Run.{leave_run}
use Rattle.lois_interp.proofs.turns.leave_all.Given as goal

abbrev pub invariant-loop-context : goal.invariant-loop-context
invariant-loop-context g l = record {
  runs : RunsFrom (leave_run l.pos.offset (cond_tree l.condition)) l.yielded l.left.items;
  asked : g.S.Oracle.reaches l.fn.steps l.steps;
}
