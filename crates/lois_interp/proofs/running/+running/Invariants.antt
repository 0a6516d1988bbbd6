use Rattle.std.proofs.Common.{◌+◌, ◌*◌, map, take}
use Rattle.lois_script.specs.View.{cond_tree, stmts_of, stmts_list}
use Rattle.lois_script.specs.Lists.{stmt_tree}
use Rattle.lois_interp.specs.Looped.{LoopRuns}
use Rattle.lois_interp.specs.Reached.{RunsFrom, RunsAs}
use Rattle.lois_interp.specs.Run.{stmt_run, list_run, turn_run, leave_run}
use Rattle.lois_interp.specs.WellScoped.{TurnIsWellScoped}
use Rattle.lois_interp.specs.Turned.{Parts}
use Rattle.lois_interp.proofs.Sizes.{stmt_size, list_size}
use Rattle.lois_interp.proofs.WhileRuns.{HasTurned}
use Rattle.lois_interp.proofs.running.+running.Given as goal

abbrev pub invariant-run_each-loop-context : goal.invariant-run_each-loop-context
invariant-run_each-loop-context g l = record {
  can_next : (goal.iterator-run_each-loop-context g).can_next l.context-iterator;
  is_finite : (goal.iterator-run_each-loop-context g).is_finite l.context-iterator;
  runs : RunsFrom (stmt_run (stmt_tree l.stmt)) l.yielded l.next.items;
  asked : g.S.Oracle.reaches l.fn.steps l.steps;
}

abbrev pub invariant-run_inside-loop-context : goal.invariant-run_inside-loop-context
invariant-run_inside-loop-context g l = record {
  can_next : (goal.iterator-run_inside-loop-context g).can_next l.context-iterator;
  is_finite : (goal.iterator-run_inside-loop-context g).is_finite l.context-iterator;
  runs : LoopRuns (cond_tree l.guard) (stmts_of (stmts_list l.body)) l.yielded l.ends.items;
  asked : g.S.Oracle.reaches l.fn.steps l.steps;
}

abbrev pub invariant-run_turn-loop-context : goal.invariant-run_turn-loop-context
invariant-run_turn-loop-context g l = record {
  can_next : (goal.iterator-run_turn-loop-context g).can_next l.context-iterator;
  is_finite : (goal.iterator-run_turn-loop-context g).is_finite l.context-iterator;
  parts : Parts (leave_run 0 (cond_tree l.condition)) (turn_run (cond_tree l.condition) (stmts_of (stmts_list l.body))) (TurnIsWellScoped (cond_tree l.condition) (stmts_of (stmts_list l.body))) l.yielded l.left.items l.going.items;
  asked : g.S.Oracle.reaches l.fn.steps l.steps;
}

abbrev pub invariant-run_stmts-loop-stmt : goal.invariant-run_stmts-loop-stmt
invariant-run_stmts-loop-stmt g l = record {
  runs : RunsAs (list_run (map stmt_tree (take l.stmt-index l.stmt-items))) l.fn.context l.contexts.items;
  asked : g.S.Oracle.reaches l.fn.steps l.steps;
}

abbrev pub invariant-run_while-loop-turn : goal.invariant-run_while-loop-turn
invariant-run_while-loop-turn g l = record {
  turned : HasTurned l.pos.offset (cond_tree l.condition) l.turns (stmts_of (stmts_list l.body)) l.fn.context l._turn l.done.items l.going.items;
  asked : g.S.Oracle.reaches l.fn.steps l.steps;
}

-- each call goes into a part of the statement, or on to a function of a lower rank
abbrev pub decreases-run_each : goal.decreases-run_each
decreases-run_each g l = 8 * stmt_size (stmt_tree l.stmt.now) + 1

abbrev pub decreases-run_stmt : goal.decreases-run_stmt
decreases-run_stmt g l = 8 * stmt_size (stmt_tree l.stmt.now)

abbrev pub decreases-run_for : goal.decreases-run_for
decreases-run_for g l = 8 * list_size (stmts_of (stmts_list l.body.now)) + 7

abbrev pub decreases-run_inside : goal.decreases-run_inside
decreases-run_inside g l = 8 * list_size (stmts_of (stmts_list l.body.now)) + 5

abbrev pub decreases-run_member : goal.decreases-run_member
decreases-run_member g l = 8 * list_size (stmts_of (stmts_list l.body.now)) + 4

abbrev pub decreases-run_passing : goal.decreases-run_passing
decreases-run_passing g l = 8 * list_size (stmts_of (stmts_list l.body.now)) + 3

abbrev pub decreases-run_stmts : goal.decreases-run_stmts
decreases-run_stmts g l = 8 * list_size (stmts_of (stmts_list l.body.now)) + 2

abbrev pub decreases-run_if : goal.decreases-run_if
decreases-run_if g l = 8 * (list_size (stmts_of (stmts_list l.yes.now)) + list_size (stmts_of (stmts_list l.no.now))) + 7

abbrev pub decreases-run_side : goal.decreases-run_side
decreases-run_side g l = 8 * list_size (stmts_of (stmts_list l.body.now)) + 3

abbrev pub decreases-run_while : goal.decreases-run_while
decreases-run_while g l = 8 * list_size (stmts_of (stmts_list l.body.now)) + 7

abbrev pub decreases-run_turn : goal.decreases-run_turn
decreases-run_turn g l = 8 * list_size (stmts_of (stmts_list l.body.now)) + 4
