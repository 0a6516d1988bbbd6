use Rattle.std.proofs.Common.{◌≤◌, length}
use Rattle.lois_script.specs.View.{cond_tree}
use Rattle.lois_script.specs.Lists.{conds_list}
use Rattle.lois_parser.specs.Ahead.{ahead}
use Rattle.lois_descent.specs.Descent.{begins_and, next, more_units, unit_here}
use Rattle.lois_parser.proofs.Gathering.{Gathers}
use Rattle.lois_parser.proofs.grammar.Grammar.more_units.Given as goal

abbrev pub invariant-loop-rest : goal.invariant-loop-rest
invariant-loop-rest g l = record {
  read : Gathers begins_and (next (unit_here l.self.depth_left)) (conds_list l.conditions) (ahead l.rest) (more_units (unit_here l.self.depth_left) (cond_tree l.fn.first) (ahead l.fn.at));
  shorter : length (ahead l.rest) ≤ length (ahead l.fn.at);
}

abbrev pub decreases-loop-rest : goal.decreases-loop-rest
decreases-loop-rest g l = length (ahead l.rest)
