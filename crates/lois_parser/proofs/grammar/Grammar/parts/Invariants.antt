use Rattle.std.proofs.Common.{◌≤◌, length}
use Rattle.lois_script.specs.View.{tree}
use Rattle.lois_script.specs.Lists.{exprs_list}
use Rattle.lois_parser.specs.Ahead.{ahead}
use Rattle.lois_descent.specs.Descent.{parts, inner_expr}
use Rattle.lois_parser.proofs.Gathering.{Parts}
use Rattle.lois_parser.proofs.grammar.Grammar.parts.Given as goal

abbrev pub invariant-loop-parts : goal.invariant-loop-parts
invariant-loop-parts g l = record {
  read : Parts (inner_expr l.self.depth_left) (exprs_list l.parts) (ahead l.rest) (parts (inner_expr l.self.depth_left) (tree l.fn.first) (ahead l.fn.at));
  shorter : length (ahead l.rest) ≤ length (ahead l.fn.at);
}

abbrev pub decreases-loop-parts : goal.decreases-loop-parts
decreases-loop-parts g l = length (ahead l.rest)
