use Rattle.std.proofs.Common.{◌≤◌, length}
use Rattle.lois_script.specs.View.{binding_tree}
use Rattle.lois_script.specs.Lists.{bindings_list}
use Rattle.lois_parser.specs.Ahead.{ahead}
use Rattle.lois_descent.specs.Descent.{begins, next, listed, inner_expr, binding}
use Rattle.lois_descent.specs.declared.lexemes.Terminal.TheVariants as terminals
use Rattle.lois_parser.proofs.Gathering.{Gathers}
use Rattle.lois_parser.proofs.grammar.Grammar.more_bindings.Given as goal

abbrev pub invariant-loop-rest : goal.invariant-loop-rest
invariant-loop-rest g l = record {
  read : Gathers (begins terminals.Comma) (next (binding (inner_expr l.self.depth_left))) (bindings_list l.bindings) (ahead l.rest) (listed (binding (inner_expr l.self.depth_left)) (binding_tree l.fn.first) (ahead l.fn.at));
  shorter : length (ahead l.rest) ≤ length (ahead l.fn.at);
}

abbrev pub decreases-loop-rest : goal.decreases-loop-rest
decreases-loop-rest g l = length (ahead l.rest)
