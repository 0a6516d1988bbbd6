use Rattle.std.proofs.Common.{◌≤◌, length}
use Rattle.lois_script.specs.View.{params_list, param_tree}
use Rattle.lois_parser.specs.Ahead.{ahead}
use Rattle.lois_descent.specs.Descent.{begins, next, listed, name}
use Rattle.lois_descent.specs.declared.lexemes.Terminal.TheVariants as terminals
use Rattle.lois_parser.proofs.Gathering.{Gathers}
use Rattle.lois_parser.proofs.script.more_names.Given as goal

abbrev pub invariant-loop-alloc : goal.invariant-loop-alloc
invariant-loop-alloc l = record {
  read : Gathers (begins terminals.Comma) (next name) (params_list l.names) (ahead l.rest) (listed name (param_tree l.fn.first) (ahead l.fn.at));
  shorter : length (ahead l.rest) ≤ length (ahead l.fn.at);
}

abbrev pub decreases-loop-alloc : goal.decreases-loop-alloc
decreases-loop-alloc l = length (ahead l.rest)
