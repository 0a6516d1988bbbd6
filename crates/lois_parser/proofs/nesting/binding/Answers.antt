use Rattle.std.proofs.Common.{sym, subst}
use Rattle.lois_script.specs.View.{binding_tree}
use Rattle.lois_parser.specs.Ahead.{ahead}
use Rattle.lois_descent.specs.Descent.{expr_of, expr_here}
use Rattle.lois_descent.specs.Reading.{ResultIs}
use Rattle.lois_parser.proofs.InnerForms.{expr_of_is, binding_is}
use Rattle.lois_parser.proofs.nesting.binding.Goals as goal

pub returns-clause-read : goal.returns-clause-read
returns-clause-read c =
    subst (ResultIs (λ x. (binding_tree x.0, ahead x.1)) c.binding.result) (sym (binding_is (expr_of c.args.depth_left) (expr_here c.args.depth_left) (expr_of_is c.args.depth_left) (ahead c.args.at))) c.binding.ensures.read
