use Rattle.std.proofs.Common.{sym, subst}
use Rattle.lois_script.specs.View.{tree, cond_tree}
use Rattle.lois_parser.specs.Ahead.{ahead}
use Rattle.lois_descent.specs.Reading.{ResultIs}
use Rattle.lois_parser.proofs.InnerForms.{expr_of_is, cond_of_is}
use Rattle.lois_parser.proofs.nesting.+forms.Goals as goal

pub expression-returns-clause-read : goal.expression-returns-clause-read
expression-returns-clause-read t c = subst (ResultIs (λ x. (tree x.0, ahead x.1)) c.expression.result) (sym (expr_of_is c.args.depth_left (ahead c.args.at))) c.expression.ensures.read

pub condition-returns-clause-read : goal.condition-returns-clause-read
condition-returns-clause-read t c = subst (ResultIs (λ x. (cond_tree x.0, ahead x.1)) c.condition.result) (sym (cond_of_is c.args.depth_left (ahead c.args.at))) c.condition.ensures.read
