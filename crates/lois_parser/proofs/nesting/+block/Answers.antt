use Rattle.std.proofs.Common.{sym, subst}
use Rattle.lois_script.specs.View.{stmts_list}
use Rattle.lois_parser.specs.Ahead.{ahead}
use Rattle.lois_descent.specs.Reading.{ResultIs}
use Rattle.lois_parser.proofs.InnerForms.{block_of_is}
use Rattle.lois_parser.proofs.nesting.+block.Goals as goal

pub returns-clause-read : goal.returns-clause-read
returns-clause-read t c = subst (ResultIs (λ x. (stmts_list x.0, ahead x.1)) c.statements.result) (sym (block_of_is c.args.depth_left (ahead c.args.at))) c.statements.ensures.read
