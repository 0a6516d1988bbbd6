use Rattle.std.proofs.Common.{◌≤◌, length, suc}
use Rattle.lois_script.specs.View.{stmts_list}
use Rattle.lois_parser.specs.Ahead.{ahead}
use Rattle.lois_descent.specs.Descent.{many, goes_on, statement, inner_block}
use Rattle.lois_parser.proofs.Gathering.{Gathers}
use Rattle.lois_parser.proofs.statements.Statements.while_open.Given as goal

abbrev pub invariant-loop-rest : goal.invariant-loop-rest
invariant-loop-rest g l = record {
  read : Gathers goes_on (statement l.self.depth_left (inner_block l.self.depth_left)) (stmts_list l.all) (ahead l.rest) (many goes_on (statement l.self.depth_left (inner_block l.self.depth_left)) (suc (length (ahead l.fn.at))) (ahead l.fn.at));
  shorter : length (ahead l.rest) ≤ length (ahead l.fn.at);
}

abbrev pub decreases-loop-rest : goal.decreases-loop-rest
decreases-loop-rest g l = length (ahead l.rest)
