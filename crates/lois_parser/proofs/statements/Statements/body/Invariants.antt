use Rattle.std.proofs.Common.{length}
use Rattle.lois_script.specs.View.{stmts_list}
use Rattle.lois_parser.specs.Ahead.{ahead}
use Rattle.lois_descent.specs.Descent.{is_some, statement, inner_block, outermost}
use Rattle.lois_parser.proofs.Gathering.{Gathers}
use Rattle.lois_parser.proofs.statements.Statements.body.Given as goal

abbrev pub invariant-loop-rest : goal.invariant-loop-rest
invariant-loop-rest g l = record {
  read : Gathers is_some (statement l.self.depth_left (inner_block l.self.depth_left)) (stmts_list l.all) (ahead l.rest) (outermost l.self.depth_left (inner_block l.self.depth_left) (ahead l.fn.at));
}

abbrev pub decreases-loop-rest : goal.decreases-loop-rest
decreases-loop-rest g l = length (ahead l.rest)
