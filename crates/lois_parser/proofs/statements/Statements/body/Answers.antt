use Rattle.std.proofs.Common.{arith}
use Rattle.std.proofs.lemmas.Result.{err_from_is_err_and}
use Rattle.lois_script.specs.View.{stmts_list}
use Rattle.lois_script.specs.Lists.{stmt_tree}
use Rattle.lois_parser.specs.Ahead.{ahead}
use Rattle.lois_descent.specs.Descent.{is_some, statement, inner_block, outermost}
use Rattle.lois_parser.proofs.Gathering.{outermost_start, some_ahead, none_ahead, many_next, many_last, many_halts}
use Rattle.lois_parser.proofs.statements.Statements.body.Goals as goal

pub loop-rest-init : goal.loop-rest-init
loop-rest-init g c = record {
  read = rw c.new-all.ensures.empty (outermost_start c.args.self.now.depth_left (inner_block c.args.self.now.depth_left) (ahead c.args.at));
}

pub returns-in_err-statement : goal.returns-in_err-statement
returns-in_err-statement g c =
    let p = err_from_is_err_and c.from_residual.result c.from_residual.ensures.1 in
    record { read = rw (p.1, p.2) (many_halts is_some (statement c.args.self.now.depth_left (inner_block c.args.self.now.depth_left)) c.in_err-statement.field-0.0 (stmts_list c.loop-rest.all) (ahead c.loop-rest.rest) (outermost c.args.self.now.depth_left (inner_block c.args.self.now.depth_left) (ahead c.args.at)) (some_ahead (ahead c.loop-rest.rest) (omega (arith, c.len.ensures, c.loop-rest-test.true))) c.in_err-statement.ensures.read c.loop-rest.invariant.read) }

pub loop-rest-preserved : goal.loop-rest-preserved
loop-rest-preserved g c = record {
  read = rw c.in_ok-push.ensures.appended (many_next is_some (statement c.args.self.now.depth_left (inner_block c.args.self.now.depth_left)) (stmts_list c.loop-rest.all) (ahead c.loop-rest.rest) (stmt_tree c.in_ok-statement.statement) (ahead c.in_ok-statement.behind) (outermost c.args.self.now.depth_left (inner_block c.args.self.now.depth_left) (ahead c.args.at)) (some_ahead (ahead c.loop-rest.rest) (omega (arith, c.len.ensures, c.loop-rest-test.true))) c.in_ok-statement.ensures.read c.in_ok-statement.ensures.shorter c.loop-rest.invariant.read);
}

pub returns : goal.returns
returns g c = record { read = many_last is_some (statement c.args.self.now.depth_left (inner_block c.args.self.now.depth_left)) (stmts_list c.loop-rest.all) (ahead c.loop-rest.rest) (outermost c.args.self.now.depth_left (inner_block c.args.self.now.depth_left) (ahead c.args.at)) (none_ahead (ahead c.loop-rest.rest) (omega (arith, c.len.ensures, c.loop-rest-test.false))) c.loop-rest.invariant.read }
