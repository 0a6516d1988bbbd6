use Rattle.std.proofs.Common.{length, suc, not, sym, ap, ◌∙◌, arith}
use Rattle.std.proofs.lemmas.Result.{err_from_is_err_and}
use Rattle.lois_script.specs.View.{stmts_list}
use Rattle.lois_script.specs.Lists.{stmt_tree}
use Rattle.lois_parser.specs.Ahead.{ahead}
use Rattle.lois_descent.specs.Descent.{many, goes_on, statement, inner_block}
use Rattle.lois_parser.proofs.Gathering.{statements_start, many_next, many_last, many_halts}
use Rattle.lois_parser.proofs.statements.Statements.while_open.Goals as goal

pub loop-rest-init : goal.loop-rest-init
loop-rest-init g c = record {
  read = rw c.new-all.ensures.empty (statements_start (statement c.args.self.now.depth_left (inner_block c.args.self.now.depth_left)) (ahead c.args.at));
  shorter = omega arith;
}

pub returns-in_err-statement-clause-read : goal.returns-in_err-statement-clause-read
returns-in_err-statement-clause-read g c =
    let p = err_from_is_err_and c.from_residual.result c.from_residual.ensures.1 in
    rw (p.1, p.2) (many_halts goes_on (statement c.args.self.now.depth_left (inner_block c.args.self.now.depth_left)) c.in_err-statement.field-0.0 (stmts_list c.loop-rest.all) (ahead c.loop-rest.rest) (many goes_on (statement c.args.self.now.depth_left (inner_block c.args.self.now.depth_left)) (suc (length (ahead c.args.at))) (ahead c.args.at)) (ap not (sym c.begins.ensures ∙ c.loop-rest-test.true)) c.in_err-statement.ensures.read c.loop-rest.invariant.read)

pub loop-rest-preserved : goal.loop-rest-preserved
loop-rest-preserved g c = record {
  read = rw c.in_ok-push.ensures.appended (many_next goes_on (statement c.args.self.now.depth_left (inner_block c.args.self.now.depth_left)) (stmts_list c.loop-rest.all) (ahead c.loop-rest.rest) (stmt_tree c.in_ok-statement.statement) (ahead c.in_ok-statement.behind) (many goes_on (statement c.args.self.now.depth_left (inner_block c.args.self.now.depth_left)) (suc (length (ahead c.args.at))) (ahead c.args.at)) (ap not (sym c.begins.ensures ∙ c.loop-rest-test.true)) c.in_ok-statement.ensures.read c.in_ok-statement.ensures.shorter c.loop-rest.invariant.read);
  shorter = omega (arith, c.in_ok-statement.ensures.shorter, c.loop-rest.invariant.shorter);
}

pub returns-clause-read : goal.returns-clause-read
returns-clause-read g c = many_last goes_on (statement c.args.self.now.depth_left (inner_block c.args.self.now.depth_left)) (stmts_list c.loop-rest.all) (ahead c.loop-rest.rest) (many goes_on (statement c.args.self.now.depth_left (inner_block c.args.self.now.depth_left)) (suc (length (ahead c.args.at))) (ahead c.args.at)) (ap not (sym c.begins.ensures ∙ c.loop-rest-test.false)) c.loop-rest.invariant.read

pub returns-clause-shorter : goal.returns-clause-shorter
returns-clause-shorter g c = c.loop-rest.invariant.shorter
