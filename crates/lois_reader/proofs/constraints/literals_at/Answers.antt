use Rattle.std.proofs.Common.{sym, ◌∙◌, arith}
use Rattle.std.specs.Prelude.{codes}
use Rattle.std.proofs.lemmas.Result.{err_from_is_err_and}
use Rattle.lois_reader.specs.Values.{literals_at, literal_at, follows}
use Rattle.lois_reader.proofs.Lists.{list_next, list_last, item_halts, between_halts}
use Rattle.lois_reader.proofs.constraints.literals_at.Goals as goal

pub returns-in_err-literal-clause-cube : goal.returns-in_err-literal-clause-cube
returns-in_err-literal-clause-cube c =
    let p = err_from_is_err_and c.from_residual.result c.from_residual.ensures.1 in
    rw (p.1, p.2) (item_halts (follows 97) (codes " and ") (literal_at c.args.scope.now c.args.levels) c.in_err-literal.field-0.0 c.loop-cube.cube c.loop-cube.rest.now (literals_at c.args.scope.now c.args.levels c.args.bytes.now) c.in_err-literal.ensures.literal c.loop-cube.invariant.cube)

pub returns-in_err-rest-clause-cube : goal.returns-in_err-rest-clause-cube
returns-in_err-rest-clause-cube c =
    let p = err_from_is_err_and c.from_residual-in_err-rest.result c.from_residual-in_err-rest.ensures.1 in
    rw (p.1, p.2) (between_halts (follows 97) (codes " and ") (literal_at c.args.scope.now c.args.levels) c.in_err-rest.field-0.0 c.loop-cube.cube c.loop-cube.rest.now c.in_ok-literal.literal c.in_ok-literal.after.now (literals_at c.args.scope.now c.args.levels c.args.bytes.now) c.in_ok-literal.ensures.literal (sym c.follows.ensures ∙ c.if-not-follows.false) c.in_err-rest.ensures.end c.loop-cube.invariant.cube)

pub returns-then-not-follows-clause-cube : goal.returns-then-not-follows-clause-cube
returns-then-not-follows-clause-cube c = rw c.in_ok-push.ensures.ok (list_last (follows 97) (codes " and ") (literal_at c.args.scope.now c.args.levels) c.loop-cube.cube c.loop-cube.rest.now c.in_ok-literal.literal c.in_ok-literal.after.now (literals_at c.args.scope.now c.args.levels c.args.bytes.now) c.in_ok-literal.ensures.literal (sym c.follows.ensures ∙ c.if-not-follows.true) c.loop-cube.invariant.cube)

pub loop-cube-preserved : goal.loop-cube-preserved
loop-cube-preserved c = record {
  cube = rw c.in_ok-push.ensures.ok (list_next (follows 97) (codes " and ") (literal_at c.args.scope.now c.args.levels) c.loop-cube.cube c.loop-cube.rest.now c.in_ok-literal.literal c.in_ok-literal.after.now c.in_ok-rest.rest.now (literals_at c.args.scope.now c.args.levels c.args.bytes.now) c.in_ok-literal.ensures.literal (sym c.follows.ensures ∙ c.if-not-follows.false) c.in_ok-rest.ensures.end (omega (arith, c.in_ok-literal.ensures.shorter, c.in_ok-rest.ensures.shorter)) c.loop-cube.invariant.cube);
  shorter = omega (arith, c.in_ok-literal.ensures.shorter, c.in_ok-rest.ensures.shorter);
}
