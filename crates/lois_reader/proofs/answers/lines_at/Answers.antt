use Rattle.std.proofs.Common.{sym, ◌∙◌, arith}
use Rattle.std.proofs.lemmas.Result.{err_from_is_err_and}
use Rattle.lois_answers.specs.LineView.{line_of}
use Rattle.lois_reader.specs.AnswerValues.{lines_at, line_at, line_follows}
use Rattle.lois_reader.proofs.Lists.{many_next, many_halts}
use Rattle.lois_reader.proofs.answers.lines_at.Goals as goal

pub returns-in_err-line : goal.returns-in_err-line
returns-in_err-line c =
    let p = err_from_is_err_and c.from_residual.result c.from_residual.ensures.1 in
    record { shorter = rw p.1 tt; lines = rw (p.1, p.2) (many_halts line_follows (line_at c.args.scope.now c.args.levels) c.in_err-line.field-0.0 c.loop-alloc.lines c.loop-alloc.rest.now (lines_at c.args.scope.now c.args.levels c.args.bytes.now) (sym c.line_follows.ensures ∙ c.loop-alloc-test.true) c.in_err-line.ensures.line c.loop-alloc.invariant.lines) }

pub loop-alloc-preserved : goal.loop-alloc-preserved
loop-alloc-preserved c = record {
  lines = rw c.in_ok-push.ensures.appended (many_next line_follows (line_at c.args.scope.now c.args.levels) c.loop-alloc.lines c.loop-alloc.rest.now (line_of c.in_ok-line.line) c.in_ok-line.after.now (lines_at c.args.scope.now c.args.levels c.args.bytes.now) (sym c.line_follows.ensures ∙ c.loop-alloc-test.true) c.in_ok-line.ensures.line c.in_ok-line.ensures.shorter c.loop-alloc.invariant.lines);
  shorter = omega (arith, c.in_ok-line.ensures.shorter);
}
