use Rattle.std.proofs.Common.{arith, sym, ◌∙◌}
use Rattle.std.proofs.lemmas.Result.{err_from_is_err_and}
use Rattle.std.specs.Prelude.{codes}
use Rattle.lois_reader.specs.Reading.{◌>>=◌, begins}
use Rattle.lois_reader.specs.Ends.{fixed_end, many_end, more_parts_end, term_end}
use Rattle.lois_reader.proofs.Loops.{starts, many_ends, comma_halts}
use Rattle.lois_reader.proofs.term_ends.+term_ends.Goals as goal

pub more_parts_end-loop-rest-init : goal.more_parts_end-loop-rest-init
unfolding more_parts_end
more_parts_end-loop-rest-init t c = record {
  end = starts (many_end (begins 44) (λ q. fixed_end (codes ", ") q >>= term_end c.args.brackets)) c.args.bytes.now;
  shorter = omega arith;
}

pub more_parts_end-returns-in_err-fixed_end-clause-end : goal.more_parts_end-returns-in_err-fixed_end-clause-end
more_parts_end-returns-in_err-fixed_end-clause-end t c =
    let p = err_from_is_err_and c.from_residual.result c.from_residual.ensures.1 in
    rw (p.1, p.2) (comma_halts c.in_err-fixed_end.field-0.0 c.args.brackets c.loop-rest.rest.now (more_parts_end (term_end c.args.brackets) c.args.bytes.now) (sym c.begins.ensures ∙ c.loop-rest-test.true) c.in_err-fixed_end.ensures.end c.loop-rest.invariant.end)

pub more_parts_end-returns-clause-end : goal.more_parts_end-returns-clause-end
more_parts_end-returns-clause-end t c =
    many_ends (begins 44) (λ q. fixed_end (codes ", ") q >>= term_end c.args.brackets) c.loop-rest.rest.now (more_parts_end (term_end c.args.brackets) c.args.bytes.now) (sym c.begins.ensures ∙ c.loop-rest-test.false) c.loop-rest.invariant.end
