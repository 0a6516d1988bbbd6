use Rattle.std.proofs.Common.{suc, length, sym, ◌∙◌, arith}
use Rattle.std.proofs.lemmas.Result.{err_from_is_err_and}
use Rattle.lois_reader.specs.Ends.{term_end}
use Rattle.lois_reader.specs.TermValues.{part_count}
use Rattle.lois_reader.proofs.Lists.{parts_counted_begin, parts_counted_next, part_halts}
use Rattle.lois_reader.proofs.terms.part_count.Goals as goal

pub loop-rest-init : goal.loop-rest-init
loop-rest-init c = record {
  count = parts_counted_begin c.args.brackets c.args.bytes.now c.in_ok-rest.rest.now c.in_ok-rest.ensures.end c.in_ok-rest.ensures.shorter;
  room = omega (arith, c.in_ok-rest.ensures.shorter);
}

pub returns-in_err-rest-2 : goal.returns-in_err-rest-2
returns-in_err-rest-2 c =
    let p = err_from_is_err_and c.from_residual-in_err-rest-2.result c.from_residual-in_err-rest-2.ensures.1 in
    record { count = rw (p.1, p.2) (part_halts c.in_err-rest-2.field-0.0 c.args.brackets c.loop-rest.count c.loop-rest.rest.now c.in_ok-fixed_end.field-0.now (part_count (term_end c.args.brackets) (suc (length c.args.bytes.now)) c.args.bytes.now) (sym c.begins.ensures ∙ c.loop-rest-test.true) c.in_ok-fixed_end.ensures.end c.in_err-rest-2.ensures.end c.loop-rest.invariant.count) }

pub loop-rest-preserved : goal.loop-rest-preserved
loop-rest-preserved c = record {
  count = parts_counted_next c.args.brackets c.loop-rest.count c.loop-rest.rest.now c.in_ok-fixed_end.field-0.now c.in_ok-rest-2.rest.now (part_count (term_end c.args.brackets) (suc (length c.args.bytes.now)) c.args.bytes.now) (sym c.begins.ensures ∙ c.loop-rest-test.true) c.in_ok-fixed_end.ensures.end c.in_ok-rest-2.ensures.end (omega (arith, c.in_ok-fixed_end.ensures.shorter, c.in_ok-rest-2.ensures.shorter)) c.loop-rest.invariant.count;
  room = omega (arith, c.in_ok-fixed_end.ensures.shorter, c.in_ok-rest-2.ensures.shorter);
}
