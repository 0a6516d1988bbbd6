use Rattle.std.proofs.Common.{suc, length, sym, ◌∙◌, arith}
use Rattle.lois_reader.specs.TermValues.{level_count}
use Rattle.lois_reader.proofs.Lists.{levels_counted_next}
use Rattle.lois_reader.proofs.terms.level_count.Goals as goal

pub loop-rest-preserved : goal.loop-rest-preserved
loop-rest-preserved c = record {
  count = levels_counted_next c.loop-rest.count c.loop-rest.rest.now c.in_ok-fixed_end.field-0.now c.in_ok-rest.rest.now (level_count (suc (length c.args.bytes.now)) c.args.bytes.now) (sym c.follows.ensures ∙ c.loop-rest-test.true) c.in_ok-fixed_end.ensures.end c.in_ok-rest.ensures.end (omega (arith, c.in_ok-fixed_end.ensures.shorter, c.in_ok-rest.ensures.shorter)) c.loop-rest.invariant.count;
  room = omega (arith, c.in_ok-fixed_end.ensures.shorter, c.in_ok-rest.ensures.shorter);
}
