use Rattle.std.proofs.Common.{◌≡◌, suc, length, sym, ◌∙◌, arith}
use Rattle.std.proofs.lemmas.Grind.{common_steps}
use Rattle.lois_reader.specs.TermValues.{levels_from}
use Rattle.lois_reader.proofs.Lists.{levels_follow_next}
use Rattle.lois_reader.proofs.terms.levels_from.Goals as goal

pub loop-rest-preserved : goal.loop-rest-preserved
loop-rest-preserved c =
    let next : c.in_ok-next.next ≡ suc c.loop-rest.level = grind (arith, common_steps) in
    record {
      end = levels_follow_next c.loop-rest.level c.in_ok-next.next c.loop-rest.rest.now c.in_ok-fixed_end.field-0.now c.in_ok-rest.rest.now (levels_from (suc (length c.args.bytes.now)) c.args.first c.args.bytes.now) next (sym c.follows.ensures ∙ c.loop-rest-test.true) c.in_ok-fixed_end.ensures.end c.in_ok-rest.ensures.end (omega (arith, c.in_ok-fixed_end.ensures.shorter, c.in_ok-rest.ensures.shorter)) c.loop-rest.invariant.end;
      shorter = omega (arith, c.in_ok-fixed_end.ensures.shorter, c.in_ok-rest.ensures.shorter);
    }
