use Rattle.std.proofs.Common.{arith}
use Rattle.lois_registers.proofs.Loops.{stored_next}
use Rattle.lois_registers.proofs.placements.stored.Goals as goal

pub loop-level-preserved : goal.loop-level-preserved
loop-level-preserved c = record {
  counted = omega arith;
  rest = stored_next c.args.stores.now c.args.letter c.args.contents.now c.loop-level.after.items c.push.new.self.items _ c.loop-level.level-index c.loop-level.register _ c.content_after-new.result (omega arith) c.content_after-new.ensures c.in_ok-push.ensures.items c.loop-level.invariant.rest;
}
