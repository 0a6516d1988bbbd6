use Rattle.std.proofs.Common.{arith}
use Rattle.lois_relate.proofs.Names.{entered_more}
use Rattle.lois_relate.proofs.naming.extend_names.Goals as goal

pub loop-level-preserved : goal.loop-level-preserved
loop-level-preserved c =
    (omega arith, entered_more c.args.names.now c.loop-level.longer.items c.push.new.self.items c.args.size c.loop-level.level c.loop-level.invariant.0 c.loop-level.invariant.1 c.in_ok-push.ensures.items)
