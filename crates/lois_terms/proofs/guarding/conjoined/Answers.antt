use Rattle.std.proofs.Common.{arith}
use Rattle.lois_base.proofs.Both.{both_step}
use Rattle.lois_terms.proofs.guarding.conjoined.Goals as goal

pub loop-cube-preserved : goal.loop-cube-preserved
loop-cube-preserved c =
    both_step c.as_slice-cube-items.result.now c.args.b.now c.loop-cube.product _ c.loop-cube.cube-index c.cube-item.result c.loop-cube.invariant c.cube-item.is (omega arith) c.in_ok-add_each.ensures
