use Rattle.std.proofs.Common.{arith}
use Rattle.lois_deciders.proofs.Staged.{one_cube_more}
use Rattle.lois_deciders.proofs.stages.without_level.Goals as goal

pub loop-cube-preserved : goal.loop-cube-preserved
loop-cube-preserved c = record {
  truth = one_cube_more c.args.level c.loop-cube.rest c.in_ok-rest.rest c.in_ok-without.without c.as_slice-cube-items.result.now c.loop-cube.cube-index c.cube-item.result (omega arith) c.cube-item.is c.in_ok-rest.ensures.truth c.in_ok-without.ensures.equivalent c.loop-cube.invariant.truth;
  levels = c.in_ok-rest.ensures.fits c.args.level c.loop-cube.invariant.levels c.in_ok-without.ensures.levels;
}
