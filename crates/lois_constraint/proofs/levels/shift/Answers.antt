use Rattle.std.proofs.Common.{arith}
use Rattle.lois_constraint.proofs.Shifting.{cube_fits_at}
use Rattle.lois_constraint.proofs.levels.shift.Goals as goal

pub shifted_cube-requires : goal.shifted_cube-requires
shifted_cube-requires c =
    cube_fits_at _ c.args.from c.args.by c.args.c.now c.as_slice-cube-items.result.now c.loop-cube.cube-index c.cube-item.result c.as_slice-cube-items.ensures c.requires (omega arith) c.cube-item.is
