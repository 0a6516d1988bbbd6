use Rattle.std.proofs.Common.{arith}
use Rattle.lois_constraint.proofs.Shifting.{lit_fits_at}
use Rattle.lois_constraint.proofs.levels.shifted_cube.Goals as goal

pub shifted_lit-requires : goal.shifted_lit-requires
shifted_lit-requires c =
    lit_fits_at _ c.args.from c.args.by c.args.cube.now c.as_slice-lit-items.result.now c.loop-lit.lit-index _ c.as_slice-lit-items.ensures c.requires (omega arith)
