use Rattle.std.proofs.Common.{◌+◌, arith}
use Rattle.lois_constraint.proofs.Shifting.{fits_more, shift_fits}
use Rattle.lois_vectors_atoms.proofs.constraint.raised.Goals as goal

pub shift-requires : goal.shift-requires
shift-requires c =
    fits_more (3 + 5) _ _ (omega arith) (shift_fits 3 1 5 c.args.c.now (c.fits.ensures.0 c.if-fits.true))
