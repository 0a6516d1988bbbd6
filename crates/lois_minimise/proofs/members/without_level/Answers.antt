use Rattle.lois_minimise.proofs.Ties.{unused_level}
use Rattle.lois_minimise.proofs.members.without_level.Goals as goal

pub returns-then-fits-clause-truth : goal.returns-then-fits-clause-truth
returns-then-fits-clause-truth g c = unused_level c.args.size c.args.c (c.fits.ensures.0 c.if-fits.true)
