use Rattle.lois_simplify.proofs.Shortened.{shortened_alike, shortened_then}
use Rattle.lois_simplify.proofs.shortening.shortened.Goals as goal

pub loop-init : goal.loop-init
loop-init c =
    let e = c.in_ok-held.ensures in
    shortened_alike c.args.under.now c.args.c.now c.in_ok-held.held e.truth e.fits e.operators

pub loop-preserved : goal.loop-preserved
loop-preserved c =
    shortened_then c.args.under.now c.args.c.now c.loop.held c.in_ok-held-2.held c.loop.invariant c.in_ok-held-2.ensures
