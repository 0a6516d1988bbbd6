use Rattle.std.proofs.Common.{◌+◌, sym, subst}
use Rattle.lois_base.specs.Fits.{Fits}
use Rattle.lois_base.specs.Tree.{tree}
use Rattle.lois_context.proofs.Joined.{moved_fits}
use Rattle.lois_context.proofs.joining.moved.Goals as goal

pub returns-clause-fits : goal.returns-clause-fits
returns-clause-fits c =
    let k = c.args.comp.now in
    let f = moved_fits c.args.size c.args.by k.binders c.args.when.now k.guard c.in_ok-meet.field-0 (tree k.item) c.requires.when c.requires.fits c.in_ok-meet.ensures.fits in
    (f.0, f.1, subst (λ z. Fits (c.args.size + (c.args.by + k.binders)) (tree z)) (sym c.in_ok-copy.ensures) f.2)
