use Rattle.std.proofs.Common.{◌+◌, arith}
use Rattle.lois_base.specs.Fits.{ConstraintFits}
use Rattle.lois_base.specs.Tree.{tree}
use Rattle.lois_constraint.proofs.Shifting.{fits_more}
use Rattle.lois_automata.proofs.PairedComps.{are_beside}
use Rattle.lois_automata.proofs.pairing.pair_comps.Goals as goal

pub returns-clause-made : goal.returns-clause-made
returns-clause-made c =
    let one = c.args.one.now in
    let other = c.args.other.now in
    are_beside c.args.size one.binders other.binders one.guard other.guard c.in_ok-placed.placed.guard c.in_ok-meet.field-0 (tree one.item) (tree other.item) (tree c.in_ok-insert_levels.field-0) (tree c.in_ok-placed.placed.item)
    c.requires.first.1 c.in_ok-meet.ensures.truth c.in_ok-placed.ensures.guard c.in_ok-insert_levels.ensures.value c.in_ok-placed.ensures.item

pub returns-clause-guard_fits : goal.returns-clause-guard_fits
returns-clause-guard_fits c =
    let one = c.args.one.now in
    let other = c.args.other.now in
    let all = c.args.size + (one.binders + other.binders) in
    let mine : ConstraintFits all one.guard = fits_more (c.args.size + one.binders) all one.guard (omega arith) c.requires.first.1 in
    c.in_ok-meet.ensures.fits all mine (fits_more ((c.args.size + one.binders) + other.binders) all c.in_ok-placed.placed.guard (omega arith) c.in_ok-placed.ensures.guard_levels)
