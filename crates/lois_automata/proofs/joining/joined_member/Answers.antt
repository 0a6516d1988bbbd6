use Rattle.lois_base.specs.Fits.{ConstraintFits}
use Rattle.std.proofs.Common.{subst}
use Rattle.lois_automata.proofs.Members.{joined_is}
use Rattle.lois_automata.proofs.joining.joined_member.Goals as goal

pub returns-clause-member : goal.returns-clause-member
returns-clause-member c = joined_is c.args.member.now c.args.other.now c.in_ok-or.field-0 c.in_ok-or.ensures.cubes c.in_ok-or.ensures.truth

pub returns-clause-fits : goal.returns-clause-fits
returns-clause-fits c =
    let n = c.args.member.now.0 in
    let other : ConstraintFits n c.args.other.now.1 = subst (λ z. ConstraintFits z c.args.other.now.1) c.requires.sizes c.requires.other_fits in
    c.in_ok-or.ensures.fits n c.requires.fits other
