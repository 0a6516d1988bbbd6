use Rattle.std.proofs.Common.{sym, subst}
use Rattle.lois_base.specs.Fits.{ConstraintFits}
use Rattle.lois_base.specs.Tree.{tree}
use Rattle.lois_automata.proofs.Members.{fresh_is}
use Rattle.lois_automata.proofs.joining.fresh_member.Goals as goal

pub returns-clause-member : goal.returns-clause-member
returns-clause-member g c =
    let comp = c.args.comp.now in
    fresh_is c.args.size comp.binders c.args.under.now comp.guard (tree comp.item) (tree c.args.t.now) c.args.member.now c.in_ok-found.found c.in_ok-and_not.field-0 c.in_ok-found.ensures.truth c.in_ok-and_not.ensures.truth c.in_ok-and_not.ensures.pruned

pub returns-clause-fits : goal.returns-clause-fits
returns-clause-fits g c =
    let n = c.args.member.now.0 in
    let found : ConstraintFits n c.in_ok-found.found = subst (λ z. ConstraintFits z c.in_ok-found.found) (sym c.requires.over) c.in_ok-found.ensures.fits in
    c.in_ok-and_not.ensures.fits n found c.requires.fits
