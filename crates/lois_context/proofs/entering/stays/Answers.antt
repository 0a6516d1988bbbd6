use Rattle.std.proofs.Common.{◌≡◌, ◌+◌, sym, subst, arith}
use Rattle.lois_base.specs.Shift.{shift}
use Rattle.lois_base.specs.Tree.{tree}
use Rattle.lois_terms.proofs.Unmoved.{unmoved, fits_later}
use Rattle.lois_context.proofs.Unshifted.{shift_none}
use Rattle.lois_context.proofs.entering.stays.Goals as goal

pub returns-then-by-eq0-clause-carried : goal.returns-then-by-eq0-clause-carried
returns-then-by-eq0-clause-carried c = λ yes.
    let n = c.args.size in let t = tree c.args.content.now in
    subst (λ by. t ≡ shift n by t) (sym c.if-by-eq0.true) (sym (shift_none n t))

pub returns-else-by-eq0-clause-carried : goal.returns-else-by-eq0-clause-carried
returns-else-by-eq0-clause-carried c = λ yes. sym (unmoved c.args.size c.args.by (tree c.args.content.now) (c.binds_nothing.ensures yes) c.requires.fits)

pub returns-else-by-eq0-clause-fits : goal.returns-else-by-eq0-clause-fits
returns-else-by-eq0-clause-fits c = λ yes.
    fits_later c.args.size (c.args.size + c.args.by) (omega arith) c.requires.levels (tree c.args.content.now) (c.binds_nothing.ensures yes) c.requires.fits
