use Rattle.std.proofs.Common.{◌≡◌, ℕ, ◌+◌, ◌&&◌, List, Bool, sym, ◌∙◌, arith}
use Rattle.std.proofs.lemmas.Result.{IfOk-weaker}
use Rattle.lois_base.specs.Atom.{Atom}
use Rattle.lois_base.specs.Fits.{ConstraintFits}
use Rattle.lois_base.specs.Truth.{holds}
use Rattle.lois_base.specs.Tree.{tree}
use Rattle.lois_base.specs.Validity.{AdmitsConstraint}
use Rattle.lois_constraint.proofs.Shifting.{fits_more}
use Rattle.lois_automata.proofs.Members.{admitted_is, admitted_nowhere}
use Rattle.lois_automata.proofs.memberships.membership_under.Goals as goal

pub returns-then-len-eq0-clause-truth : goal.returns-then-len-eq0-clause-truth
returns-then-len-eq0-clause-truth g c =
    let comp = c.args.comp.now in
    admitted_nowhere c.args.size comp.binders c.args.under.now comp.guard (tree comp.item) (tree c.args.t.now) c.in_ok-found.found (sym c.len.ensures ∙ c.if-len-eq0.true) c.in_ok-found.ensures.truth

pub returns-then-len-eq0-clause-operators : goal.returns-then-len-eq0-clause-operators
returns-then-len-eq0-clause-operators g c = λ o k t u. c.in_ok-found.ensures.operators o k.1 t

pub returns-clause-truth : goal.returns-clause-truth
returns-clause-truth g c =
    let comp = c.args.comp.now in
    IfOk-weaker c.meet-2.result (λ r. (d : List Atom) → holds d r ≡ (holds d c.in_ok-admitted.admitted && holds d c.in_ok-found.found)) _ (λ r met. admitted_is c.args.size comp.binders c.args.under.now comp.guard (tree comp.item) (tree c.args.t.now) c.in_ok-found.found c.in_ok-admitted.admitted r c.requires.under c.in_ok-found.ensures.truth c.in_ok-admitted.ensures.truth met) c.meet-2.ensures.truth

pub returns-clause-fits : goal.returns-clause-fits
returns-clause-fits g c =
    let comp = c.args.comp.now in
    let n = c.args.size + comp.binders in
    let under : ConstraintFits n c.args.under.now = fits_more c.args.size n c.args.under.now (omega arith) c.requires.under in
    IfOk-weaker c.meet-2.result (λ r. (n : ℕ) → ConstraintFits n c.in_ok-admitted.admitted → ConstraintFits n c.in_ok-found.found → ConstraintFits n r) (ConstraintFits n) (λ r fits. fits n (c.in_ok-admitted.ensures.fits n under c.requires.over.levels.1) c.in_ok-found.ensures.fits) c.meet-2.ensures.fits

pub returns-clause-operators : goal.returns-clause-operators
returns-clause-operators g c =
    IfOk-weaker c.meet-2.result (λ r. (o : Bool) → AdmitsConstraint o c.in_ok-admitted.admitted → AdmitsConstraint o c.in_ok-found.found → AdmitsConstraint o r) _ (λ r admits o k t u. admits o (c.in_ok-admitted.ensures.operators o u k.0) (c.in_ok-found.ensures.operators o k.1 t)) c.meet-2.ensures.operators
