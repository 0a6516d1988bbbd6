use Rattle.std.proofs.Common.{◌≡◌, ℕ, ◌+◌, ◌&&◌, List, subst, arith}
use Rattle.std.proofs.lemmas.Result.{IfOk-weaker}
use Rattle.lois_base.specs.Atom.{Atom}
use Rattle.lois_base.specs.Fits.{ConstraintFits}
use Rattle.lois_base.specs.Truth.{holds}
use Rattle.lois_base.specs.Tree.{tree}
use Rattle.lois_constraint.proofs.Shifting.{fits_more}
use Rattle.lois_shortest_word.proofs.Advances.{going_is}
use Rattle.lois_shortest_word.proofs.steps.where_going.Goals as goal

pub returns-clause-truth : goal.returns-clause-truth
returns-clause-truth g c =
    let n = c.args.size in
    let s = c.args.stage.now in
    IfOk-weaker c.meet-3.result (λ r. (d : List Atom) → holds d r ≡ (holds d c.in_ok-admitted.admitted && holds d c.in_ok-joins.joins)) _ (λ r met.
    going_is n s.more c.args.binders s.admitted c.args.guard.now c.in_ok-begins.begins c.in_ok-ends.ends c.in_ok-admitted.admitted c.in_ok-joins.joins (tree s.state) (tree c.in_ok-state.state) (tree c.args.step.source.now) (tree c.args.step.target.now) (tree c.args.layer.now)
    c.requires.stage.levels c.in_ok-state.ensures.value c.in_ok-begins.ensures.truth c.in_ok-ends.ensures.truth c.in_ok-admitted.ensures.truth c.in_ok-joins.ensures.truth r met) c.meet-3.ensures.truth

pub returns-clause-levels : goal.returns-clause-levels
returns-clause-levels g c =
    let n = c.args.size + c.args.stage.now.more + c.args.binders in
    let stage : ConstraintFits n c.args.stage.now.admitted = fits_more (c.args.size + c.args.stage.now.more) n c.args.stage.now.admitted (omega arith) c.requires.stage.levels in
    let same : c.args.size + (c.args.stage.now.more + c.args.binders) ≡ n = omega arith in
    let ends : ConstraintFits n c.in_ok-ends.ends = subst (λ z. ConstraintFits z c.in_ok-ends.ends) same c.in_ok-ends.ensures.fits in
    IfOk-weaker c.meet-3.result (λ r. (n : ℕ) → ConstraintFits n c.in_ok-admitted.admitted → ConstraintFits n c.in_ok-joins.joins → ConstraintFits n r) (ConstraintFits n) (λ r fits. fits n (c.in_ok-admitted.ensures.fits n stage c.requires.guard) (c.in_ok-joins.ensures.fits n c.in_ok-begins.ensures.levels ends)) c.meet-3.ensures.fits
