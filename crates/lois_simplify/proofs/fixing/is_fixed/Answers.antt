use Rattle.std.proofs.Common.{◌&&◌, sym, ap, ◌∙◌, subst}
use Rattle.lois_base.specs.Fits.{ConstraintFits}
use Rattle.lois_base.specs.Truth.{holds}
use Rattle.lois_deciders.specs.Satisfaction.{IsConstraintSample}
use Rattle.lois_deciders.proofs.Oracle.{is_met}
use Rattle.lois_simplify.proofs.Asked.{apart_fits, can_be_apart, is_fixed, sample_is_apart, none_there, some_there}
use Rattle.lois_simplify.proofs.fixing.is_fixed.Goals as goal

pub returns-then-sample-level-clause-free : goal.returns-then-sample-level-clause-free
returns-then-sample-level-clause-free g c =
    λ f. sample_is_apart c.args.size c.args.binder c.args.level c.args.here.now c.args.sample.now c.requires.sample c.requires.binder c.requires.level (λ e. c.if-sample-level.true (sym e))

pub sample-requires-clause-levels : goal.sample-requires-clause-levels
sample-requires-clause-levels g c =
    c.in_ok-different.ensures.fits c.args.size c.requires.here
    (subst (ConstraintFits c.args.size) (sym c.in_ok-apart.ensures) (apart_fits c.args.size c.args.binder c.args.level c.requires.binder c.requires.level))

pub returns-clause-fixed : goal.returns-clause-fixed
returns-clause-fixed g c =
    λ t. is_fixed c.args.size c.args.binder c.args.level c.args.here.now c.in_ok-different.different
    (λ d. c.in_ok-different.ensures.truth d ∙ ap (λ r. holds d c.args.here.now && holds d r) c.in_ok-apart.ensures)
    (c.in_ok-other.ensures.none.0 (none_there c.in_ok-other.other c.is_none.result c.is_none.ensures t))

pub returns-clause-free : goal.returns-clause-free
returns-clause-free g c =
    λ f. let s = some_there (λ v. IsConstraintSample c.args.size c.in_ok-different.different v.items) c.in_ok-other.other c.is_none.result c.is_none.ensures f c.in_ok-other.ensures.some in
    let m = is_met c.args.size c.in_ok-different.different s.0.items s.1 in
    can_be_apart c.args.size c.args.binder c.args.level c.args.here.now c.in_ok-different.different m.0
    (λ d. c.in_ok-different.ensures.truth d ∙ ap (λ r. holds d c.args.here.now && holds d r) c.in_ok-apart.ensures) m.1 m.2
