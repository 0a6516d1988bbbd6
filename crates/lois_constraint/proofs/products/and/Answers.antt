use Rattle.std.proofs.Common.{◌≡◌, ◌++◌, sym, ap, ◌∙◌, subst, arith}
use Rattle.std.proofs.lemmas.Grind.{common_steps}
use Rattle.lois_base.proofs.Both.{holds_both, all_both, both_step}
use Rattle.lois_base.specs.Fits.{LitFits, ConstraintFits}
use Rattle.lois_base.specs.Normal.{both}
use Rattle.lois_base.specs.Truth.{holds}
use Rattle.lois_base.specs.Validity.{AdmitsLit, AdmitsConstraint}
use Rattle.lois_base.specs.UsedLevels.{UsesOnly}
use Rattle.lois_constraint.proofs.Both.{both_levels}
use Rattle.lois_constraint.proofs.products.and.Goals as goal

pub loop-cube-preserved : goal.loop-cube-preserved
loop-cube-preserved c =
    both_step c.as_slice-cube-items.result.now c.args.b.now c.loop-cube.product _ c.loop-cube.cube-index c.cube-item.result c.loop-cube.invariant c.cube-item.is (omega arith) c.in_ok-conjoin_each.ensures

pub returns-clause-truth : goal.returns-clause-truth
returns-clause-truth c =
    let e : c.loop-cube.product ≡ both c.args.a.now c.args.b.now = grind (arith, common_steps) in
    λ x. ap (holds x) e ∙ holds_both x c.args.a.now c.args.b.now

pub returns-clause-levels : goal.returns-clause-levels
returns-clause-levels c =
    let e : c.loop-cube.product ≡ both c.args.a.now c.args.b.now = grind (arith, common_steps) in
    subst (UsesOnly (c.args.a.now ++ c.args.b.now)) (sym e) (both_levels c.args.a.now c.args.b.now)

pub returns-clause-fits : goal.returns-clause-fits
returns-clause-fits c =
    let e : c.loop-cube.product ≡ both c.args.a.now c.args.b.now = grind (arith, common_steps) in
    λ n f g. subst (ConstraintFits n) (sym e) (all_both (LitFits n) c.args.a.now c.args.b.now f g)

pub returns-clause-operators : goal.returns-clause-operators
returns-clause-operators c =
    let e : c.loop-cube.product ≡ both c.args.a.now c.args.b.now = grind (arith, common_steps) in
    λ o f g. subst (AdmitsConstraint o) (sym e) (all_both (AdmitsLit o) c.args.a.now c.args.b.now f g)
