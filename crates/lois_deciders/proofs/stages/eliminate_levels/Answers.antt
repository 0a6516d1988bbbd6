use Rattle.std.proofs.Common.{◌≡◌, ◌+◌, ◌-◌, [], ◌∷◌, get_or, sym, subst, arith}
use Rattle.lois_base.specs.Fits.{ConstraintFits}
use Rattle.lois_base.specs.Bound.{HoldsForSome}
use Rattle.lois_deciders.specs.Stages.{AreStages}
use Rattle.lois_deciders.proofs.Staged.{one_stage_more, stage_read}
use Rattle.lois_deciders.proofs.stages.eliminate_levels.Goals as goal

pub without_level-requires : goal.without_level-requires
without_level-requires c =
    let done = c.loop-done.done in
    let e : c.args.size - done ≡ c.args.size - done - 1 + 1 = omega arith in
    let is : c.index.result.now ≡ get_or c.loop-done.stages.items done [] = stage_read c.loop-done.stages.items done c.index.result.now (omega (arith, c.loop-done.invariant.count)) c.index.ensures in
    subst (λ n. ConstraintFits n c.index.result.now) e (subst (ConstraintFits (c.args.size - done)) (sym is) (c.loop-done.invariant.levels done (omega arith)))

pub loop-done-preserved : goal.loop-done-preserved
loop-done-preserved c =
    let done = c.loop-done.done in
    let is : c.index.result.now ≡ get_or c.loop-done.stages.items done [] = stage_read c.loop-done.stages.items done c.index.result.now (omega (arith, c.loop-done.invariant.count)) c.index.ensures in
    subst (AreStages c.args.size (c.args.cube.now ∷ []) (done + 1)) (sym c.in_ok-push-2.ensures.items) (one_stage_more c.args.size done (c.args.cube.now ∷ []) c.in_ok-next.next c.loop-done.stages.items c.loop-done.invariant (subst (λ x. HoldsForSome (c.args.size - done - 1) x c.in_ok-next.next) is c.in_ok-next.ensures.truth) c.in_ok-next.ensures.levels)
