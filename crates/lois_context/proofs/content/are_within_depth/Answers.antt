use Rattle.std.proofs.Common.{[], ◌∷◌, ◌<◌, take, map, sym, subst, arith}
use Rattle.lois_base.specs.ListDepth.{depth_of_comps}
use Rattle.lois_base.specs.Tree.{comp_of}
use Rattle.lois_base.proofs.Viewed.{one_more}
use Rattle.lois_terms.proofs.Heights.{depth_append}
use Rattle.lois_context.proofs.content.are_within_depth.Goals as goal

pub loop-comp-preserved : goal.loop-comp-preserved
loop-comp-preserved c =
    let i = c.loop-comp.comp-index in let comps = c.args.comps.now in let k = c.comp-item.result in
    subst (λ z. depth_of_comps z < c.args.limit) (sym (one_more comp_of comps i k c.loop-comp-test.true c.comp-item.is))
    (omega (arith, depth_append (map comp_of (take i comps)) (comp_of k ∷ []), c.loop-comp.invariant, c.is_within_depth.ensures.written.0 c.if-not-is_within_depth.false, c.if-limit-eq0.false))
