use Rattle.std.proofs.Common.{◌≡◌, ◌+◌, ◌||◌, ◌&&◌, List, get_or, map, drop, sym, ap, ◌∙◌, subst}
use Rattle.std.specs.List.{list_any}
use Rattle.lois_base.specs.Atom.{Atom}
use Rattle.lois_base.specs.Fits.{ConstraintFits}
use Rattle.lois_base.specs.Truth.{holds, cube_holds}
use Rattle.lois_base.specs.OrderFree.{IsOrderFree}
use Rattle.lois_base.specs.declared.guards.Lit.{Lit}
use Rattle.lois_base.proofs.Viewed.{rest_at}
use Rattle.lois_order.specs.Bounds.{is_met, is_weak_lower}
use Rattle.lois_order.specs.Equations.{renamed}
use Rattle.lois_order.proofs.Cases.{one_case, no_case}
use Rattle.lois_order.proofs.rule.add_cases.Goals as goal
use Rattle.lois_order.proofs.rule.add_cases.Goals.{then-bounds_weakly_below+in_ok-case+in_ok-put, else-bounds_weakly_below}

pub loop-lit-preserved : goal.loop-lit-preserved
loop-lit-preserved c =
    let x = c.args.level in
    let cube = c.args.cube.now in
    let items = c.as_slice-lit-items.result.now in
    let i = c.loop-lit.lit-index in
    let was = c.loop-lit.invariant in
    elim c.if-bounds_weakly_below.branch [
      | then-bounds_weakly_below+in_ok-case+in_ok-put w ↦ record {
        holds = λ e. was.holds e ∙ (ap (λ ls. holds e c.loop-lit.answer || list_any (is_met e x cube) ls) (rest_at items i _ c.loop-lit-test.true)
            ∙ one_case (holds e c.loop-lit.answer) (is_weak_lower x (get_or items i _)) (cube_holds e (map (renamed x (get_or items i _).left) cube)) (list_any (is_met e x cube) (drop (i + 1) items)) (cube_holds e w.in_ok-case.case) (holds e c.if-bounds_weakly_below.answer)
            (sym c.bounds_weakly_below.ensures ∙ w.if-bounds_weakly_below.true) (w.in_ok-case.ensures.holds e) (ap (holds e) w.answer-is ∙ w.in_ok-put.ensures.holds e));
        levels = subst (ConstraintFits x) (sym w.answer-is) (w.in_ok-put.ensures.levels x was.levels w.in_ok-case.ensures.levels);
        order = λ f g. subst IsOrderFree (sym w.answer-is) (w.in_ok-put.ensures.order (was.order f g) (w.in_ok-case.ensures.order f));
      }
      | else-bounds_weakly_below w ↦ record {
        holds = λ e. was.holds e ∙ (ap (λ ls. holds e c.loop-lit.answer || list_any (is_met e x cube) ls) (rest_at items i _ c.loop-lit-test.true)
            ∙ no_case (holds e c.loop-lit.answer) (is_weak_lower x (get_or items i _)) (cube_holds e (map (renamed x (get_or items i _).left) cube)) (list_any (is_met e x cube) (drop (i + 1) items)) (holds e c.if-bounds_weakly_below.answer)
            (sym c.bounds_weakly_below.ensures ∙ w.if-bounds_weakly_below.false) (ap (holds e) w.answer-is));
        levels = subst (ConstraintFits x) (sym w.answer-is) was.levels;
        order = λ f g. subst IsOrderFree (sym w.answer-is) (was.order f g);
      }
    ]
