use Rattle.std.proofs.Common.{◌≡◌, refl, ap, ◌∙◌, subst, arith}
use Rattle.lois_base.specs.FormulaData.{exists}
use Rattle.lois_base.specs.FormulaView.{view}
use Rattle.lois_relate.specs.Built.{IsForSome}
use Rattle.lois_base.proofs.FormulaViews.{view_Exists}
use Rattle.lois_relate.proofs.Forms.{for_some_never, for_some_always, for_some_none, for_some_more}
use Rattle.lois_relate.proofs.building.for_some.Goals as goal

pub returns-then-is_false_formula : goal.returns-then-is_false_formula
returns-then-is_false_formula c = for_some_never c.args.count (view c.args.f) (c.is_false_formula.ensures.0 c.if-is_false_formula.true)

pub returns-then-is_true_formula : goal.returns-then-is_true_formula
returns-then-is_true_formula c =
    for_some_always c.args.count (view c.args.f) (c.is_true_formula.ensures.0 c.if-is_true_formula.true)

pub loop-init : goal.loop-init
loop-init c = for_some_none (view c.args.f)

pub loop-preserved : goal.loop-preserved
loop-preserved c = for_some_more c.loop.counter (view c.args.f) (view c.loop.bound) _ c.loop.invariant (view_Exists _ c.in_ok-boxed.field-0 (c.in_ok-boxed.field-0).value refl refl ∙ ap exists c.in_ok-boxed.ensures)

pub returns : goal.returns
returns c =
    let e : c.loop.counter ≡ c.args.count = omega arith in
    subst (λ m. IsForSome m (view c.args.f) (view c.loop.bound)) e c.loop.invariant
