use Rattle.std.proofs.Common.{◌∷◌, [], ◌++◌, sym, subst}
use Rattle.std.specs.List.{AllZip}
use Rattle.std.proofs.lemmas.List.Elements.{AllZip-push}
use Rattle.lois_interp.specs.Retold.{HasConditionLike}
use Rattle.lois_interp.proofs.retelling.with_short_conditions.Goals as goal

pub loop-context-preserved : goal.loop-context-preserved
loop-context-preserved c =
    let k = c.in-Some.context in
    subst (AllZip HasConditionLike (c.loop-context.yielded ++ k ∷ [])) (sym c.in_ok-push.ensures.items)
    (AllZip-push HasConditionLike c.loop-context.yielded c.loop-context.short.items k c.in_ok-with_short_condition.field-0 c.loop-context.invariant c.in_ok-with_short_condition.ensures)
