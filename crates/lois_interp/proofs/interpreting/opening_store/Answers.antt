use Rattle.std.proofs.Common.{[], ◌∷◌, ◌++◌, ap, ◌∙◌}
use Rattle.lois_base.proofs.Viewed.{all_taken}
use Rattle.lois_script.specs.View.{param_tree}
use Rattle.lois_interp.specs.Opened.{opening_slots}
use Rattle.lois_interp.proofs.Opened.{opened_more}
use Rattle.lois_interp.proofs.interpreting.opening_store.Goals as goal

pub loop-parameter-preserved : goal.loop-parameter-preserved
loop-parameter-preserved c =
    opened_more c.as_slice-parameter-items.result.now c.loop-parameter.parameter-index c.parameter-item.result c.loop-parameter.store _ _ _ c.loop-parameter-test.true c.parameter-item.is c.in_ok-copy.ensures c.len-level.ensures.counted (c.in_ok-push.ensures.appended ∙ ap (λ z. c.loop-parameter.store ++ z ∷ []) c.in_ok-slot.ensures.made) c.loop-parameter.invariant

pub returns : goal.returns
returns c =
    c.loop-parameter.invariant ∙ ap (λ ps. opening_slots ps 0) (all_taken param_tree c.as_slice-parameter-items.result.now _ c.loop-parameter.parameter-index c.as_slice-parameter-items.ensures.items c.loop-parameter-test.false)
