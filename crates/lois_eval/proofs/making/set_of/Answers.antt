use Rattle.lois_base.specs.Tree.{tree, comp_of}
use Rattle.lois_base.proofs.Viewed.{mapped_more}
use Rattle.lois_eval.specs.Made.{bare}
use Rattle.lois_eval.proofs.making.set_of.Goals as goal

pub loop-value-preserved : goal.loop-value-preserved
loop-value-preserved c =
    mapped_more tree bare c.as_slice-value-items.result.now c.loop-value.value-index c.value-item.result c.loop-value.comps c.push.new.self (comp_of c.in_ok-bare.field-0) c.in_ok-push.ensures.ok c.in_ok-bare.ensures c.loop-value.invariant c.loop-value-test.true c.value-item.is
