use Rattle.lois_base.specs.Tree.{comp_of}
use Rattle.lois_eval.specs.Folded.{outward}
use Rattle.lois_eval.proofs.Appended.{appended_more}
use Rattle.lois_eval.proofs.folding.put_outward.Goals as goal

pub loop-comp-preserved : goal.loop-comp-preserved
loop-comp-preserved c =
    appended_more comp_of (outward c.args.by) c.as_slice-comp-items.result.now c.loop-comp.comp-index c.comp-item.result c.args.comps.now c.loop-comp.comps c.push.new.self (comp_of c.in_ok-moved.field-0) c.in_ok-push.ensures.ok c.in_ok-moved.ensures c.loop-comp.invariant c.loop-comp-test.true c.comp-item.is
