use Rattle.std.proofs.Common.{sym, subst}
use Rattle.std.proofs.lemmas.List.Elements.{All-push}
use Rattle.std.specs.List.{All}
use Rattle.lois_context.specs.Joined.{IsEnd}
use Rattle.lois_vectors_contexts.proofs.contexts.all_grown.Goals as goal

pub loop-end-preserved : goal.loop-end-preserved
loop-end-preserved g c = λ before ends.
    let own : IsEnd before c.end-item.result = subst (IsEnd before) (sym c.end-item.is) (ends c.loop-end.end-index c.end-item.result c.loop-end-test.true) in
    subst (All (IsEnd before)) (sym c.in_ok-push.ensures.items)
    (All-push (IsEnd before) c.loop-end.all.items c.in_ok-grown.field-0 (c.loop-end.invariant before ends) (c.in_ok-grown.ensures before own))
