use Rattle.std.proofs.Common.{sym, subst}
use Rattle.std.specs.List.{All}
use Rattle.lois_context.specs.Joined.{IsEnd}
use Rattle.lois_vectors_contexts.proofs.contexts.behind_a_body.Goals as goal

pub join_loop-requires : goal.join_loop-requires
join_loop-requires g c =
    let before = c.in_ok-before.before in
    c.in_ok-ends.ensures before (subst (All (IsEnd before)) (sym c.deref.ensures.value) c.in_ok-inner.ensures)
