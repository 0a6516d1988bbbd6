use Rattle.std.specs.List.{All}
use Rattle.lois_context.specs.Joined.{IsEnd}
use Rattle.lois_context.specs.declared.contexts.Context.{Context}
use Rattle.lois_vectors_contexts.proofs.contexts.all_grown.Given as goal

abbrev pub invariant-loop-end : goal.invariant-loop-end
invariant-loop-end g l = (before : Context) → All (IsEnd before) l.ends → All (IsEnd before) l.all.items
