use Rattle.std.proofs.Common.{List, ◌++◌, ◌∷◌, [], sym, subst}
use Rattle.lois_context.specs.declared.contexts.Context.{Context}
use Rattle.lois_interp.specs.Merged.{AreTruncatedContexts}
use Rattle.lois_interp.proofs.Sequence.{cut_more}
use Rattle.lois_interp.proofs.blocks.cut_all.Goals as goal

pub loop-context-preserved : goal.loop-context-preserved
loop-context-preserved c =
    let k = c.in-Some.context in
    subst (λ z. AreTruncatedContexts c.args.outside (c.loop-context.yielded ++ k ∷ []) z) (sym {A = List Context} c.in_ok-push.ensures.items)
    (cut_more c.args.outside c.loop-context.yielded c.loop-context.cut.items k c.cut_one.result c.loop-context.invariant c.cut_one.ensures)
