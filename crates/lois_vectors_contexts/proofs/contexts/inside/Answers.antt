use Rattle.std.proofs.Common.{rules}
use Rattle.lois_base.specs.Tree.{tree}
use Rattle.lois_context.specs.Entered.{comps_listed}
use Rattle.lois_context.specs.Slots.{IsNew}
use Rattle.lois_context.proofs.Joined.{entries_are_ends}
use Rattle.lois_vectors_contexts.proofs.contexts.inside.Goals as goal

pub returns : goal.returns
returns g c =
    let new : IsNew c.args.name.now c.args.context.now.store = search rules in
    entries_are_ends c.args.context.now c.args.name.now (comps_listed (tree c.args.elements.now)) c.in_ok-enter_loop.field-0.items new c.in_ok-enter_loop.ensures.entered.entries
