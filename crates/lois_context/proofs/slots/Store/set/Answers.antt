use Rattle.std.proofs.Common.{set, ap, ◌∙◌}
use Rattle.std.proofs.lemmas.List.{map-set}
use Rattle.lois_context.specs.SlotView.{slot_of}
use Rattle.lois_context.proofs.slots.Store.set.Goals as goal

pub returns : goal.returns
returns c =
    map-set slot_of c.self.inside.items.items c.args.index c.args.item ∙ ap (λ z. set z c.args.index (slot_of c.args.item)) c.self.view_is
