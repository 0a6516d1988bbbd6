use Rattle.std.proofs.Common.{set, ap, ◌∙◌}
use Rattle.std.proofs.lemmas.List.{map-set}
use Rattle.lois_context.specs.SlotView.{slot_of}
use Rattle.lois_context.proofs.slots.Store.replace.Goals as goal

pub returns-clause-after : goal.returns-clause-after
returns-clause-after c =
    map-set slot_of c.self.inside.items.items c.args.index c.replace.new.dest ∙ (ap (λ z. set z c.args.index (slot_of c.replace.new.dest)) c.self.view_is ∙ ap (λ z. set c.args.self.now c.args.index (slot_of z)) c.replace.ensures.after)
