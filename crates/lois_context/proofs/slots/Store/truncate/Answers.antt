use Rattle.std.proofs.Common.{take, map, sym, ap, ◌∙◌}
use Rattle.std.proofs.lemmas.List.{take-map}
use Rattle.lois_context.specs.SlotView.{slot_of}
use Rattle.lois_context.proofs.slots.Store.truncate.Goals as goal

pub returns : goal.returns
returns c =
    ap (map slot_of) c.truncate.ensures.items ∙ (sym (take-map slot_of c.args.count c.self.inside.items.items) ∙ ap (take c.args.count) c.self.view_is)
