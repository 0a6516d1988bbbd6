use Rattle.std.proofs.Common.{sym, subst}
use Rattle.std.proofs.lemmas.List.Elements.{All-push}
use Rattle.lois_context.specs.Kept.{IsSlot, AreSlots, HasDistinctNames}
use Rattle.lois_context.specs.SlotView.{slot_of}
use Rattle.lois_interp.proofs.LeafRuns.{distinct_last}
use Rattle.lois_interp.proofs.leaves.with_slot.Goals as goal

pub invariant_of-result-clause-slots : goal.invariant_of-result-clause-slots
invariant_of-result-clause-slots c =
    let k = c.args.context in
    subst (AreSlots k.size) (sym c.in_ok-push.ensures.appended) (All-push (IsSlot k.size) k.store (slot_of c.args.slot) k.slots (c.requires.levels, c.requires.from))

pub invariant_of-result-clause-names : goal.invariant_of-result-clause-names
invariant_of-result-clause-names c =
    let k = c.args.context in
    subst HasDistinctNames (sym c.in_ok-push.ensures.appended) (distinct_last (slot_of c.args.slot) k.store k.names c.requires.new_name)
