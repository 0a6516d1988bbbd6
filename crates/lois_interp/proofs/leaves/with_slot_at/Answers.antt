use Rattle.std.proofs.Common.{sym, subst}
use Rattle.lois_context.specs.Kept.{IsSlot, AreSlots, HasDistinctNames}
use Rattle.lois_context.specs.SlotView.{slot_of}
use Rattle.lois_interp.proofs.LeafRuns.{distinct_set, set_has}
use Rattle.lois_interp.proofs.leaves.with_slot_at.Goals as goal

pub invariant_of-result-clause-slots : goal.invariant_of-result-clause-slots
invariant_of-result-clause-slots c =
    let k = c.args.context in
    subst (AreSlots k.size) (sym c.set.ensures) (set_has (IsSlot k.size) (slot_of c.args.slot) k.store c.args.index (c.requires.levels, c.requires.from) k.slots)

pub invariant_of-result-clause-names : goal.invariant_of-result-clause-names
invariant_of-result-clause-names c =
    let k = c.args.context in
    subst HasDistinctNames (sym c.set.ensures) (distinct_set (slot_of c.args.slot) k.store c.args.index c.requires.name k.names)
