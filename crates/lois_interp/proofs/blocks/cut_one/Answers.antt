use Rattle.std.proofs.Common.{sym, subst}
use Rattle.lois_context.specs.Kept.{IsSlot, AreSlots, HasDistinctNames}
use Rattle.lois_interp.proofs.Sequence.{all_front, distinct_front}
use Rattle.lois_interp.proofs.blocks.cut_one.Goals as goal

pub invariant_of-result-clause-slots : goal.invariant_of-result-clause-slots
invariant_of-result-clause-slots c =
    let k = c.args.context in subst (λ z. AreSlots k.size z) (sym c.truncate.ensures) (all_front (IsSlot k.size) c.args.outside k.store k.slots)

pub invariant_of-result-clause-names : goal.invariant_of-result-clause-names
invariant_of-result-clause-names c =
    let k = c.args.context in subst (λ z. HasDistinctNames z) (sym c.truncate.ensures) (distinct_front c.args.outside k.store k.names)
