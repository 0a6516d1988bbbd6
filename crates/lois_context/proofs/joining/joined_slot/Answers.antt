use Rattle.std.proofs.Common.{◌≡◌, ◌≤◌, length, refl, sym, subst, arith}
use Rattle.lois_base.specs.Fits.{Fits}
use Rattle.lois_base.specs.Tree.{tree}
use Rattle.lois_context.specs.Joined.{IsJoinedTerm, added_to}
use Rattle.lois_context.specs.ItemCounts.{comps_in}
use Rattle.lois_context.specs.SlotView.{slot_of}
use Rattle.lois_context.proofs.Joined.{nothing_added, term_grown}
use Rattle.lois_context.proofs.joining.joined_slot.Goals as goal

pub returns-then-len-eq0-clause-joined : goal.returns-then-len-eq0-clause-joined
returns-then-len-eq0-clause-joined c =
    let none : length c.in_ok-added.added ≡ 0 = omega (arith, c.len.ensures, c.if-len-eq0.true) in
    record { name = refl; from = refl; term = nothing_added c.args.size c.args.when.now c.args.by (added_to (slot_of c.args.end.now)) c.in_ok-added.added (tree c.args.slot.term) c.in_ok-added.ensures none }

pub returns-clause-joined : goal.returns-clause-joined
returns-clause-joined c =
    let g = c.args.when.now in let by = c.args.by in let added = added_to (slot_of c.args.end.now) in
    let grown = term_grown c.args.size g by added c.in_ok-added.added c.args.slot.term c.requires.slot.0 c.in_ok-added.ensures in
    record { name = refl; from = refl; term = subst (λ z. IsJoinedTerm g by added (tree c.args.slot.term) (tree z)) (sym c.in_ok-term.ensures) grown.joined }

pub returns-clause-slot : goal.returns-clause-slot
returns-clause-slot c =
    let added = added_to (slot_of c.args.end.now) in
    let grown = term_grown c.args.size c.args.when.now c.args.by added c.in_ok-added.added c.args.slot.term c.requires.slot.0 c.in_ok-added.ensures in
    subst (λ z. Fits c.args.size (tree z) × (c.args.slot.from ≤ comps_in (tree z))) (sym c.in_ok-term.ensures) (grown.levels, omega (arith, c.requires.slot.1, grown.more))
