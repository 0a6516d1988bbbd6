use Rattle.std.proofs.Common.{◌≡◌, ◌<◌, length, sym, ap, subst, arith}
use Rattle.std.proofs.lemmas.List.{length-map}
use Rattle.std.specs.List.{HoldsAt}
use Rattle.lois_base.specs.Tree.{tree}
use Rattle.lois_base.proofs.Viewed.{item_at}
use Rattle.lois_deciders.proofs.Oracle.{some_is, none_is}
use Rattle.lois_context.specs.SlotView.{slot_of}
use Rattle.lois_context.specs.declared.slots.Slot.{Slot}
use Rattle.lois_eval.specs.Made.{IsHeldBy}
use Rattle.lois_eval.proofs.Names.{held_at, not_new}
use Rattle.lois_eval.proofs.making.named.Goals as goal

pub returns : goal.returns
returns c =
    let x = c.args.name.now in
    let store = c.args.context.now.store in
    let i = c.in-Some.place in
    let slot = c.index-as_slice-place.result in
    let found = some_is (λ i. (i < length store) × HoldsAt (λ s. s.name ≡ x) store i) c.place_of.result i c.in-Some.is c.place_of.ensures.found in
    let at = item_at slot_of c.as_slice.result.now store i slot c.as_slice.ensures.items (omega (arith, found.0, length-map c.as_slice.result.now slot_of, ap length c.as_slice.ensures.items)) c.index-as_slice-place.is in
    subst (λ (z : Slot). IsHeldBy x store (tree z.term)) c.index-as_slice-place.is
    (subst (IsHeldBy x store) (ap (λ s. s.term) (sym at)) (held_at x store i (slot_of slot) c.args.context.now.names found.0 (found.1 (slot_of slot))))

pub unreachable-requires : goal.unreachable-requires
unreachable-requires c = not_new c.args.name.now c.args.context.now.store c.requires (c.place_of.ensures.none.0 (none_is c.place_of.result c.in-None.is))
