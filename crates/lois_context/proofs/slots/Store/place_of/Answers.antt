use Rattle.std.proofs.Common.{◌≡◌, true, take, map, refl, sym, ap, ◌∙◌, subst, bytes_eq, arith}
use Rattle.std.proofs.lemmas.List.{take_all}
use Rattle.std.proofs.lemmas.List.Elements.{All-push}
use Rattle.std.proofs.lemmas.Slice.Eq.{bytes_eq-Decides}
use Rattle.std.specs.Bool.{IsFalse}
use Rattle.lois_context.specs.Slots.{IsNew}
use Rattle.lois_context.specs.SlotView.{slot_of}
use Rattle.lois_context.specs.declared.slots.Slot.{Slot}
use Rattle.lois_base.proofs.Viewed.{one_more, item_has, item_there}
use Rattle.lois_context.proofs.slots.Store.place_of.Goals as goal

pub returns-then-eq-clause-found : goal.returns-then-eq-clause-found
returns-then-eq-clause-found c =
    let same : bytes_eq c.index-slots-index.result.name c.args.name.now ≡ true = ap (λ (s : Slot). bytes_eq s.name c.args.name.now) c.index-slots-index.is ∙ (sym c.eq.ensures ∙ c.if-eq.true) in
    item_there slot_of (λ s. s.name ≡ c.args.name.now) c.as_slice-slots.result.now c.args.self.now c.loop-index.index c.index-slots-index.result c.as_slice-slots.ensures.items c.loop-index-test.true c.index-slots-index.is ((bytes_eq-Decides c.index-slots-index.result.name c.args.name.now).0 same)

pub returns-then-eq-clause-none : goal.returns-then-eq-clause-none
returns-then-eq-clause-none c = (
  λ h. absurd (cc),
  λ h.
      let no : IsFalse (bytes_eq c.index-slots-index.result.name c.args.name.now) = item_has slot_of (λ s. IsFalse (bytes_eq s.name c.args.name.now)) c.as_slice-slots.result.now c.args.self.now c.loop-index.index c.index-slots-index.result c.as_slice-slots.ensures.items c.loop-index-test.true c.index-slots-index.is h in
      let same : bytes_eq c.index-slots-index.result.name c.args.name.now ≡ true = ap (λ (s : Slot). bytes_eq s.name c.args.name.now) c.index-slots-index.is ∙ (sym c.eq.ensures ∙ c.if-eq.true) in
      absurd (cc),
)

pub loop-index-preserved : goal.loop-index-preserved
loop-index-preserved c =
    let items = c.as_slice-slots.result.now in
    let i = c.loop-index.index in
    subst (IsNew c.args.name.now) (sym (one_more slot_of items i c.index-slots-index.result c.loop-index-test.true c.index-slots-index.is))
    (All-push (λ s. IsFalse (bytes_eq s.name c.args.name.now)) (map slot_of (take i items)) (slot_of c.index-slots-index.result) c.loop-index.invariant (ap (λ (s : Slot). bytes_eq s.name c.args.name.now) c.index-slots-index.is ∙ (sym c.eq.ensures ∙ c.if-eq.false)))

pub returns-clause-none : goal.returns-clause-none
returns-clause-none c = (
  λ h. subst (IsNew c.args.name.now) (ap (map slot_of) (take_all c.loop-index.index c.as_slice-slots.result.now (omega arith)) ∙ c.as_slice-slots.ensures.items) c.loop-index.invariant,
  λ h. refl,
)
