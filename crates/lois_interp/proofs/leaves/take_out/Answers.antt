use Rattle.std.proofs.Common.{◌≡◌, length, get_or, slice_set, refl, sym, ap, ◌∙◌, subst, arith}
use Rattle.std.proofs.lemmas.Grind.{get_or-set_at}
use Rattle.lois_base.specs.Data.{coll, comps_of}
use Rattle.lois_base.specs.Fits.{Fits}
use Rattle.lois_context.specs.Kept.{IsSlot, AreSlots, HasDistinctNames}
use Rattle.lois_context.specs.Slots.{SlotD}
use Rattle.lois_context.specs.SlotView.{slot_of}
use Rattle.lois_interp.proofs.Extended.{set_twice, set_length}
use Rattle.lois_interp.proofs.LeafRuns.{distinct_set, set_has}
use Rattle.lois_interp.proofs.leaves.take_out.Goals as goal

pub invariant_of-result-clause-slots : goal.invariant_of-result-clause-slots
invariant_of-result-clause-slots c =
    let k = c.args.context in
    let fits : Fits k.size (coll (comps_of c.new.result)) = subst (λ z. Fits k.size (coll (comps_of z))) (sym c.new.ensures) tt in
    subst (AreSlots k.size) (sym c.replace-name.ensures.after)
    (set_has (IsSlot k.size) (slot_of c.in_ok-empty.empty) k.store c.args.index (subst (IsSlot k.size) (sym c.in_ok-empty.ensures.made) (fits, omega arith)) k.slots)

pub invariant_of-result-clause-names : goal.invariant_of-result-clause-names
invariant_of-result-clause-names c =
    let k = c.args.context in let empty = slot_of c.in_ok-empty.empty in
    let named : empty.name ≡ c.args.name.now = ap (λ (z : SlotD). z.name) c.in_ok-empty.ensures.made ∙ c.in_ok-copy.ensures in
    subst HasDistinctNames (sym c.replace-name.ensures.after) (distinct_set empty k.store c.args.index (λ q. c.requires.name q ∙ sym named) k.names)

pub returns : goal.returns
returns c =
    let k = c.args.context in let i = c.args.index in let x = c.args.name.now in
    let empty = slot_of c.in_ok-empty.empty in let held = slot_of c.replace-name.result in
    let after = c.replace-name.ensures.after in let before = c.replace-name.ensures.before in
    let own : empty.name ≡ x = ap (λ (z : SlotD). z.name) c.in_ok-empty.ensures.made ∙ c.in_ok-copy.ensures in
    let there : held.name ≡ x = ap (λ (z : SlotD). z.name) before ∙ c.requires.name held in
    record {
      size = refl;
      «when» = refl;
      sample = refl;
      lines = refl;
      stored = λ q. ap (λ z. slice_set z i q) after ∙ set_twice k.store i empty q;
      count = ap length after ∙ set_length k.store i empty;
      named = λ q. ap (λ z. (get_or z i q).name) after ∙ (ap (λ (z : SlotD). z.name) (get_or-set_at k.store i i empty q refl c.requires.index) ∙ (own ∙ sym there));
      slot = before;
    }
