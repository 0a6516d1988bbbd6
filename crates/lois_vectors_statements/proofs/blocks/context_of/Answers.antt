use Rattle.std.proofs.Common.{◌≡◌, [], ◌∷◌, ◌++◌, length, map, bytes_eq, sym, ap, ◌∙◌, subst}
use Rattle.std.specs.List.{IsDistinct}
use Rattle.std.proofs.lemmas.List.Elements.{All-nil}
use Rattle.lois_base.specs.Fits.{Fits, ConstraintFits}
use Rattle.lois_base.specs.Tree.{tree}
use Rattle.lois_base.specs.Truth.{holds, sampled}
use Rattle.lois_context.specs.Kept.{AreSlots, LinesFit}
use Rattle.lois_context.specs.Slots.{SlotD, slot_name}
use Rattle.lois_interp.proofs.Opened.{always_fits}
use Rattle.lois_vectors_statements.proofs.Opening.{one_slot, one_distinct}
use Rattle.lois_vectors_statements.proofs.blocks.context_of.Goals as goal

pub invariant_of-result : goal.invariant_of-result
invariant_of-result c =
    let s : SlotD = record { name = c.in_ok-copy.field-0; term = tree c.args.set; from = c.args.from } in
    let store : c.push.new.self ≡ s ∷ [] = c.in_ok-push.ensures.appended ∙ (ap (λ z. c.new-store.result ++ z ∷ []) c.in_ok-slot.ensures.made ∙ ap (λ z. z ++ s ∷ []) c.new-store.ensures.empty) in
    record {
      levels = subst (ConstraintFits 0) (sym c.in_ok-always.ensures) (always_fits 0);
      count = ap length c.new-4.ensures;
      met = ap (holds (sampled c.new-4.result)) c.in_ok-always.ensures;
      slots = subst (AreSlots 0) (sym store) (one_slot s 0 c.requires.levels c.requires.from);
      fitting = subst (LinesFit 0) (sym (c.in_ok-lines.ensures.same ∙ c.new-2.ensures.empty)) (All-nil (λ l. Fits 0 l.term));
      names = subst (λ z. IsDistinct bytes_eq (map slot_name z)) (sym store) (one_distinct s.name);
    }
