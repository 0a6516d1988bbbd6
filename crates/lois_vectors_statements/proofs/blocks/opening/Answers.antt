use Rattle.std.proofs.Common.{◌≡◌, ℕ, [], ◌∷◌, ◌++◌, length, map, bytes_eq, refl, sym, ap, ◌∙◌, subst, arith}
use Rattle.std.specs.List.{IsDistinct}
use Rattle.std.proofs.lemmas.List.Elements.{All-nil}
use Rattle.lois_base.specs.Fits.{Fits, ConstraintFits}
use Rattle.lois_base.specs.Truth.{holds, sampled}
use Rattle.lois_script.specs.Tree.{ParamD}
use Rattle.lois_script.specs.View.{param_tree, params_list}
use Rattle.lois_context.specs.Kept.{AreSlots, LinesFit}
use Rattle.lois_context.specs.Slots.{slot_name}
use Rattle.lois_interp.specs.Opened.{opening_slots}
use Rattle.lois_interp.proofs.Opened.{always_fits, slots_fit}
use Rattle.lois_vectors_statements.proofs.Opening.{pair_is, two_slots, two_distinct}
use Rattle.lois_vectors_statements.proofs.blocks.opening.Goals as goal

pub invariant_of-result : goal.invariant_of-result
invariant_of-result c =
    let a = c.a-item.result in
    let b = c.b-item.result in
    let store = two_slots c.new-store.result c.push-3.new.self c.push-4.new.self c.in_ok-copy.field-0 c.in_ok-copy-2.field-0 a.name b.name c.new-store.ensures.empty (c.in_ok-push-3.ensures.appended ∙ ap (λ z. c.new-store.result ++ z ∷ []) c.in_ok-first.ensures.made) (c.in_ok-push-4.ensures.appended ∙ ap (λ z. c.push-3.new.self ++ z ∷ []) c.in_ok-second.ensures.made) c.in_ok-copy.ensures c.in_ok-copy-2.ensures in
    record {
      levels = subst (ConstraintFits 2) (sym c.in_ok-always.ensures) (always_fits 2);
      count = ap length (c.in_ok-push-2.ensures.ok ∙ ap (λ z. z ++ 0 ∷ []) (c.in_ok-push.ensures.ok ∙ ap (λ z. z ++ 0 ∷ []) c.new-sample.ensures));
      met = ap (holds (sampled c.push-2.new.self)) c.in_ok-always.ensures;
      slots = subst (AreSlots 2) (sym store) (slots_fit (param_tree a ∷ param_tree b ∷ []) 0 2 (omega arith));
      fitting = subst (LinesFit 2) (sym (c.in_ok-lines.ensures.same ∙ c.new-3.ensures.empty)) (All-nil (λ l. Fits 2 l.term));
      names = subst (λ z. IsDistinct bytes_eq (map slot_name z)) (sym store) (two_distinct a.name b.name (sym c.eq.ensures ∙ c.if-eq.false));
    }

pub returns : goal.returns
returns c =
    let a = c.a-item.result in
    let b = c.b-item.result in
    let items = c.as_slice.result.now in
    let two : length items ≡ 2 = omega (arith, c.in-len2.len_at_least, c.in-len2.len_below) in
    let params : params_list c.args.parameters.now ≡ param_tree a ∷ param_tree b ∷ [] = sym c.as_slice.ensures.items ∙ ap (map param_tree) (pair_is items a b two c.a-item.is c.b-item.is) in
    record {
      size = sym (ap length params);
      «when» = c.in_ok-always.ensures;
      store = two_slots c.new-store.result c.push-3.new.self c.push-4.new.self c.in_ok-copy.field-0 c.in_ok-copy-2.field-0 a.name b.name c.new-store.ensures.empty (c.in_ok-push-3.ensures.appended ∙ ap (λ z. c.new-store.result ++ z ∷ []) c.in_ok-first.ensures.made) (c.in_ok-push-4.ensures.appended ∙ ap (λ z. c.push-3.new.self ++ z ∷ []) c.in_ok-second.ensures.made) c.in_ok-copy.ensures c.in_ok-copy-2.ensures ∙ ap (λ ps. opening_slots ps 0) (sym params);
      lines = c.in_ok-lines.ensures.same ∙ c.new-3.ensures.empty;
    }
