use Rattle.std.proofs.Common.{map, bytes_eq, sym, ap, ◌∙◌, subst, arith}
use Rattle.std.specs.List.{IsDistinct}
use Rattle.std.proofs.lemmas.List.Elements.{All-nil}
use Rattle.lois_base.specs.Fits.{Fits, ConstraintFits}
use Rattle.lois_base.specs.Truth.{holds, sampled}
use Rattle.lois_script.specs.View.{params_list}
use Rattle.lois_context.specs.Kept.{AreSlots, LinesFit}
use Rattle.lois_context.specs.Slots.{slot_name}
use Rattle.lois_interp.proofs.Opened.{always_fits, slots_fit, slots_named}
use Rattle.lois_interp.proofs.interpreting.opening.Goals as goal

pub invariant_of-result : goal.invariant_of-result
invariant_of-result c =
    let ps = params_list c.args.parameters.now in
    let n = c.len-size.result in
    record {
      levels = subst (ConstraintFits n) (sym c.in_ok-always.ensures) (always_fits n);
      count = c.in_ok-zeros.ensures;
      met = ap (holds (sampled c.in_ok-zeros.field-0)) c.in_ok-always.ensures;
      slots = subst (AreSlots n) (sym c.in_ok-opening_store.ensures) (slots_fit ps 0 n (omega (arith, c.len-size.ensures.counted)));
      fitting = subst (LinesFit n) (sym (c.in_ok-lines.ensures.same ∙ c.new.ensures.empty)) (All-nil (λ l. Fits n l.term));
      names = subst (IsDistinct bytes_eq) (sym (slots_named ps 0) ∙ ap (map slot_name) (sym c.in_ok-opening_store.ensures)) c.requires;
    }
