use Rattle.std.proofs.Common.{◌+◌, [], ◌∷◌, ◌++◌, sym, ap, ◌∙◌, subst, arith}
use Rattle.std.proofs.lemmas.List.Elements.{All-push}
use Rattle.lois_base.specs.Tree.{tree}
use Rattle.lois_context.specs.Entered.{element_slot}
use Rattle.lois_context.specs.Kept.{IsSlot, AreSlots, HasDistinctNames}
use Rattle.lois_context.proofs.Carried.{distinct_more}
use Rattle.lois_context.proofs.entering.inner_store.Goals as goal

pub returns-clause-names : goal.returns-clause-names
returns-clause-names c =
    let before = c.args.context.now in
    let m = c.args.comp.now.binders in
    let x = element_slot c.args.name.now (tree c.args.comp.now.item) in
    let stored = c.in_ok-push.ensures.appended ∙ (ap (λ z. c.args.outside ++ z ∷ []) c.in_ok-bound_slot.ensures ∙ ap (λ z. z ++ x ∷ []) c.requires.outside) in
    subst HasDistinctNames (sym stored) (distinct_more before.size m c.args.name.now (tree c.args.comp.now.item) before.store before.names c.requires.new_name)

pub returns-clause-slots : goal.returns-clause-slots
returns-clause-slots c =
    let before = c.args.context.now in
    let m = c.args.comp.now.binders in
    let x = element_slot c.args.name.now (tree c.args.comp.now.item) in
    let pushed = c.in_ok-push.ensures.appended ∙ ap (λ z. c.args.outside ++ z ∷ []) c.in_ok-bound_slot.ensures in
    subst (AreSlots (before.size + m)) (sym pushed) (All-push (IsSlot (before.size + m)) c.args.outside x c.requires.slots (c.requires.levels.2, omega arith))
