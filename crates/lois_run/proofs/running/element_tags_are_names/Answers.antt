use Rattle.std.proofs.Common.{[], ◌∷◌, map, take, sym, subst}
use Rattle.std.specs.List.{All}
use Rattle.std.proofs.lemmas.List.Elements.{All-append, All-cons, All-nil}
use Rattle.lois_base.proofs.Viewed.{one_more, all_taken}
use Rattle.lois_answers.specs.LineView.{line_of}
use Rattle.lois_answers.specs.Sound.{HasTags}
use Rattle.lois_run.proofs.running.element_tags_are_names.Goals as goal

pub loop-element-preserved : goal.loop-element-preserved
loop-element-preserved c =
    let items = c.as_slice-element-items.result.now in
    let i = c.loop-element.element-index in
    let x = c.element-item.result in
    subst (All (λ l. HasTags l.term)) (sym (one_more line_of items i x c.loop-element-test.true c.element-item.is))
    (All-append (λ l. HasTags l.term) (map line_of (take i items)) (line_of x ∷ []) c.loop-element.invariant (All-cons (λ l. HasTags l.term) (line_of x) [] c.tags_are_names.ensures.tags (All-nil (λ l. HasTags l.term))))

pub returns : goal.returns
returns c =
    subst (All (λ l. HasTags l.term)) (all_taken line_of c.as_slice-element-items.result.now c.args.elements.now c.loop-element.element-index c.as_slice-element-items.ensures.items c.loop-element-test.false) c.loop-element.invariant
