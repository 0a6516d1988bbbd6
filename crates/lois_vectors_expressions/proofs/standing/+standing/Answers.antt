use Rattle.std.proofs.Common.{◌++◌, ◌∷◌, [], map, take, sym, ap, subst, ◌∙◌, arith}
use Rattle.std.proofs.lemmas.Option.{IfSome_then}
use Rattle.lois_base.proofs.Viewed.{one_more}
use Rattle.lois_eval.specs.WellFormed.{AreWellFormed, CondsAreWellFormed}
use Rattle.lois_script.specs.View.{tree, cond_tree, binding_tree, exprs_of, conds_of}
use Rattle.lois_script.specs.Lists.{exprs_list}
use Rattle.lois_script.proofs.Views.{tree_Tuple, tree_Apply, binding_is}
use Rattle.lois_eval.proofs.Parts.{count_of-more}
use Rattle.lois_vectors_expressions.proofs.Placed.{LeadTo, all_one_more, conds_one_more, leads_further}
use Rattle.lois_vectors_expressions.proofs.standing.+standing.Goals as goal

pub stands-returns-else-len-gt8 : goal.stands-returns-else-len-gt8
stands-returns-else-len-gt8 t c =
    let count = count_of-more (exprs_list c.in-Tuple.parts) in
    IfSome_then c.all_stand.result c.all_stand.ensures
    (λ x h. rw (c.in-Tuple.is, tree_Tuple c.in-Tuple.field-0 c.in-Tuple.parts) (omega (arith, count, c.len.ensures.counted, c.if-len-lt2.false), omega (arith, count, c.len-else-len-lt2.ensures.counted, c.if-len-gt8.false), h))

pub stands-returns-else-len-operands : goal.stands-returns-else-len-operands
stands-returns-else-len-operands t c =
    let count = count_of-more (exprs_list c.in-Apply.parts) in
    IfSome_then c.all_stand-in-Apply.result c.all_stand-in-Apply.ensures
    (λ x h. rw (c.in-Apply.is, tree_Apply c.in-Apply.field-0 c.in-Apply.operation c.in-Apply.parts) (omega (arith, count, c.len-in-Apply.ensures.counted, c.if-len-operands.false, c.operands.ensures), h))

pub all_stand-loop-e-preserved : goal.all_stand-loop-e-preserved
all_stand-loop-e-preserved t c =
    let o = c.args.ordered in
    let xs = c.args.names.now in
    let items = c.as_slice-e-items.result.now in
    let i = c.loop-e.e-index in
    let e = c.e-item.result in
    subst (λ z. AreWellFormed (exprs_of z) o xs) (sym (one_more tree items i e c.loop-e-test.true c.e-item.is))
    (all_one_more o xs (map tree (take i items)) (tree e) c.loop-e.invariant c.in_ok-stands.ensures)

pub conditions_stand-loop-c-preserved : goal.conditions_stand-loop-c-preserved
conditions_stand-loop-c-preserved t c =
    let o = c.args.ordered in
    let xs = c.args.names.now in
    let items = c.as_slice-c-items.result.now in
    let i = c.loop-c.c-index in
    let d = c.c-item.result in
    subst (λ z. CondsAreWellFormed (conds_of z) o xs) (sym (one_more cond_tree items i d c.loop-c-test.true c.c-item.is))
    (conds_one_more o xs (map cond_tree (take i items)) (cond_tree d) c.loop-c.invariant c.in_ok-condition_stands.ensures)

pub behind-loop-binding-preserved : goal.behind-loop-binding-preserved
behind-loop-binding-preserved t c =
    let o = c.args.ordered in
    let xs = c.args.names.now in
    let items = c.as_slice-binding-items.result.now in
    let i = c.loop-binding.binding-index in
    let b = c.binding-item.result in
    let so_far = map binding_tree (take i items) in
    let inside = c.in_ok-inside-2.inside in
    subst (λ z. LeadTo o xs z inside) (sym (one_more binding_tree items i b c.loop-binding-test.true c.binding-item.is ∙ ap (λ y. so_far ++ y ∷ []) (binding_is b)))
    (leads_further o xs c.loop-binding.inside inside so_far b.pos.offset b.name (tree b.from) c.loop-binding.invariant c.in_ok-inside-2.ensures.from c.in_ok-inside-2.ensures.new c.in_ok-inside-2.ensures.names)
