use Rattle.std.proofs.Common.{◌≡◌, false, sym, ap, ◌∙◌}
use Rattle.lois_lexer.specs.declared.TokenKind.TheVariants.{Name, Word, Symbol}
use Rattle.lois_script.specs.Tree.{not, exists, every, part, each}
use Rattle.lois_script.specs.Grammar.{is_base}
use Rattle.lois_script.specs.View.{tree, cond_tree, binding_tree, exprs_of, bindings_of, conds_of}
use Rattle.lois_script.specs.Lists.{bindings_list}
use Rattle.lois_script.proofs.Views.{binding_is, tree_Tuple, tree_Listed, tree_Each, tree_Part, tree_Apply, cond_Same, cond_Differ, cond_Below, cond_Member, cond_Included, cond_Empty, cond_Not, cond_Exists, cond_Every}
use Rattle.lois_script_printer.specs.Printed.{word, followed_by_blank, enclosed, is_truth, written_expr, written_exprs, written_binding, written_bindings, written_cond, written_units, written_conjunctions}
use Rattle.lois_script_printer.proofs.Appending.{◌then◌, last, on_ok_as, appends_as, start, one_more_expr, one_more_binding, one_more_unit, one_more_conjunction, no_more_exprs, no_more_bindings, no_more_units, no_more_conjunctions, where_is}
use Rattle.lois_script_printer.proofs.forms.+printing.Goals as goal

pub put_binding-returns : goal.put_binding-returns
put_binding-returns t c =
    on_ok_as c.put_expr.result _ _ (ap written_binding (binding_is c.args.binding.now))
    (last _ _ c.put_expr.result (appends_as (ap (followed_by_blank Name) (sym c.bytes.ensures.same)) (c.in_ok-put.ensures Name) then c.in_ok-put-2.ensures Word) c.put_expr.ensures)

pub put_cond-returns-in_ok-put-in-Same : goal.put_cond-returns-in_ok-put-in-Same
put_cond-returns-in_ok-put-in-Same t c =
    on_ok_as c.put_expr-in-Same.result _ _ (ap written_cond (ap cond_tree c.in-Same.is ∙ cond_Same _ _))
    (last _ _ c.put_expr-in-Same.result (c.in_ok-put_expr-in-Same.ensures then c.in_ok-put-in-Same.ensures Symbol) c.put_expr-in-Same.ensures)

pub put_cond-returns-in_ok-put-in-Differ : goal.put_cond-returns-in_ok-put-in-Differ
put_cond-returns-in_ok-put-in-Differ t c =
    on_ok_as c.put_expr-in-Differ-2.result _ _ (ap written_cond (ap cond_tree c.in-Differ.is ∙ cond_Differ _ _))
    (last _ _ c.put_expr-in-Differ-2.result (c.in_ok-put_expr-in-Differ.ensures then c.in_ok-put-in-Differ.ensures Symbol) c.put_expr-in-Differ-2.ensures)

pub put_cond-returns-in_ok-put-in-Below : goal.put_cond-returns-in_ok-put-in-Below
put_cond-returns-in_ok-put-in-Below t c =
    on_ok_as c.put_expr-in-Below-2.result _ _ (ap written_cond (ap cond_tree c.in-Below.is ∙ cond_Below _ _ _))
    (last _ _ c.put_expr-in-Below-2.result (c.in_ok-put_expr-in-Below.ensures then c.in_ok-put-in-Below.ensures Symbol) c.put_expr-in-Below-2.ensures)

pub put_cond-returns-in_ok-put-in-Member : goal.put_cond-returns-in_ok-put-in-Member
put_cond-returns-in_ok-put-in-Member t c =
    on_ok_as c.put_expr-in-Member-2.result _ _ (ap written_cond (ap cond_tree c.in-Member.is ∙ cond_Member _ _))
    (last _ _ c.put_expr-in-Member-2.result (c.in_ok-put_expr-in-Member.ensures then c.in_ok-put-in-Member.ensures Word) c.put_expr-in-Member-2.ensures)

pub put_cond-returns-in_ok-put-in-Included : goal.put_cond-returns-in_ok-put-in-Included
put_cond-returns-in_ok-put-in-Included t c =
    on_ok_as c.put_expr-in-Included-2.result _ _ (ap written_cond (ap cond_tree c.in-Included.is ∙ cond_Included _ _))
    (last _ _ c.put_expr-in-Included-2.result (c.in_ok-put_expr-in-Included.ensures then c.in_ok-put-in-Included.ensures Word) c.put_expr-in-Included-2.ensures)

pub put_cond-returns-in_ok-put_expr-in-Empty : goal.put_cond-returns-in_ok-put_expr-in-Empty
put_cond-returns-in_ok-put_expr-in-Empty t c =
    on_ok_as c.put-in-Empty-3.result _ _ (ap written_cond (ap cond_tree c.in-Empty.is ∙ cond_Empty _))
    (last _ _ c.put-in-Empty-3.result (c.in_ok-put-in-Empty.ensures Word then c.in_ok-put-in-Empty-2.ensures Symbol then c.in_ok-put_expr-in-Empty.ensures) (c.put-in-Empty-3.ensures Symbol))

pub put_cond-returns-in_ok-put-in-Not : goal.put_cond-returns-in_ok-put-in-Not
put_cond-returns-in_ok-put-in-Not t c =
    let tree_is : cond_tree c.args.condition.now ≡ not (cond_tree c.deref-in-Not.result.now) = cc (ap cond_tree c.in-Not.is, cond_Not c.in-Not.c) in
    let form : is_base (cond_tree c.deref-in-Not.result.now) ≡ c.is_base.result = cc in
    on_ok_as c.put_enclosed.result _ _ (ap written_cond tree_is)
    (last _ _ c.put_enclosed.result (c.in_ok-put-in-Not.ensures Word) (on_ok_as c.put_enclosed.result _ _ (ap (λ b. enclosed b (written_cond (cond_tree c.deref-in-Not.result.now))) form) c.put_enclosed.ensures))

pub put_cond-returns-in_ok-put-in-Exists-2 : goal.put_cond-returns-in_ok-put-in-Exists-2
put_cond-returns-in_ok-put-in-Exists-2 t c =
    let tree_is : cond_tree c.args.condition.now ≡ exists (binding_tree c.deref-in-Exists.result.now) (cond_tree c.deref-in-Exists-3.result.now) = cc (ap cond_tree c.in-Exists.is, cond_Exists c.in-Exists.binding c.in-Exists.c) in
    let form : is_base (cond_tree c.deref-in-Exists-3.result.now) ≡ c.is_base-in-Exists.result = cc in
    on_ok_as c.put_enclosed-in-Exists.result _ _ (ap written_cond tree_is)
    (last _ _ c.put_enclosed-in-Exists.result (c.in_ok-put-in-Exists.ensures Word then c.in_ok-put_binding-in-Exists.ensures then c.in_ok-put-in-Exists-2.ensures Symbol) (on_ok_as c.put_enclosed-in-Exists.result _ _ (ap (λ b. enclosed b (written_cond (cond_tree c.deref-in-Exists-3.result.now))) form) c.put_enclosed-in-Exists.ensures))

pub put_cond-returns-in_ok-put-in-Every-2 : goal.put_cond-returns-in_ok-put-in-Every-2
put_cond-returns-in_ok-put-in-Every-2 t c =
    let tree_is : cond_tree c.args.condition.now ≡ every (binding_tree c.deref-in-Every.result.now) (cond_tree c.deref-in-Every-3.result.now) = cc (ap cond_tree c.in-Every.is, cond_Every c.in-Every.binding c.in-Every.c) in
    let form : is_base (cond_tree c.deref-in-Every-3.result.now) ≡ c.is_base-in-Every.result = cc in
    on_ok_as c.put_enclosed-in-Every.result _ _ (ap written_cond tree_is)
    (last _ _ c.put_enclosed-in-Every.result (c.in_ok-put-in-Every.ensures Word then c.in_ok-put_binding-in-Every.ensures then c.in_ok-put-in-Every-2.ensures Symbol) (on_ok_as c.put_enclosed-in-Every.result _ _ (ap (λ b. enclosed b (written_cond (cond_tree c.deref-in-Every-3.result.now))) form) c.put_enclosed-in-Every.ensures))

pub put_enclosed-returns : goal.put_enclosed-returns
put_enclosed-returns t c =
    on_ok_as c.put-2.result _ _ (ap (λ b. enclosed b (written_cond (cond_tree c.args.condition.now))) c.if-has_form.false)
    (last _ _ c.put-2.result (c.in_ok-put.ensures Symbol then c.in_ok-put_cond.ensures) (c.put-2.ensures Symbol))

pub put_expr-returns-in_ok-put_exprs-in-Tuple : goal.put_expr-returns-in_ok-put_exprs-in-Tuple
put_expr-returns-in_ok-put_exprs-in-Tuple t c =
    on_ok_as c.put-in-Tuple-2.result _ _ (ap written_expr (ap tree c.in-Tuple.is ∙ tree_Tuple _ _))
    (last _ _ c.put-in-Tuple-2.result (c.in_ok-put-in-Tuple.ensures Symbol then c.in_ok-put_exprs-in-Tuple.ensures) (c.put-in-Tuple-2.ensures Symbol))

pub put_expr-returns-in_ok-put_exprs-in-Listed : goal.put_expr-returns-in_ok-put_exprs-in-Listed
put_expr-returns-in_ok-put_exprs-in-Listed t c =
    on_ok_as c.put-in-Listed-2.result _ _ (ap written_expr (ap tree c.in-Listed.is ∙ tree_Listed _ _))
    (last _ _ c.put-in-Listed-2.result (c.in_ok-put-in-Listed.ensures Symbol then c.in_ok-put_exprs-in-Listed.ensures) (c.put-in-Listed-2.ensures Symbol))

pub put_expr-returns-in_ok-put_where-in-Each : goal.put_expr-returns-in_ok-put_where-in-Each
put_expr-returns-in_ok-put_where-in-Each t c =
    let tree_is : tree c.args.e.now ≡ each c.in-Each.field-0.offset (tree c.deref.result.now) (bindings_of (bindings_list c.in-Each.bindings)) (cond_tree c.deref-in-Each.result.now) = cc (ap tree c.in-Each.is, tree_Each c.in-Each.field-0 c.in-Each.item c.in-Each.bindings c.in-Each.condition) in
    on_ok_as c.put-in-Each-3.result _ _ (ap written_expr tree_is)
    (last _ _ c.put-in-Each-3.result (c.in_ok-put-in-Each.ensures Symbol then c.in_ok-put_expr-in-Each.ensures then c.in_ok-put-in-Each-2.ensures Word then c.in_ok-put_bindings-in-Each.ensures then c.in_ok-put_where-in-Each.ensures) (c.put-in-Each-3.ensures Symbol))

pub put_expr-returns-in_ok-put_number-in-Part : goal.put_expr-returns-in_ok-put_number-in-Part
put_expr-returns-in_ok-put_number-in-Part t c =
    let tree_is : tree c.args.e.now ≡ part c.in-Part.field-0.offset (tree c.deref-in-Part.result.now) c.in-Part.n = cc (ap tree c.in-Part.is, tree_Part c.in-Part.field-0 c.in-Part.tuple c.in-Part.n) in
    on_ok_as c.put-in-Part-4.result _ _ (ap written_expr tree_is)
    (last _ _ c.put-in-Part-4.result (c.in_ok-put-in-Part.ensures Word then c.in_ok-put-in-Part-2.ensures Symbol then c.in_ok-put_expr-in-Part.ensures then c.in_ok-put-in-Part-3.ensures Symbol then c.in_ok-put_number-in-Part.ensures) (c.put-in-Part-4.ensures Symbol))

pub put_expr-returns-in_ok-put_exprs-in-Apply : goal.put_expr-returns-in_ok-put_exprs-in-Apply
put_expr-returns-in_ok-put_exprs-in-Apply t c =
    on_ok_as c.put-in-Apply-3.result _ _ (ap written_expr (ap tree c.in-Apply.is ∙ tree_Apply _ _ _))
    (last _ _ c.put-in-Apply-3.result (appends_as (ap word (sym c.word.ensures.exact)) (c.in_ok-put-in-Apply.ensures Word) then c.in_ok-put-in-Apply-2.ensures Symbol then c.in_ok-put_exprs-in-Apply.ensures) (c.put-in-Apply-3.ensures Symbol))

pub put_exprs-loop-i-init : goal.put_exprs-loop-i-init
put_exprs-loop-i-init t c =
    start _ (λ es. written_exprs (exprs_of es)) _ _ c.as_slice-e-items.ensures.items

pub put_exprs-loop-i-preserved : goal.put_exprs-loop-i-preserved
put_exprs-loop-i-preserved t c =
    one_more_expr c.as_slice-e-items.result.now c.loop-i.i c.e-item.result _ _ _ _ _ c.loop-i-test.true c.e-item.is c.loop-i.invariant (c.in_ok-put_separator.ensures Symbol) c.in_ok-put_expr.ensures

pub put_exprs-returns : goal.put_exprs-returns
put_exprs-returns t c =
    no_more_exprs c.as_slice-e-items.result.now c.loop-i.i _ _ _ c.loop-i-test.false c.loop-i.invariant

pub put_bindings-loop-i-init : goal.put_bindings-loop-i-init
put_bindings-loop-i-init t c =
    start _ (λ bs. written_bindings (bindings_of bs)) _ _ c.as_slice-binding-items.ensures.items

pub put_bindings-loop-i-preserved : goal.put_bindings-loop-i-preserved
put_bindings-loop-i-preserved t c =
    one_more_binding c.as_slice-binding-items.result.now c.loop-i.i c.binding-item.result _ _ _ _ _ c.loop-i-test.true c.binding-item.is c.loop-i.invariant (c.in_ok-put_separator.ensures Symbol) c.in_ok-put_binding.ensures

pub put_bindings-returns : goal.put_bindings-returns
put_bindings-returns t c =
    no_more_bindings c.as_slice-binding-items.result.now c.loop-i.i _ _ _ c.loop-i-test.false c.loop-i.invariant

pub put_units-loop-i-init : goal.put_units-loop-i-init
put_units-loop-i-init t c =
    start _ (λ cs. written_units (conds_of cs)) _ _ c.as_slice-unit-items.ensures.items

pub put_units-loop-i-preserved : goal.put_units-loop-i-preserved
put_units-loop-i-preserved t c =
    one_more_unit c.as_slice-unit-items.result.now c.loop-i.i c.unit-item.result _ _ _ _ _ c.loop-i-test.true c.unit-item.is c.loop-i.invariant (c.in_ok-put_separator.ensures Word)
    (appends_as (ap (λ b. enclosed b (written_cond (cond_tree c.unit-item.result))) (sym c.is_unit.ensures)) c.in_ok-put_enclosed.ensures)

pub put_units-returns : goal.put_units-returns
put_units-returns t c =
    no_more_units c.as_slice-unit-items.result.now c.loop-i.i _ _ _ c.loop-i-test.false c.loop-i.invariant

pub put_conjunctions-loop-i-init : goal.put_conjunctions-loop-i-init
put_conjunctions-loop-i-init t c =
    start _ (λ cs. written_conjunctions (conds_of cs)) _ _ c.as_slice-conjunction-items.ensures.items

pub put_conjunctions-loop-i-preserved : goal.put_conjunctions-loop-i-preserved
put_conjunctions-loop-i-preserved t c =
    one_more_conjunction c.as_slice-conjunction-items.result.now c.loop-i.i c.conjunction-item.result _ _ _ _ _ c.loop-i-test.true c.conjunction-item.is c.loop-i.invariant (c.in_ok-put_separator.ensures Word)
    (appends_as (ap (λ b. enclosed b (written_cond (cond_tree c.conjunction-item.result))) (sym c.is_conjunction.ensures)) c.in_ok-put_enclosed.ensures)

pub put_conjunctions-returns : goal.put_conjunctions-returns
put_conjunctions-returns t c =
    no_more_conjunctions c.as_slice-conjunction-items.result.now c.loop-i.i _ _ _ c.loop-i-test.false c.loop-i.invariant

pub put_where-returns : goal.put_where-returns
put_where-returns t c =
    let other : is_truth (cond_tree c.args.condition.now) ≡ false = cc in
    on_ok_as c.put_cond.result _ _ (where_is (cond_tree c.args.condition.now) (written_cond (cond_tree c.args.condition.now)) other)
    (last _ _ c.put_cond.result (c.in_ok-put.ensures Word) c.put_cond.ensures)
