use Rattle.std.proofs.Common.{◌≡◌, ◌⊎◌, inl, inr, refl, ap, subst, ◌∙◌, ℕ, List, take}
use Rattle.lois_script.specs.Scope.{DeclarationBreaks, ExprBreaks, BindingBreaks, CondBreaks}
use Rattle.lois_script.specs.Tree.{ExprD, BindingD, CondD, exists, every}
use Rattle.lois_script.specs.View.{tree, binding_tree, bindings_of, cond_tree}
use Rattle.lois_script.specs.Lists.{bindings_list}
use Rattle.lois_script.specs.declared.syntax.Binding.{Binding}
use Rattle.lois_script.specs.declared.syntax.Cond.{Cond}
use Rattle.lois_script.specs.declared.syntax.Expr.{Expr}
use Rattle.lois_script.proofs.Views.{binding_is, tree_Each, cond_Below, cond_Exists, cond_Every}
use Rattle.lois_scope.specs.Breaks.{kept_of}
use Rattle.lois_scope.specs.InScope.{made_of, with_name}
use Rattle.lois_scope.specs.Walks.{SeenD, seen, ComparisonBreaks, Walks, AdvancesScope}
use Rattle.lois_scope.specs.declared.names.Made.TheVariants.{Fixed}
use Rattle.lois_scope.proofs.Walked.{walks_both}
use Rattle.lois_scope.proofs.Lists.{expressions_on, expressions_end, conditions_on, conditions_end, bindings_on, bindings_end, expressions_break, conditions_break, bindings_break, bound_by}
use Rattle.lois_scope.proofs.Nodes.{on_ok, bound_behind, comparison, quantifier, comprehension}
use Rattle.lois_scope.proofs.walk.Walk.+expressions.Goals as goal

pub expressions-loop-item-preserved : goal.expressions-loop-item-preserved
expressions-loop-item-preserved t c =
    expressions_on c.as_slice-item-items.result.now c.loop-item.item-index c.item-item.result (seen c.args.self.now) (seen c.loop-item.self) (seen c.expression.new.self)
    c.loop-item-test.true c.item-item.is c.in_ok-expression.ensures.walked c.loop-item.invariant

pub expressions-returns : goal.expressions-returns
expressions-returns t c = record {
  walked = subst (λ (es : List ExprD). Walks (expressions_break es) (seen c.args.self.now) (seen c.loop-item.self)) c.as_slice-item-items.ensures.items
      (expressions_end c.as_slice-item-items.result.now c.loop-item.item-index (seen c.args.self.now) (seen c.loop-item.self) c.loop-item-test.false c.loop-item.invariant);
}

pub conditions-loop-condition-preserved : goal.conditions-loop-condition-preserved
conditions-loop-condition-preserved t c =
    conditions_on c.as_slice-condition-items.result.now c.loop-condition.condition-index c.condition-item.result (seen c.args.self.now) (seen c.loop-condition.self) (seen c.condition.new.self)
    c.loop-condition-test.true c.condition-item.is c.in_ok-condition.ensures.walked c.loop-condition.invariant

pub conditions-returns : goal.conditions-returns
conditions-returns t c = record {
  walked = subst (λ (cs : List CondD). Walks (conditions_break cs) (seen c.args.self.now) (seen c.loop-condition.self)) c.as_slice-condition-items.ensures.items
      (conditions_end c.as_slice-condition-items.result.now c.loop-condition.condition-index (seen c.args.self.now) (seen c.loop-condition.self) c.loop-condition-test.false c.loop-condition.invariant);
}

pub bindings-loop-binding-preserved : goal.bindings-loop-binding-preserved
bindings-loop-binding-preserved t c =
    let next : SeenD = record { state = record { made = made_of c.declare.new.self; loops = c.binding.new.self.loops; ordered = c.binding.new.self.ordered }; kept = kept_of c.binding.new.self.first } in
    bindings_on c.as_slice-binding-items.result.now c.loop-binding.binding-index c.binding-item.result (seen c.args.self.now) (seen c.loop-binding.self) next
    c.loop-binding-test.true c.binding-item.is
    (bound_behind (BindingBreaks (binding_tree c.binding-item.result)) c.binding-item.result (seen c.loop-binding.self) (seen c.binding.new.self) next c.in_ok-binding.ensures.walked c.in_ok-declare.ensures.added refl refl refl)
    c.loop-binding.invariant

pub bindings-returns : goal.bindings-returns
bindings-returns t c = record {
  walked = subst (λ (bs : List BindingD). AdvancesScope (bindings_break bs) (bound_by bs) (seen c.args.self.now) (seen c.loop-binding.self)) c.as_slice-binding-items.ensures.items
      (bindings_end c.as_slice-binding-items.result.now c.loop-binding.binding-index (seen c.args.self.now) (seen c.loop-binding.self) c.loop-binding-test.false c.loop-binding.invariant);
}

pub binding-returns : goal.binding-returns
binding-returns t c = record {
  walked = on_ok c.expression.result
      (λ h. rw (binding_is c.args.binding.now) (walks_both (DeclarationBreaks c.args.binding.now.name c.args.binding.now.pos.offset) (ExprBreaks (tree c.args.binding.now.from)) (seen c.args.self.now) (seen c.declared.new.self) (seen c.expression.new.self) c.declared.ensures.walked h))
      c.expression.ensures.walked;
}

pub condition-returns-in_ok-expression-in-Same : goal.condition-returns-in_ok-expression-in-Same
condition-returns-in_ok-expression-in-Same t c = record {
  walked = on_ok c.expression-in-Same-2.result
      (λ h. comparison c.args.condition.now c.in-Same.left c.in-Same.right (seen c.args.self.now) (seen c.expression-in-Same-2.new.self) c.in-Same.is
      (walks_both (ExprBreaks (tree c.in-Same.left)) (ExprBreaks (tree c.in-Same.right)) (seen c.args.self.now) (seen c.expression-in-Same.new.self) (seen c.expression-in-Same-2.new.self) c.in_ok-expression-in-Same.ensures.walked h))
      c.expression-in-Same-2.ensures.walked;
}

pub condition-returns-in_ok-expression-in-Below : goal.condition-returns-in_ok-expression-in-Below
condition-returns-in_ok-expression-in-Below t c = record {
  walked =
      let l = tree c.in-Below.left in let r = tree c.in-Below.right in let p = c.in-Below.pos.offset in
      on_ok c.expression-in-Below.result
      (λ h. rw (c.in-Below.is, cond_Below c.in-Below.pos c.in-Below.left c.in-Below.right)
      (walks_both (ExprBreaks l) (λ s rule at. ComparisonBreaks p s rule at ⊎ ExprBreaks r s rule at) (seen c.args.self.now) (seen c.expression.new.self) (seen c.expression-in-Below.new.self)
      c.in_ok-expression-in-Below.ensures.walked
      (walks_both (ComparisonBreaks p) (ExprBreaks r) (seen c.expression.new.self) (seen c.compared.new.self) (seen c.expression-in-Below.new.self) c.compared.ensures.walked h)))
      c.expression-in-Below.ensures.walked;
}

pub condition-returns-in_ok-condition-in-Exists : goal.condition-returns-in_ok-condition-in-Exists
condition-returns-in_ok-condition-in-Exists t c = record {
  walked =
      let b = c.in-Exists.binding.value in let body = c.in-Exists.body.value in
      let a = seen c.args.self.now in let w = seen c.binding.new.self in let k = seen c.condition-in-Exists.new.self in
      let d : SeenD = record { state = record { made = made_of c.declare.new.self; loops = c.binding.new.self.loops; ordered = c.binding.new.self.ordered }; kept = kept_of c.binding.new.self.first } in
      let z : SeenD = record { state = record { made = made_of c.keep_first.new.self; loops = c.condition-in-Exists.new.self.loops; ordered = c.condition-in-Exists.new.self.ordered }; kept = kept_of c.condition-in-Exists.new.self.first } in
      let is : (cond_tree c.args.condition.now ≡ exists (binding_tree b) (cond_tree body)) ⊎ (cond_tree c.args.condition.now ≡ every (binding_tree b) (cond_tree body)) =
      elim c.in-Exists.is as (λ y. (cond_tree c.args.condition.now ≡ exists (binding_tree b) (cond_tree body)) ⊎ (cond_tree c.args.condition.now ≡ every (binding_tree b) (cond_tree body))) [
        | inl e ↦ inl (ap cond_tree e ∙ cond_Exists c.in-Exists.binding c.in-Exists.body)
        | inr e ↦ inr (ap cond_tree e ∙ cond_Every c.in-Exists.binding c.in-Exists.body)
      ] in
      let walked : Walks (BindingBreaks (binding_tree b)) a w = subst (λ (x : Binding). Walks (BindingBreaks (binding_tree x)) a w) c.deref-in-Exists.ensures c.in_ok-binding-in-Exists.ensures.walked in
      let added : made_of c.declare.new.self ≡ with_name (made_of c.binding.new.self.names) b.name Fixed = subst (λ (x : Binding). made_of c.declare.new.self ≡ with_name (made_of c.binding.new.self.names) x.name Fixed) c.deref-in-Exists-2.ensures c.in_ok-declare-in-Exists.ensures.added in
      let inside : Walks (CondBreaks (cond_tree body)) d k = subst (λ (x : Cond). Walks (CondBreaks (cond_tree x)) d k) c.deref-in-Exists-3.ensures c.in_ok-condition-in-Exists.ensures.walked in
      quantifier (cond_tree c.args.condition.now) (binding_tree b) (cond_tree body) a d k z is
      (bound_behind (BindingBreaks (binding_tree b)) b a w d walked added refl refl refl)
      inside (c.keep_first.ensures.kept ∙ ap (λ (n : ℕ). take n (made_of c.condition-in-Exists.new.self.names)) c.len-outside.ensures.counted) refl refl refl;
}

pub expression-returns-in_ok-condition-in-Each : goal.expression-returns-in_ok-condition-in-Each
expression-returns-in_ok-condition-in-Each t c = record {
  walked =
      let e = c.in-Each.item.value in let bs = bindings_of (bindings_list c.in-Each.bindings) in let g = c.in-Each.guard.value in
      let a = seen c.args.self.now in let d = seen c.bindings.new.self in let k = seen c.expression.new.self in let m = seen c.condition.new.self in
      let z : SeenD = record { state = record { made = made_of c.keep_first.new.self; loops = c.condition.new.self.loops; ordered = c.condition.new.self.ordered }; kept = kept_of c.condition.new.self.first } in
      let item : Walks (ExprBreaks (tree e)) d k = subst (λ (x : Expr). Walks (ExprBreaks (tree x)) d k) c.deref.ensures c.in_ok-expression-in-Each.ensures.walked in
      let guard : Walks (CondBreaks (cond_tree g)) k m = subst (λ (x : Cond). Walks (CondBreaks (cond_tree x)) k m) c.deref-in-Each.ensures c.in_ok-condition-in-Each.ensures.walked in
      rw (c.in-Each.is, tree_Each c.in-Each.field-0 c.in-Each.item c.in-Each.bindings c.in-Each.guard)
      (comprehension (tree e) bs (cond_tree g) a d k m z c.in_ok-bindings-in-Each.ensures.walked item guard (c.keep_first.ensures.kept ∙ ap (λ (n : ℕ). take n (made_of c.condition.new.self.names)) c.len-outside.ensures.counted) refl refl refl);
}
