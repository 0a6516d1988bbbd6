use Rattle.std.proofs.Common.{◌⊎◌, ℕ, List, map, take, refl, ap, subst, ◌∙◌}
use Rattle.lois_script.specs.Scope.{AssignBreaks, AddBreaks, UseBreaks, ExprBreaks, CondBreaks, StmtBreaks, StmtsBreak}
use Rattle.lois_script.specs.Tree.{StmtD, for}
use Rattle.lois_script.specs.View.{tree, binding_tree, cond_tree, stmts_of, stmts_list}
use Rattle.lois_script.specs.Lists.{stmt_tree}
use Rattle.lois_script.proofs.Views.{stmt_Let, stmt_Assign, stmt_Add, stmt_For, stmt_If, stmt_While, stmt_Assert, stmt_Print}
use Rattle.lois_scope.specs.Breaks.{kept_of}
use Rattle.lois_scope.specs.InScope.{made_of}
use Rattle.lois_scope.specs.Walks.{SeenD, seen, PrintBreaks, Walks}
use Rattle.lois_scope.proofs.Alike.{Part}
use Rattle.lois_scope.proofs.Walked.{walks_both, walks_cut, leads_walked}
use Rattle.lois_scope.proofs.Lists.{statements_on, statements_end, statements_break, behind_all}
use Rattle.lois_scope.proofs.Loops.{let_behind, loop_behind}
use Rattle.lois_scope.proofs.Nodes.{on_ok}
use Rattle.lois_scope.proofs.walk.Walk.+statements.Goals as goal

pub block-loop-statement-preserved : goal.block-loop-statement-preserved
block-loop-statement-preserved t c = record {
  within = c.in_ok-statement.ensures.walked.within c.loop-statement.invariant.within;
  walked = statements_on c.as_slice-statement-items.result.now c.loop-statement.statement-index c.statement-item.result (seen c.args.self.now) (seen c.loop-statement.self) (seen c.statement.new.self)
      c.loop-statement-test.true c.statement-item.is c.in_ok-statement.ensures.walked c.loop-statement.invariant.walked;
}

pub block-returns : goal.block-returns
block-returns t c = record {
  walked =
      let a = seen c.args.self.now in let b = seen c.loop-statement.self in
      let z : SeenD = record { state = record { made = made_of c.keep_first.new.self; loops = c.loop-statement.self.loops; ordered = c.loop-statement.self.ordered }; kept = kept_of c.loop-statement.self.first } in
      let items = map stmt_tree c.as_slice-statement-items.result.now in
      let led = statements_end c.as_slice-statement-items.result.now c.loop-statement.statement-index a b c.loop-statement-test.false c.loop-statement.invariant.walked in
      subst (λ (l : List StmtD). Walks (statements_break l) a z) c.as_slice-statement-items.ensures.items
      (walks_cut (statements_break items) (behind_all items) a b z led (c.keep_first.ensures.kept ∙ ap (λ (n : ℕ). take n (made_of c.loop-statement.self.names)) c.len-outside.ensures.counted) refl refl refl);
}

pub statement-returns-in_ok-expression-in-Let : goal.statement-returns-in_ok-expression-in-Let
statement-returns-in_ok-expression-in-Let t c = record {
  walked =
      let z : SeenD = record { state = record { made = made_of c.declare.new.self; loops = c.expression.new.self.loops; ordered = c.expression.new.self.ordered }; kept = kept_of c.expression.new.self.first } in
      on_ok c.declare.result
      (λ h. rw (c.in-Let.is, stmt_Let c.in-Let.pos c.in-Let.name c.in-Let.value)
      (let_behind c.in-Let.pos.offset c.in-Let.name (tree c.in-Let.value) (seen c.args.self.now) (seen c.declared.new.self) (seen c.expression.new.self) z c.declared.ensures.walked c.in_ok-expression-in-Let.ensures.walked h refl refl refl))
      c.declare.ensures.added;
}

pub statement-returns-in-Assign : goal.statement-returns-in-Assign
statement-returns-in-Assign t c = record {
  walked =
      let P : Part = λ s rule at. AssignBreaks c.in-Assign.name c.in-Assign.pos.offset s rule at ⊎ ExprBreaks (tree c.in-Assign.value) s rule at in
      on_ok c.expression-in-Assign.result
      (λ h. rw (c.in-Assign.is, stmt_Assign c.in-Assign.pos c.in-Assign.name c.in-Assign.value)
      (leads_walked P (seen c.args.self.now) (seen c.expression-in-Assign.new.self)
      (walks_both (AssignBreaks c.in-Assign.name c.in-Assign.pos.offset) (ExprBreaks (tree c.in-Assign.value)) (seen c.args.self.now) (seen c.assigned.new.self) (seen c.expression-in-Assign.new.self) c.assigned.ensures.walked h)))
      c.expression-in-Assign.ensures.walked;
}

pub statement-returns-in_ok-expression-in-Add : goal.statement-returns-in_ok-expression-in-Add
statement-returns-in_ok-expression-in-Add t c = record {
  walked =
      let P : Part = λ s rule at. ExprBreaks (tree c.in-Add.value) s rule at ⊎ AddBreaks c.in-Add.name c.in-Add.pos.offset s rule at in
      rw (c.in-Add.is, stmt_Add c.in-Add.value c.in-Add.pos c.in-Add.name)
      (leads_walked P (seen c.args.self.now) (seen c.added.new.self)
      (walks_both (ExprBreaks (tree c.in-Add.value)) (AddBreaks c.in-Add.name c.in-Add.pos.offset) (seen c.args.self.now) (seen c.expression-in-Add.new.self) (seen c.added.new.self) c.in_ok-expression-in-Add.ensures.walked c.added.ensures.walked));
}

pub statement-returns-in_ok-block-in-For : goal.statement-returns-in_ok-block-in-For
statement-returns-in_ok-block-in-For t c = record {
  walked =
      let b = binding_tree c.in-For.binding in let g = cond_tree c.in-For.guard in let body = stmts_of (stmts_list c.in-For.body) in
      let a = seen c.args.self.now in let m = seen c.enter_loop.new.self in let k = seen c.block.new.self in let z = seen c.leave_loop.new.self in
      rw (c.in-For.is, stmt_For c.in-For.binding c.in-For.guard c.in-For.body)
      (leads_walked (StmtBreaks (for b g body)) a z
      (loop_behind b g body a m k z c.in_ok-enter_loop-in-For.ensures.entered c.in_ok-block-in-For.ensures.walked
      (c.leave_loop.ensures.names ∙ ap (λ (n : ℕ). take n (made_of c.block.new.self.names)) c.len-outside.ensures.counted)
      c.leave_loop.ensures.loops c.leave_loop.ensures.ordered (ap kept_of c.leave_loop.ensures.first)));
}

pub statement-returns-in_ok-block-in-If : goal.statement-returns-in_ok-block-in-If
statement-returns-in_ok-block-in-If t c = record {
  walked =
      let g = cond_tree c.in-If.condition in let yes = stmts_of (stmts_list c.in-If.yes) in let no = stmts_of (stmts_list c.in-If.no) in
      let a = seen c.args.self.now in let w = seen c.condition.new.self in let k = seen c.block-in-If.new.self in let z = seen c.block-in-If-2.new.self in
      let Q : Part = λ s rule at. StmtsBreak yes s rule at ⊎ StmtsBreak no s rule at in
      let P : Part = λ s rule at. CondBreaks g s rule at ⊎ Q s rule at in
      on_ok c.block-in-If-2.result
      (λ h. rw (c.in-If.is, stmt_If c.in-If.condition c.in-If.yes c.in-If.no)
      (leads_walked P a z (walks_both (CondBreaks g) Q a w z c.in_ok-condition-in-If.ensures.walked (walks_both (StmtsBreak yes) (StmtsBreak no) w k z c.in_ok-block-in-If.ensures.walked h))))
      c.block-in-If-2.ensures.walked;
}

pub statement-returns-in_ok-condition-in-While : goal.statement-returns-in_ok-condition-in-While
statement-returns-in_ok-condition-in-While t c = record {
  walked =
      let g = cond_tree c.in-While.condition in let body = stmts_of (stmts_list c.in-While.body) in
      let a = seen c.args.self.now in let w = seen c.condition-in-While.new.self in let z = seen c.block-in-While.new.self in
      let P : Part = λ s rule at. CondBreaks g s rule at ⊎ StmtsBreak body s rule at in
      on_ok c.block-in-While.result
      (λ h. rw (c.in-While.is, stmt_While c.in-While.field-0 c.in-While.condition c.in-While.field-2 c.in-While.body)
      (leads_walked P a z (walks_both (CondBreaks g) (StmtsBreak body) a w z c.in_ok-condition-in-While.ensures.walked h)))
      c.block-in-While.ensures.walked;
}

pub statement-returns-in-Assert : goal.statement-returns-in-Assert
statement-returns-in-Assert t c = record {
  walked = on_ok c.condition-in-Assert.result
      (λ h. rw (c.in-Assert.is, stmt_Assert c.in-Assert.field-0 c.in-Assert.condition)
      (leads_walked (CondBreaks (cond_tree c.in-Assert.condition)) (seen c.args.self.now) (seen c.condition-in-Assert.new.self) h))
      c.condition-in-Assert.ensures.walked;
}

pub statement-returns-in-Print : goal.statement-returns-in-Print
statement-returns-in-Print t c = record {
  walked =
      let a = seen c.args.self.now in let w = seen c.printed.new.self in let z = seen c.used.new.self in
      let P : Part = λ s rule at. PrintBreaks c.in-Print.pos.offset s rule at ⊎ UseBreaks c.in-Print.name c.in-Print.at.offset s rule at in
      rw (c.in-Print.is, stmt_Print c.in-Print.pos c.in-Print.at c.in-Print.name)
      (leads_walked P a z (walks_both (PrintBreaks c.in-Print.pos.offset) (UseBreaks c.in-Print.name c.in-Print.at.offset) a w z c.printed.ensures.walked c.used.ensures.walked));
}
