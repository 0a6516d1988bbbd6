use Rattle.std.proofs.Common.{◌<◌, length, sym, ap, ◌∙◌, arith}
use Rattle.lois_lexer.specs.declared.TokenKind.TheVariants.{Name, Word, Symbol}
use Rattle.lois_script.specs.View.{stmts_list, stmts_of}
use Rattle.lois_script.specs.Lists.{stmt_tree}
use Rattle.lois_script.proofs.Views.{stmt_Let, stmt_Assign, stmt_Add, stmt_For, stmt_If, stmt_While, stmt_Assert, stmt_Print}
use Rattle.lois_script_printer.specs.Printed.{followed_by_blank, written_stmt, written_stmts}
use Rattle.lois_script_printer.proofs.Appending.{◌then◌, last, on_ok_as, appends_as, start, one_more_stmt, no_more_stmts, else_is}
use Rattle.lois_script_printer.proofs.statements.+printing_statements.Goals as goal

pub put_else-returns : goal.put_else-returns
put_else-returns t c =
    let more : 0 < length (stmts_list c.args.body.now) = omega (arith, c.if-len-eq0.false, c.len.ensures.counted) in
    on_ok_as c.put_block.result _ _ (else_is (stmts_list c.args.body.now) (written_stmts (stmts_of (stmts_list c.args.body.now))) more)
    (last _ _ c.put_block.result (c.in_ok-put.ensures Word) c.put_block.ensures)

pub put_block-returns : goal.put_block-returns
put_block-returns t c =
    last _ _ c.put_line_end-2.result (c.in_ok-put_line_end.ensures then c.in_ok-put_stmts.ensures) c.put_line_end-2.ensures

pub put_stmt-returns-in_ok-put_expr-in-Let : goal.put_stmt-returns-in_ok-put_expr-in-Let
put_stmt-returns-in_ok-put_expr-in-Let t c =
    on_ok_as c.put_line_end.result _ _ (ap written_stmt (ap stmt_tree c.in-Let.is ∙ stmt_Let _ _ _))
    (last _ _ c.put_line_end.result (c.in_ok-put-in-Let.ensures Word then appends_as (ap (followed_by_blank Name) (sym c.bytes.ensures.same)) (c.in_ok-put-in-Let-2.ensures Name) then c.in_ok-put-in-Let-3.ensures Symbol then c.in_ok-put_expr-in-Let.ensures) c.put_line_end.ensures)

pub put_stmt-returns-in_ok-put_expr-in-Assign : goal.put_stmt-returns-in_ok-put_expr-in-Assign
put_stmt-returns-in_ok-put_expr-in-Assign t c =
    on_ok_as c.put_line_end-in-Assign.result _ _ (ap written_stmt (ap stmt_tree c.in-Assign.is ∙ stmt_Assign _ _ _))
    (last _ _ c.put_line_end-in-Assign.result (appends_as (ap (followed_by_blank Name) (sym c.bytes-in-Assign.ensures.same)) (c.in_ok-put-in-Assign.ensures Name) then c.in_ok-put-in-Assign-2.ensures Symbol then c.in_ok-put_expr-in-Assign.ensures) c.put_line_end-in-Assign.ensures)

pub put_stmt-returns-in_ok-put-in-Add-3 : goal.put_stmt-returns-in_ok-put-in-Add-3
put_stmt-returns-in_ok-put-in-Add-3 t c =
    on_ok_as c.put_line_end-in-Add.result _ _ (ap written_stmt (ap stmt_tree c.in-Add.is ∙ stmt_Add _ _ _))
    (last _ _ c.put_line_end-in-Add.result (c.in_ok-put-in-Add.ensures Word then c.in_ok-put_expr-in-Add.ensures then c.in_ok-put-in-Add-2.ensures Word then appends_as (ap (followed_by_blank Name) (sym c.bytes-in-Add.ensures.same)) (c.in_ok-put-in-Add-3.ensures Name)) c.put_line_end-in-Add.ensures)

pub put_stmt-returns-in_ok-put_where-in-For : goal.put_stmt-returns-in_ok-put_where-in-For
put_stmt-returns-in_ok-put_where-in-For t c =
    on_ok_as c.put_block.result _ _ (ap written_stmt (ap stmt_tree c.in-For.is ∙ stmt_For _ _ _))
    (last _ _ c.put_block.result (c.in_ok-put-in-For.ensures Word then c.in_ok-put_binding-in-For.ensures then c.in_ok-put_where-in-For.ensures) c.put_block.ensures)

pub put_stmt-returns-in_ok-put_block-in-If : goal.put_stmt-returns-in_ok-put_block-in-If
put_stmt-returns-in_ok-put_block-in-If t c =
    on_ok_as c.put_else.result _ _ (ap written_stmt (ap stmt_tree c.in-If.is ∙ stmt_If _ _ _))
    (last _ _ c.put_else.result (c.in_ok-put-in-If.ensures Word then c.in_ok-put_cond-in-If.ensures then c.in_ok-put_block-in-If.ensures) c.put_else.ensures)

pub put_stmt-returns-in_ok-put_number-in-While : goal.put_stmt-returns-in_ok-put_number-in-While
put_stmt-returns-in_ok-put_number-in-While t c =
    on_ok_as c.put_block-in-While.result _ _ (ap written_stmt (ap stmt_tree c.in-While.is ∙ stmt_While _ _ _ _))
    (last _ _ c.put_block-in-While.result (c.in_ok-put-in-While.ensures Word then c.in_ok-put_cond-in-While.ensures then c.in_ok-put-in-While-2.ensures Word then c.in_ok-put_number-in-While.ensures) c.put_block-in-While.ensures)

pub put_stmt-returns-in_ok-put_cond-in-Assert : goal.put_stmt-returns-in_ok-put_cond-in-Assert
put_stmt-returns-in_ok-put_cond-in-Assert t c =
    on_ok_as c.put_line_end-in-Assert.result _ _ (ap written_stmt (ap stmt_tree c.in-Assert.is ∙ stmt_Assert _ _))
    (last _ _ c.put_line_end-in-Assert.result (c.in_ok-put-in-Assert.ensures Word then c.in_ok-put_cond-in-Assert.ensures) c.put_line_end-in-Assert.ensures)

pub put_stmt-returns-in_ok-put-in-Print-2 : goal.put_stmt-returns-in_ok-put-in-Print-2
put_stmt-returns-in_ok-put-in-Print-2 t c =
    on_ok_as c.put_line_end-in-Print.result _ _ (ap written_stmt (ap stmt_tree c.in-Print.is ∙ stmt_Print _ _ _))
    (last _ _ c.put_line_end-in-Print.result (c.in_ok-put-in-Print.ensures Word then appends_as (ap (followed_by_blank Name) (sym c.bytes-in-Print.ensures.same)) (c.in_ok-put-in-Print-2.ensures Name)) c.put_line_end-in-Print.ensures)

pub put_stmts-loop-statement-init : goal.put_stmts-loop-statement-init
put_stmts-loop-statement-init t c =
    start _ (λ l. written_stmts (stmts_of l)) _ _ c.as_slice-statement-items.ensures.items

pub put_stmts-loop-statement-preserved : goal.put_stmts-loop-statement-preserved
put_stmts-loop-statement-preserved t c =
    one_more_stmt c.as_slice-statement-items.result.now c.loop-statement.statement-index c.statement-item.result _ _ _ _ c.loop-statement-test.true c.statement-item.is c.loop-statement.invariant c.in_ok-put_stmt.ensures

pub put_stmts-returns : goal.put_stmts-returns
put_stmts-returns t c =
    no_more_stmts c.as_slice-statement-items.result.now c.loop-statement.statement-index _ _ _ c.loop-statement-test.false c.loop-statement.invariant
