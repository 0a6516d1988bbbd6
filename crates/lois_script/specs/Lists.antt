-- Lists of trees: as data, the trees that they hold, and the places of those.
use Rattle.std.specs.Prelude.{List, ℕ, [], ◌∷◌}
use Rattle.lois_script.specs.Tree.{ExprD, BindingD, CondD, StmtD, ExprsD, no_exprs, expr, pos}
use Rattle.lois_script.specs.declared.syntax.Expr.{Expr}
use Rattle.lois_script.specs.declared.syntax.Cond.{Cond}
use Rattle.lois_script.specs.declared.syntax.Binding.{Binding}
use Rattle.lois_script.specs.declared.syntax.Exprs.{Exprs}
use Rattle.lois_script.specs.declared.syntax.Bindings.{Bindings, out-Bindings}
use Rattle.lois_script.specs.declared.syntax.Conds.{Conds}
use Rattle.lois_script.specs.declared.syntax.Cond.TheFolds.{fold-Bindings, fold-Conds, fold-Exprs}
use Rattle.lois_script.specs.declared.script.Stmt.{Stmt, fold-Stmt}
use Rattle.lois_script.specs.declared.script.Stmts.{Stmts}
use Rattle.lois_script.specs.View.{cond_step, expr_step, binding_step, bindings_step, conds_step, exprs_step, stmt_step, stmts_step}

abbrev pub exprs_list : Exprs → List ExprD
exprs_list = fold-Exprs CondD ExprD BindingD (List BindingD) (List CondD) (List ExprD) cond_step expr_step binding_step bindings_step conds_step exprs_step

abbrev pub bindings_list : Bindings → List BindingD
bindings_list = fold-Bindings CondD ExprD BindingD (List BindingD) (List CondD) (List ExprD) cond_step expr_step binding_step bindings_step conds_step exprs_step

abbrev pub conds_list : Conds → List CondD
conds_list = fold-Conds CondD ExprD BindingD (List BindingD) (List CondD) (List ExprD) cond_step expr_step binding_step bindings_step conds_step exprs_step

abbrev pub stmt_tree : Stmt → StmtD
stmt_tree = fold-Stmt StmtD (List StmtD) stmt_step stmts_step

-- the items that a list holds
abbrev pub exprs_held : Exprs → List Expr
exprs_held es = es.items.items

abbrev pub bindings_held : Bindings → List Binding
bindings_held bs = (out-Bindings bs).items.items

abbrev pub conds_held : Conds → List Cond
conds_held cs = cs.items.items

abbrev pub stmts_held : Stmts → List Stmt
stmts_held l = l.items.items

abbrev pub positions : ExprsD → List ℕ
positions no_exprs = []
positions (expr e rest) = pos e ∷ positions rest
