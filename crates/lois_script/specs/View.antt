-- What the syntax tree says, as the data of `Tree`.
use Rattle.std.specs.Prelude.{List, [], ◌∷◌, map}
use Rattle.lois_script.specs.Tree.{ExprD, atoms, var, tag, tuple, listed, each, part, apply, ExprsD, no_exprs, expr, BindingD, binding, BindingsD, no_bindings, bind, CondD, truth, falsity, same, differ, below, member, included, empty, not, all, any, exists, every, CondsD, no_conds, cond, StmtD, «let», assign, add, for, if, while, assert, print, StmtsD, no_stmts, stmt, ParamD, ScriptD}
use Rattle.lois_script.specs.declared.syntax.Expr.{Expr}
use Rattle.lois_script.specs.declared.syntax.Cond.{Cond}
use Rattle.lois_script.specs.declared.syntax.Binding.{Binding}
use Rattle.lois_script.specs.declared.syntax.Cond.TheFolds.{fold-Cond, fold-Expr, fold-Binding}
use Rattle.lois_script.specs.declared.syntax.Cond.TheOpen.{Cond-F, Expr-F, Binding-F, Bindings-F, Conds-F, Exprs-F}
use Rattle.lois_script.specs.declared.script.Stmts.{Stmts}
use Rattle.lois_script.specs.declared.script.Stmt.TheFolds.{fold-Stmts}
use Rattle.lois_script.specs.declared.script.Stmt.TheOpen.{Stmt-F, Stmts-F}
use Rattle.lois_script.specs.declared.script.Param.{Param}
use Rattle.lois_script.specs.declared.script.Params.{Params}
use Rattle.lois_script.specs.declared.script.Script.{Script}

-- plain lists as the lists inside the data
abbrev pub exprs_of : List ExprD → ExprsD
exprs_of [] = no_exprs
exprs_of (e ∷ es) = expr e (exprs_of es)

abbrev pub bindings_of : List BindingD → BindingsD
bindings_of [] = no_bindings
bindings_of (b ∷ bs) = bind b (bindings_of bs)

abbrev pub conds_of : List CondD → CondsD
conds_of [] = no_conds
conds_of (c ∷ cs) = cond c (conds_of cs)

abbrev pub stmts_of : List StmtD → StmtsD
stmts_of [] = no_stmts
stmts_of (a ∷ l) = stmt a (stmts_of l)

-- one layer, with each tree inside already seen as its data
abbrev pub cond_step : Cond-F CondD ExprD BindingD (List BindingD) (List CondD) (List ExprD) → CondD
cond_step Cond-F.True = truth
cond_step Cond-F.False = falsity
cond_step (Cond-F.Same e f) = same e f
cond_step (Cond-F.Differ e f) = differ e f
cond_step (Cond-F.Below p e f) = below p.offset e f
cond_step (Cond-F.Member e f) = member e f
cond_step (Cond-F.Included e f) = included e f
cond_step (Cond-F.Empty e) = empty e
cond_step (Cond-F.Not c) = not c.value
cond_step (Cond-F.All cs) = all (conds_of cs)
cond_step (Cond-F.Any cs) = any (conds_of cs)
cond_step (Cond-F.Exists b c) = exists b.value c.value
cond_step (Cond-F.Every b c) = every b.value c.value

abbrev pub expr_step : Expr-F CondD ExprD BindingD (List BindingD) (List CondD) (List ExprD) → ExprD
expr_step (Expr-F.Atoms p) = atoms p.offset
expr_step (Expr-F.Var p n) = var p.offset n
expr_step (Expr-F.Tag p n) = tag p.offset n
expr_step (Expr-F.Tuple p es) = tuple p.offset (exprs_of es)
expr_step (Expr-F.Listed p es) = listed p.offset (exprs_of es)
expr_step (Expr-F.Each p e bs c) = each p.offset e.value (bindings_of bs) c.value
expr_step (Expr-F.Part p e n) = part p.offset e.value n
expr_step (Expr-F.Apply p op es) = apply p.offset op (exprs_of es)

abbrev pub binding_step : Binding-F CondD ExprD BindingD (List BindingD) (List CondD) (List ExprD) → BindingD
binding_step b = binding b.pos.offset b.name b.from

abbrev pub bindings_step : Bindings-F CondD ExprD BindingD (List BindingD) (List CondD) (List ExprD) → List BindingD
bindings_step bs = bs.items.items

abbrev pub conds_step : Conds-F CondD ExprD BindingD (List BindingD) (List CondD) (List ExprD) → List CondD
conds_step cs = cs.items.items

abbrev pub exprs_step : Exprs-F CondD ExprD BindingD (List BindingD) (List CondD) (List ExprD) → List ExprD
exprs_step es = es.items.items

abbrev pub tree : Expr → ExprD
tree = fold-Expr CondD ExprD BindingD (List BindingD) (List CondD) (List ExprD) cond_step expr_step binding_step bindings_step conds_step exprs_step

abbrev pub cond_tree : Cond → CondD
cond_tree = fold-Cond CondD ExprD BindingD (List BindingD) (List CondD) (List ExprD) cond_step expr_step binding_step bindings_step conds_step exprs_step

abbrev pub binding_tree : Binding → BindingD
binding_tree = fold-Binding CondD ExprD BindingD (List BindingD) (List CondD) (List ExprD) cond_step expr_step binding_step bindings_step conds_step exprs_step

abbrev pub stmt_step : Stmt-F StmtD (List StmtD) → StmtD
stmt_step (Stmt-F.Let p n e) = «let» p.offset n (tree e)
stmt_step (Stmt-F.Assign p n e) = assign p.offset n (tree e)
stmt_step (Stmt-F.Add e p n) = add (tree e) p.offset n
stmt_step (Stmt-F.For b c body) = for (binding_tree b) (cond_tree c) (stmts_of body)
stmt_step (Stmt-F.If c a b) = if (cond_tree c) (stmts_of a) (stmts_of b)
stmt_step (Stmt-F.While p c n body) = while p.offset (cond_tree c) n (stmts_of body)
stmt_step (Stmt-F.Assert p c) = assert p.offset (cond_tree c)
stmt_step (Stmt-F.Print p q n) = print p.offset q.offset n

abbrev pub stmts_step : Stmts-F StmtD (List StmtD) → List StmtD
stmts_step l = l.items.items

abbrev pub stmts_list : Stmts → List StmtD
stmts_list = fold-Stmts StmtD (List StmtD) stmt_step stmts_step

abbrev pub param_tree : Param → ParamD
param_tree p = record { place = p.pos.offset; name = p.name }

abbrev pub params_list : Params → List ParamD
params_list ps = map param_tree ps.items.items

abbrev pub script_tree : Script → ScriptD
script_tree s =
    record { ordered = s.order; parameters = params_list s.parameters; body = stmts_of (stmts_list s.body) }
