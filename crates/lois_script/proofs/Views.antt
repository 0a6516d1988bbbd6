-- The views of the trees, one layer at a time.
use Rattle.std.proofs.Common.{◌≡◌, ℕ, List, map, ap, sym, ◌∙◌}
use Rattle.lois_base.specs.declared.words.Name.{Name}
use Rattle.lois_script.specs.Tree.{ExprD, atoms, var, tag, tuple, listed, each, part, apply, BindingD, binding, CondD, truth, falsity, same, differ, below, member, included, empty, not, all, any, exists, every, StmtD, «let», assign, add, for, if, while, assert, print}
use Rattle.lois_script.specs.View.{exprs_of, bindings_of, conds_of, stmts_of, cond_step, expr_step, binding_step, bindings_step, conds_step, exprs_step, tree, cond_tree, binding_tree, stmt_step, stmts_step, stmts_list}
use Rattle.lois_script.specs.Lists.{exprs_list, bindings_list, conds_list, stmt_tree, exprs_held, bindings_held, conds_held, stmts_held}
use Rattle.lois_script.specs.declared.syntax.Cond.TheFolds.{fold_out-Exprs, fold_out-Binding, fold_out-Bindings, fold_out-Conds, fold-roll-Expr, fold-roll-Cond}
use Rattle.lois_script.specs.declared.syntax.Cond.TheOpen.{Expr-F, Cond-F}
use Rattle.lois_script.specs.declared.syntax.Pos.{Pos}
use Rattle.lois_script.specs.declared.syntax.Operation.{Operation}
use Rattle.lois_script.specs.declared.syntax.Expr.{Expr}
use Rattle.lois_script.specs.declared.syntax.Expr.TheVariants.{Atoms, Var, Tag, Tuple, Listed, Each, Part, Apply, rolls-Atoms, rolls-Var, rolls-Tag, rolls-Tuple, rolls-Listed, rolls-Each, rolls-Part, rolls-Apply}
use Rattle.lois_script.specs.declared.syntax.Exprs.{Exprs}
use Rattle.lois_script.specs.declared.syntax.Bindings.{Bindings}
use Rattle.lois_script.specs.declared.syntax.Conds.{Conds}
use Rattle.lois_script.specs.declared.syntax.Binding.{Binding}
use Rattle.lois_script.specs.declared.syntax.Cond.TheVariants.{True, False, Same, Differ, Below, Member, Included, Empty, Not, All, Any, Exists, Every, rolls-True, rolls-False, rolls-Same, rolls-Differ, rolls-Below, rolls-Member, rolls-Included, rolls-Empty, rolls-Not, rolls-All, rolls-Any, rolls-Exists, rolls-Every}
use Rattle.lois_script.specs.declared.syntax.Cond.{Cond}
use Rattle.lois_script.specs.declared.script.Stmt.TheFolds.{fold_out-Stmts, fold-roll-Stmt}
use Rattle.lois_script.specs.declared.script.Stmt.TheOpen.{Stmt-F}
use Rattle.lois_script.specs.declared.script.Stmt.TheVariants.{Let, Assign, Add, For, If, While, Assert, Print, rolls-Let, rolls-Assign, rolls-Add, rolls-For, rolls-If, rolls-While, rolls-Assert, rolls-Print}
use Rattle.lois_script.specs.declared.script.Stmts.{Stmts}

pub exprs_items : (es : Exprs) → exprs_list es ≡ map tree (exprs_held es)
exprs_items es = fold_out-Exprs CondD ExprD BindingD (List BindingD) (List CondD) (List ExprD) cond_step expr_step binding_step bindings_step conds_step exprs_step es

pub bindings_items : (bs : Bindings) → bindings_list bs ≡ map binding_tree (bindings_held bs)
bindings_items bs = fold_out-Bindings CondD ExprD BindingD (List BindingD) (List CondD) (List ExprD) cond_step expr_step binding_step bindings_step conds_step exprs_step bs

pub binding_is : (b : Binding) → binding_tree b ≡ binding b.pos.offset b.name (tree b.from)
binding_is b = fold_out-Binding CondD ExprD BindingD (List BindingD) (List CondD) (List ExprD) cond_step expr_step binding_step bindings_step conds_step exprs_step b

pub conds_items : (cs : Conds) → conds_list cs ≡ map cond_tree (conds_held cs)
conds_items cs = fold_out-Conds CondD ExprD BindingD (List BindingD) (List CondD) (List ExprD) cond_step expr_step binding_step bindings_step conds_step exprs_step cs

pub stmts_items : (l : Stmts) → stmts_list l ≡ map stmt_tree (stmts_held l)
stmts_items l = fold_out-Stmts StmtD (List StmtD) stmt_step stmts_step l

pub tree_Atoms : (p : Pos) → tree (Atoms p) ≡ atoms p.offset
tree_Atoms p = ap tree (sym (rolls-Atoms p)) ∙ fold-roll-Expr CondD ExprD BindingD (List BindingD) (List CondD) (List ExprD) cond_step expr_step binding_step bindings_step conds_step exprs_step (Expr-F.Atoms p)

pub tree_Var : (p : Pos) (n : Name) → tree (Var p n) ≡ var p.offset n
tree_Var p n = ap tree (sym (rolls-Var p n)) ∙ fold-roll-Expr CondD ExprD BindingD (List BindingD) (List CondD) (List ExprD) cond_step expr_step binding_step bindings_step conds_step exprs_step (Expr-F.Var p n)

pub tree_Tuple : (p : Pos) (es : Exprs) → tree (Tuple p es) ≡ tuple p.offset (exprs_of (exprs_list es))
tree_Tuple p es = ap tree (sym (rolls-Tuple p es)) ∙ fold-roll-Expr CondD ExprD BindingD (List BindingD) (List CondD) (List ExprD) cond_step expr_step binding_step bindings_step conds_step exprs_step (Expr-F.Tuple p es)

pub tree_Listed : (p : Pos) (es : Exprs) → tree (Listed p es) ≡ listed p.offset (exprs_of (exprs_list es))
tree_Listed p es = ap tree (sym (rolls-Listed p es)) ∙ fold-roll-Expr CondD ExprD BindingD (List BindingD) (List CondD) (List ExprD) cond_step expr_step binding_step bindings_step conds_step exprs_step (Expr-F.Listed p es)

pub tree_Apply : (p : Pos) (op : Operation) (es : Exprs) → tree (Apply p op es) ≡ apply p.offset op (exprs_of (exprs_list es))
tree_Apply p op es = ap tree (sym (rolls-Apply p op es)) ∙ fold-roll-Expr CondD ExprD BindingD (List BindingD) (List CondD) (List ExprD) cond_step expr_step binding_step bindings_step conds_step exprs_step (Expr-F.Apply p op es)

pub tree_Each : (p : Pos) (e : _) (bs : Bindings) (c : _) → tree (Each p e bs c) ≡ each p.offset (tree e.value) (bindings_of (bindings_list bs)) (cond_tree c.value)
tree_Each p e bs c = ap tree (sym (rolls-Each p e bs c)) ∙ fold-roll-Expr CondD ExprD BindingD (List BindingD) (List CondD) (List ExprD) cond_step expr_step binding_step bindings_step conds_step exprs_step (Expr-F.Each p e bs c)

pub tree_Part : (p : Pos) (e : _) (n : ℕ) → tree (Part p e n) ≡ part p.offset (tree e.value) n
tree_Part p e n = ap tree (sym (rolls-Part p e n)) ∙ fold-roll-Expr CondD ExprD BindingD (List BindingD) (List CondD) (List ExprD) cond_step expr_step binding_step bindings_step conds_step exprs_step (Expr-F.Part p e n)

pub cond_True : cond_tree True ≡ truth
cond_True = ap cond_tree (sym rolls-True) ∙ fold-roll-Cond CondD ExprD BindingD (List BindingD) (List CondD) (List ExprD) cond_step expr_step binding_step bindings_step conds_step exprs_step Cond-F.True

pub cond_False : cond_tree False ≡ falsity
cond_False = ap cond_tree (sym rolls-False) ∙ fold-roll-Cond CondD ExprD BindingD (List BindingD) (List CondD) (List ExprD) cond_step expr_step binding_step bindings_step conds_step exprs_step Cond-F.False

pub cond_Same : (e f : Expr) → cond_tree (Same e f) ≡ same (tree e) (tree f)
cond_Same e f = ap cond_tree (sym (rolls-Same e f)) ∙ fold-roll-Cond CondD ExprD BindingD (List BindingD) (List CondD) (List ExprD) cond_step expr_step binding_step bindings_step conds_step exprs_step (Cond-F.Same e f)

pub cond_Differ : (e f : Expr) → cond_tree (Differ e f) ≡ differ (tree e) (tree f)
cond_Differ e f = ap cond_tree (sym (rolls-Differ e f)) ∙ fold-roll-Cond CondD ExprD BindingD (List BindingD) (List CondD) (List ExprD) cond_step expr_step binding_step bindings_step conds_step exprs_step (Cond-F.Differ e f)

pub cond_Below : (p : Pos) (e f : Expr) → cond_tree (Below p e f) ≡ below p.offset (tree e) (tree f)
cond_Below p e f = ap cond_tree (sym (rolls-Below p e f)) ∙ fold-roll-Cond CondD ExprD BindingD (List BindingD) (List CondD) (List ExprD) cond_step expr_step binding_step bindings_step conds_step exprs_step _

pub cond_Member : (e f : Expr) → cond_tree (Member e f) ≡ member (tree e) (tree f)
cond_Member e f = ap cond_tree (sym (rolls-Member e f)) ∙ fold-roll-Cond CondD ExprD BindingD (List BindingD) (List CondD) (List ExprD) cond_step expr_step binding_step bindings_step conds_step exprs_step (Cond-F.Member e f)

pub cond_Included : (e f : Expr) → cond_tree (Included e f) ≡ included (tree e) (tree f)
cond_Included e f = ap cond_tree (sym (rolls-Included e f)) ∙ fold-roll-Cond CondD ExprD BindingD (List BindingD) (List CondD) (List ExprD) cond_step expr_step binding_step bindings_step conds_step exprs_step (Cond-F.Included e f)

pub cond_Empty : (e : Expr) → cond_tree (Empty e) ≡ empty (tree e)
cond_Empty e = ap cond_tree (sym (rolls-Empty e)) ∙ fold-roll-Cond CondD ExprD BindingD (List BindingD) (List CondD) (List ExprD) cond_step expr_step binding_step bindings_step conds_step exprs_step (Cond-F.Empty e)

pub cond_Not : (c : _) → cond_tree (Not c) ≡ not (cond_tree c.value)
cond_Not c = ap cond_tree (sym (rolls-Not c)) ∙ fold-roll-Cond CondD ExprD BindingD (List BindingD) (List CondD) (List ExprD) cond_step expr_step binding_step bindings_step conds_step exprs_step (Cond-F.Not c)

pub cond_Exists : (b : _) (c : _) → cond_tree (Exists b c) ≡ exists (binding_tree b.value) (cond_tree c.value)
cond_Exists b c = ap cond_tree (sym (rolls-Exists b c)) ∙ fold-roll-Cond CondD ExprD BindingD (List BindingD) (List CondD) (List ExprD) cond_step expr_step binding_step bindings_step conds_step exprs_step (Cond-F.Exists b c)

pub cond_Every : (b : _) (c : _) → cond_tree (Every b c) ≡ every (binding_tree b.value) (cond_tree c.value)
cond_Every b c = ap cond_tree (sym (rolls-Every b c)) ∙ fold-roll-Cond CondD ExprD BindingD (List BindingD) (List CondD) (List ExprD) cond_step expr_step binding_step bindings_step conds_step exprs_step (Cond-F.Every b c)

pub stmt_Let : (p : Pos) (n : Name) (e : Expr) → stmt_tree (Let p n e) ≡ «let» p.offset n (tree e)
stmt_Let p n e = ap stmt_tree (sym (rolls-Let p n e)) ∙ fold-roll-Stmt StmtD (List StmtD) stmt_step stmts_step (Stmt-F.Let p n e)

pub stmt_Assign : (p : Pos) (n : Name) (e : Expr) → stmt_tree (Assign p n e) ≡ assign p.offset n (tree e)
stmt_Assign p n e = ap stmt_tree (sym (rolls-Assign p n e)) ∙ fold-roll-Stmt StmtD (List StmtD) stmt_step stmts_step (Stmt-F.Assign p n e)

pub stmt_Add : (e : Expr) (p : Pos) (n : Name) → stmt_tree (Add e p n) ≡ add (tree e) p.offset n
stmt_Add e p n = ap stmt_tree (sym (rolls-Add e p n)) ∙ fold-roll-Stmt StmtD (List StmtD) stmt_step stmts_step (Stmt-F.Add e p n)

pub stmt_For : (b : Binding) (c : Cond) (l : Stmts) → stmt_tree (For b c l) ≡ for (binding_tree b) (cond_tree c) (stmts_of (stmts_list l))
stmt_For b c l = ap stmt_tree (sym (rolls-For b c l)) ∙ fold-roll-Stmt StmtD (List StmtD) stmt_step stmts_step (Stmt-F.For b c l)

pub stmt_If : (c : Cond) (l m : Stmts) → stmt_tree (If c l m) ≡ if (cond_tree c) (stmts_of (stmts_list l)) (stmts_of (stmts_list m))
stmt_If c l m = ap stmt_tree (sym (rolls-If c l m)) ∙ fold-roll-Stmt StmtD (List StmtD) stmt_step stmts_step (Stmt-F.If c l m)

pub stmt_While : (p : Pos) (c : Cond) (n : ℕ) (l : Stmts) → stmt_tree (While p c n l) ≡ while p.offset (cond_tree c) n (stmts_of (stmts_list l))
stmt_While p c n l = ap stmt_tree (sym (rolls-While p c n l)) ∙ fold-roll-Stmt StmtD (List StmtD) stmt_step stmts_step (Stmt-F.While p c n l)

pub stmt_Assert : (p : Pos) (c : Cond) → stmt_tree (Assert p c) ≡ assert p.offset (cond_tree c)
stmt_Assert p c = ap stmt_tree (sym (rolls-Assert p c)) ∙ fold-roll-Stmt StmtD (List StmtD) stmt_step stmts_step (Stmt-F.Assert p c)

pub stmt_Print : (p q : Pos) (n : Name) → stmt_tree (Print p q n) ≡ print p.offset q.offset n
stmt_Print p q n = ap stmt_tree (sym (rolls-Print p q n)) ∙ fold-roll-Stmt StmtD (List StmtD) stmt_step stmts_step (Stmt-F.Print p q n)
