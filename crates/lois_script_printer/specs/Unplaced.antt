-- Scripts with their positions left aside.
use Rattle.std.specs.Prelude.{◌≡◌, ℕ, List, map}
use Rattle.lois_script.specs.Tree.{ExprD, atoms, var, tag, tuple, listed, each, part, apply, ExprsD, no_exprs, expr, BindingD, binding, BindingsD, no_bindings, bind, CondD, truth, falsity, same, differ, below, member, included, empty, not, all, any, exists, every, CondsD, no_conds, cond, StmtD, «let», assign, add, for, if, while, assert, print, StmtsD, no_stmts, stmt, ParamD, ScriptD}
use Rattle.lois_script.specs.Limits.{Spells}

-- the same tree with each place 0
abbrev mutual
  pub unplaced_expr : ExprD → ExprD
  unplaced_expr (atoms p) = atoms 0
  unplaced_expr (var p x) = var 0 x
  unplaced_expr (tag p x) = tag 0 x
  unplaced_expr (tuple p es) = tuple 0 (unplaced_exprs es)
  unplaced_expr (listed p es) = listed 0 (unplaced_exprs es)
  unplaced_expr (each p e bs c) = each 0 (unplaced_expr e) (unplaced_bindings bs) (unplaced_cond c)
  unplaced_expr (part p e n) = part 0 (unplaced_expr e) n
  unplaced_expr (apply p op es) = apply 0 op (unplaced_exprs es)

  pub unplaced_exprs : ExprsD → ExprsD
  unplaced_exprs no_exprs = no_exprs
  unplaced_exprs (expr e rest) = expr (unplaced_expr e) (unplaced_exprs rest)

  pub unplaced_binding : BindingD → BindingD
  unplaced_binding (binding p x e) = binding 0 x (unplaced_expr e)

  pub unplaced_bindings : BindingsD → BindingsD
  unplaced_bindings no_bindings = no_bindings
  unplaced_bindings (bind b rest) = bind (unplaced_binding b) (unplaced_bindings rest)

  pub unplaced_cond : CondD → CondD
  unplaced_cond truth = truth
  unplaced_cond falsity = falsity
  unplaced_cond (same e f) = same (unplaced_expr e) (unplaced_expr f)
  unplaced_cond (differ e f) = differ (unplaced_expr e) (unplaced_expr f)
  unplaced_cond (below p e f) = below 0 (unplaced_expr e) (unplaced_expr f)
  unplaced_cond (member e f) = member (unplaced_expr e) (unplaced_expr f)
  unplaced_cond (included e f) = included (unplaced_expr e) (unplaced_expr f)
  unplaced_cond (empty e) = empty (unplaced_expr e)
  unplaced_cond (not c) = not (unplaced_cond c)
  unplaced_cond (all cs) = all (unplaced_conds cs)
  unplaced_cond (any cs) = any (unplaced_conds cs)
  unplaced_cond (exists b c) = exists (unplaced_binding b) (unplaced_cond c)
  unplaced_cond (every b c) = every (unplaced_binding b) (unplaced_cond c)

  pub unplaced_conds : CondsD → CondsD
  unplaced_conds no_conds = no_conds
  unplaced_conds (cond c rest) = cond (unplaced_cond c) (unplaced_conds rest)

abbrev mutual
  pub unplaced_stmt : StmtD → StmtD
  unplaced_stmt («let» p x e) = «let» 0 x (unplaced_expr e)
  unplaced_stmt (assign p x e) = assign 0 x (unplaced_expr e)
  unplaced_stmt (add e p x) = add (unplaced_expr e) 0 x
  unplaced_stmt (for b c body) = for (unplaced_binding b) (unplaced_cond c) (unplaced_stmts body)
  unplaced_stmt ((if) c yes_block no_block) = (if) (unplaced_cond c) (unplaced_stmts yes_block) (unplaced_stmts no_block)
  unplaced_stmt (while p c n body) = while 0 (unplaced_cond c) n (unplaced_stmts body)
  unplaced_stmt (assert p c) = assert 0 (unplaced_cond c)
  unplaced_stmt (print p q x) = print 0 0 x

  pub unplaced_stmts : StmtsD → StmtsD
  unplaced_stmts no_stmts = no_stmts
  unplaced_stmts (stmt a rest) = stmt (unplaced_stmt a) (unplaced_stmts rest)

abbrev pub unplaced_param : ParamD → ParamD
unplaced_param x = record { place = 0; name = x.name }

abbrev pub unplaced : ScriptD → ScriptD
unplaced s = record { ordered = s.ordered; parameters = map unplaced_param s.parameters; body = unplaced_stmts s.body }

-- some text spells the script
abbrev pub IsSpelled : ScriptD → Type 0
IsSpelled s = (text : List ℕ) × Spells text s

-- the text spells the script, positions left aside
abbrev pub SpellsUnplaced : List ℕ → ScriptD → Type 0
SpellsUnplaced text s = (t : ScriptD) × Spells text t × (unplaced t ≡ unplaced s)
