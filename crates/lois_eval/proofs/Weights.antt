-- How large scripts are: each call of the evaluation goes into a part, or on to a function of a lower rank.
use Rattle.std.proofs.Common.{ℕ, suc, ◌+◌, ◌≤◌, List, drop, map, arith}
use Rattle.lois_script.specs.Tree.{ExprD, atoms, var, tag, tuple, listed, each, part, apply, ExprsD, no_exprs, expr, BindingD, binding, BindingsD, no_bindings, bind, CondD, truth, falsity, same, differ, below, member, included, empty, not, all, any, exists, every, CondsD, no_conds, cond}
use Rattle.lois_script.specs.View.{tree, cond_tree, binding_tree, bindings_of}
use Rattle.lois_script.specs.declared.syntax.Binding.{Binding}
use Rattle.lois_script.specs.declared.syntax.Cond.{Cond}
use Rattle.lois_script.specs.declared.syntax.Expr.{Expr}

abbrev mutual
  pub weight : ExprD → ℕ
  weight (atoms p) = 1
  weight (var p x) = 1
  weight (tag p name) = 1
  weight (tuple p es) = suc (weight_of_exprs es)
  weight (listed p es) = suc (weight_of_exprs es)
  weight (each p item bs c) = suc (weight item + weight_of_bindings bs + weight_of_cond c)
  weight (part p e n) = suc (weight e)
  weight (apply p op es) = suc (weight_of_exprs es)

  pub weight_of_exprs : ExprsD → ℕ
  weight_of_exprs no_exprs = 0
  weight_of_exprs (expr e es) = weight e + weight_of_exprs es

  pub weight_of_binding : BindingD → ℕ
  weight_of_binding (binding p x e) = suc (weight e)

  pub weight_of_bindings : BindingsD → ℕ
  weight_of_bindings no_bindings = 0
  weight_of_bindings (bind b bs) = weight_of_binding b + weight_of_bindings bs

  pub weight_of_cond : CondD → ℕ
  weight_of_cond truth = 1
  weight_of_cond falsity = 1
  weight_of_cond (same e f) = suc (weight e + weight f)
  weight_of_cond (differ e f) = suc (weight e + weight f)
  weight_of_cond (below p e f) = suc (weight e + weight f)
  weight_of_cond (member e f) = suc (weight e + weight f)
  weight_of_cond (included e f) = suc (weight e + weight f)
  weight_of_cond (empty e) = suc (weight e)
  weight_of_cond (not c) = suc (weight_of_cond c)
  weight_of_cond (all cs) = suc (weight_of_conds cs)
  weight_of_cond (any cs) = suc (weight_of_conds cs)
  weight_of_cond (exists b c) = suc (weight_of_binding b + weight_of_cond c)
  weight_of_cond (every b c) = suc (weight_of_binding b + weight_of_cond c)

  pub weight_of_conds : CondsD → ℕ
  weight_of_conds no_conds = 0
  weight_of_conds (cond c cs) = weight_of_cond c + weight_of_conds cs

-- what is left to do for the bindings from an index on
abbrev pub weight_from : Expr → List Binding → ℕ → Cond → ℕ
weight_from item bs i c =
    weight (tree item) + weight_of_bindings (bindings_of (map binding_tree (drop i bs))) + weight_of_cond (cond_tree c)

pub weight_of_cond_positive : (c : CondD) → 1 ≤ weight_of_cond c
weight_of_cond_positive truth = omega arith
weight_of_cond_positive falsity = omega arith
weight_of_cond_positive (same e f) = omega arith
weight_of_cond_positive (differ e f) = omega arith
weight_of_cond_positive (below p e f) = omega arith
weight_of_cond_positive (member e f) = omega arith
weight_of_cond_positive (included e f) = omega arith
weight_of_cond_positive (empty e) = omega arith
weight_of_cond_positive (not c) = omega arith
weight_of_cond_positive (all cs) = omega arith
weight_of_cond_positive (any cs) = omega arith
weight_of_cond_positive (exists b c) = omega arith
weight_of_cond_positive (every b c) = omega arith
