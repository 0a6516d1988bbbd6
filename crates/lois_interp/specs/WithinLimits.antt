-- What the grammar and the limits keep of a script: each tuple has 2 to 8 parts, each operation as many operands as it takes,
-- and each `while` at most 1,000,000 turns.
use Rattle.std.specs.Prelude.{◌≡◌, ◌≤◌}
use Rattle.lois_script.specs.Tree.{ExprD, atoms, var, tag, tuple, listed, each, part, apply, ExprsD, no_exprs, expr, BindingD, binding, BindingsD, no_bindings, bind, CondD, truth, falsity, same, differ, below, member, included, empty, not, all, any, exists, every, CondsD, no_conds, cond, StmtD, «let», assign, add, for, if, while, assert, print, StmtsD, no_stmts, stmt}
use Rattle.lois_eval.specs.WellFormed.{count_of, arity}

abbrev mutual
  pub IsWithinLimits : ExprD → Type 0
  IsWithinLimits (atoms p) = Unit {0}
  IsWithinLimits (var p x) = Unit {0}
  IsWithinLimits (tag p x) = Unit {0}
  IsWithinLimits (tuple p es) = (2 ≤ count_of es) × (count_of es ≤ 8) × AreWithinLimits es
  IsWithinLimits (listed p es) = AreWithinLimits es
  IsWithinLimits (each p item bs c) = IsWithinLimits item × BindingsAreWithinLimits bs × CondIsWithinLimits c
  IsWithinLimits (part p e n) = IsWithinLimits e
  IsWithinLimits (apply p op es) = (count_of es ≡ arity op) × AreWithinLimits es

  pub AreWithinLimits : ExprsD → Type 0
  AreWithinLimits no_exprs = Unit {0}
  AreWithinLimits (expr e es) = IsWithinLimits e × AreWithinLimits es

  pub BindingIsWithinLimits : BindingD → Type 0
  BindingIsWithinLimits (binding p x e) = IsWithinLimits e

  pub BindingsAreWithinLimits : BindingsD → Type 0
  BindingsAreWithinLimits no_bindings = Unit {0}
  BindingsAreWithinLimits (bind b bs) = BindingIsWithinLimits b × BindingsAreWithinLimits bs

  pub CondIsWithinLimits : CondD → Type 0
  CondIsWithinLimits truth = Unit {0}
  CondIsWithinLimits falsity = Unit {0}
  CondIsWithinLimits (same e f) = IsWithinLimits e × IsWithinLimits f
  CondIsWithinLimits (differ e f) = IsWithinLimits e × IsWithinLimits f
  CondIsWithinLimits (below p e f) = IsWithinLimits e × IsWithinLimits f
  CondIsWithinLimits (member e f) = IsWithinLimits e × IsWithinLimits f
  CondIsWithinLimits (included e f) = IsWithinLimits e × IsWithinLimits f
  CondIsWithinLimits (empty e) = IsWithinLimits e
  CondIsWithinLimits (not c) = CondIsWithinLimits c
  CondIsWithinLimits (all cs) = CondsAreWithinLimits cs
  CondIsWithinLimits (any cs) = CondsAreWithinLimits cs
  CondIsWithinLimits (exists b c) = BindingIsWithinLimits b × CondIsWithinLimits c
  CondIsWithinLimits (every b c) = BindingIsWithinLimits b × CondIsWithinLimits c

  pub CondsAreWithinLimits : CondsD → Type 0
  CondsAreWithinLimits no_conds = Unit {0}
  CondsAreWithinLimits (cond c cs) = CondIsWithinLimits c × CondsAreWithinLimits cs

abbrev mutual
  pub StmtIsWithinLimits : StmtD → Type 0
  StmtIsWithinLimits («let» p x e) = IsWithinLimits e
  StmtIsWithinLimits (assign p x e) = IsWithinLimits e
  StmtIsWithinLimits (add e p x) = IsWithinLimits e
  StmtIsWithinLimits (for b c body) = BindingIsWithinLimits b × CondIsWithinLimits c × StmtsAreWithinLimits body
  StmtIsWithinLimits ((if) c yes_block no_block) = CondIsWithinLimits c × StmtsAreWithinLimits yes_block × StmtsAreWithinLimits no_block
  StmtIsWithinLimits (while p c n body) = (n ≤ 1000000) × CondIsWithinLimits c × StmtsAreWithinLimits body
  StmtIsWithinLimits (assert p c) = CondIsWithinLimits c
  StmtIsWithinLimits (print p q x) = Unit {0}

  pub StmtsAreWithinLimits : StmtsD → Type 0
  StmtsAreWithinLimits no_stmts = Unit {0}
  StmtsAreWithinLimits (stmt a rest) = StmtIsWithinLimits a × StmtsAreWithinLimits rest
