-- Which names `:=` names in a statement.
use Rattle.std.specs.Prelude.{◌≡◌, ℕ, ◌⊎◌, List}
use Rattle.lois_script.specs.Tree.{StmtD, «let», assign, add, for, if, while, assert, print, StmtsD, no_stmts, stmt}

abbrev mutual
  pub StmtAssigns : StmtD → List ℕ → Type 0
  StmtAssigns («let» p y e) x = ⊥
  StmtAssigns (assign p y e) x = y ≡ x
  StmtAssigns (add e p y) x = ⊥
  StmtAssigns (for b c body) x = ListAssigns body x
  StmtAssigns ((if) c yes_block no_block) x = ListAssigns yes_block x ⊎ ListAssigns no_block x
  StmtAssigns (while p c n body) x = ListAssigns body x
  StmtAssigns (assert p c) x = ⊥
  StmtAssigns (print p q y) x = ⊥

  pub ListAssigns : StmtsD → List ℕ → Type 0
  ListAssigns no_stmts x = ⊥
  ListAssigns (stmt a rest) x = StmtAssigns a x ⊎ ListAssigns rest x
