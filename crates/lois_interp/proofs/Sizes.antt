-- How large a statement is: what the functions that run statements go down.
use Rattle.std.proofs.Common.{◌≡◌, ℕ, ◌+◌, ◌<◌, List, [], ◌∷◌, ◌++◌, refl, sym, ap, ◌∙◌, subst, arith}
use Rattle.lois_script.specs.Tree.{CondD, BindingD, StmtD, «let», assign, add, for, if, while, assert, print, StmtsD, no_stmts, stmt}
use Rattle.lois_script.specs.View.{stmts_of}
use Rattle.lois_script.specs.Lists.{stmt_tree}
use Rattle.lois_script.specs.declared.script.Stmt.{Stmt, roll-Stmt}
use Rattle.lois_script.specs.declared.script.Stmt.TheFolds.{ind-Stmt}
use Rattle.lois_script.specs.declared.script.Stmt.TheOpen.{Stmt-F}
use Rattle.lois_script.specs.declared.script.Stmt.TheVariants.{For, If, While, rolls-Let, rolls-Assign, rolls-Add, rolls-For, rolls-If, rolls-While, rolls-Assert, rolls-Print}
use Rattle.lois_script.specs.declared.script.Stmts.{Stmts}
use Rattle.lois_script.specs.declared.syntax.Binding.{Binding}
use Rattle.lois_script.specs.declared.syntax.Cond.{Cond}
use Rattle.lois_script.specs.declared.syntax.Pos.{Pos}
use Rattle.lois_script.proofs.Views.{stmt_Let, stmt_Assign, stmt_Add, stmt_Assert, stmt_Print}
use Rattle.lois_interp.specs.Leaves.{IsLeaf}

abbrev mutual
  pub stmt_size : StmtD → ℕ
  stmt_size («let» p x e) = 1
  stmt_size (assign p x e) = 1
  stmt_size (add e p x) = 1
  stmt_size (for b c body) = 1 + list_size body
  stmt_size ((if) c yes_block no_block) = 1 + list_size yes_block + list_size no_block
  stmt_size (while p c n body) = 1 + list_size body
  stmt_size (assert p c) = 1
  stmt_size (print p q x) = 1

  pub list_size : StmtsD → ℕ
  list_size no_stmts = 0
  list_size (stmt a rest) = 1 + stmt_size a + list_size rest

pub item_size : (done : List StmtD) (a : StmtD) (rest : List StmtD) → stmt_size a < list_size (stmts_of (done ++ a ∷ rest))
item_size [] a rest = omega arith
item_size (b ∷ done) a rest = let later = item_size done a rest in omega arith

pub size_for : (b : BindingD) (c : CondD) (body : StmtsD) → stmt_size (for b c body) ≡ 1 + list_size body
size_for b c body = refl

pub size_if : (c : CondD) (a b : StmtsD) → stmt_size ((if) c a b) ≡ 1 + list_size a + list_size b
size_if c a b = refl

pub size_while : (p : ℕ) (c : CondD) (n : ℕ) (body : StmtsD) → stmt_size (while p c n body) ≡ 1 + list_size body
size_while p c n body = refl

-- what a statement is made of
pub layer : (a : Stmt) → (x : Stmt-F Stmt Stmts) × (roll-Stmt x ≡ a)
layer = ind-Stmt (λ a. (x : Stmt-F Stmt Stmts) × (roll-Stmt x ≡ a)) (λ l. Unit {0}) (λ x y is. (x, refl)) (λ x y is. tt)

-- a statement of another form holds no others
pub is_leaf : (a : Stmt) → ((b : Binding) (c : Cond) (l : Stmts) → a ≡ For b c l → ⊥) → ((c : Cond) (l m : Stmts) → a ≡ If c l m → ⊥) → ((p : Pos) (c : Cond) (n : ℕ) (l : Stmts) → a ≡ While p c n l → ⊥) → IsLeaf (stmt_tree a)
is_leaf a f i w = let h = layer a in subst (λ z. IsLeaf (stmt_tree z)) h.1 (go h.0 (λ b c l e. f b c l (sym h.1 ∙ e)) (λ c l m e. i c l m (sym h.1 ∙ e)) (λ p c n l e. w p c n l (sym h.1 ∙ e)))
  where
    go : (x : Stmt-F Stmt Stmts) → ((b : Binding) (c : Cond) (l : Stmts) → roll-Stmt x ≡ For b c l → ⊥) → ((c : Cond) (l m : Stmts) → roll-Stmt x ≡ If c l m → ⊥) → ((p : Pos) (c : Cond) (n : ℕ) (l : Stmts) → roll-Stmt x ≡ While p c n l → ⊥) → IsLeaf (stmt_tree (roll-Stmt x))
    go (Stmt-F.Let p x e) f i w = subst IsLeaf (sym (ap stmt_tree (rolls-Let p x e) ∙ stmt_Let p x e)) tt
    go (Stmt-F.Assign p x e) f i w = subst IsLeaf (sym (ap stmt_tree (rolls-Assign p x e) ∙ stmt_Assign p x e)) tt
    go (Stmt-F.Add e p x) f i w = subst IsLeaf (sym (ap stmt_tree (rolls-Add e p x) ∙ stmt_Add e p x)) tt
    go (Stmt-F.For b c l) f i w = absurd (f b c l (rolls-For b c l))
    go (Stmt-F.If c l m) f i w = absurd (i c l m (rolls-If c l m))
    go (Stmt-F.While p c n l) f i w = absurd (w p c n l (rolls-While p c n l))
    go (Stmt-F.Assert p c) f i w = subst IsLeaf (sym (ap stmt_tree (rolls-Assert p c) ∙ stmt_Assert p c)) tt
    go (Stmt-F.Print p q x) f i w = subst IsLeaf (sym (ap stmt_tree (rolls-Print p q x) ∙ stmt_Print p q x)) tt
