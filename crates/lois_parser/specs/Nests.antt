-- What the reader's functions of whole forms give, and function values that read what stands in one bracket more.
use Rattle.std.specs.Prelude.{◌≡◌, ℕ, suc, ◌<◌, length, Result, IfOk}
use Rattle.std.specs.declared.alloc.Global.{Global}
use Rattle.lois_script.specs.Tree.{ExprD, BindingD, CondD, StmtD}
use Rattle.lois_script.specs.View.{tree, cond_tree, binding_tree, stmts_list}
use Rattle.lois_script.specs.Lists.{stmt_tree, exprs_list, bindings_list, conds_list}
use Rattle.lois_script.specs.declared.syntax.Expr.{Expr}
use Rattle.lois_script.specs.declared.syntax.Cond.{Cond}
use Rattle.lois_script.specs.declared.syntax.Binding.{Binding}
use Rattle.lois_script.specs.declared.syntax.Exprs.{Exprs}
use Rattle.lois_script.specs.declared.syntax.Bindings.{Bindings}
use Rattle.lois_script.specs.declared.syntax.Conds.{Conds}
use Rattle.lois_script.specs.declared.script.Stmt.{Stmt}
use Rattle.lois_script.specs.declared.script.Stmts.{Stmts}
use Rattle.lois_parser.specs.Ahead.{ahead}
use Rattle.lois_descent.specs.Descent.{Read, expr_of, cond_of, block_of}
use Rattle.lois_descent.specs.Reading.{ResultIs}
use Rattle.lois_descent.specs.declared.parse_error.ParseError.{ParseError}
use Rattle.lois_parser.specs.declared.rest.Rest.{Rest}
use Rattle.std.specs.Prelude.{List}

-- some token was read
abbrev pub ConsumesTokens : {A : Type 0} → Rest → Result (A × Rest) ParseError → Type 0
ConsumesTokens at r = IfOk r (λ x. length (ahead x.1) < length (ahead at))

-- an expression, a condition, and the statements of a block, as this reads them
abbrev pub GivesExpr : Read ExprD → Rest → Result (Expr × Rest) ParseError → Type 0
GivesExpr e at r = ResultIs (λ x. (tree x.0, ahead x.1)) r (e (ahead at))

abbrev pub GivesCond : Read CondD → Rest → Result (Cond × Rest) ParseError → Type 0
GivesCond c at r = ResultIs (λ x. (cond_tree x.0, ahead x.1)) r (c (ahead at))

abbrev pub GivesStmts : Read (List StmtD) → Rest → Result (Stmts × Rest) ParseError → Type 0
GivesStmts b at r = ResultIs (λ x. (stmts_list x.0, ahead x.1)) r (b (ahead at))

-- likewise a statement, a binding, and what loops gather
abbrev pub GivesStmt : Read StmtD → Rest → Result (Stmt × Rest) ParseError → Type 0
GivesStmt b at r = ResultIs (λ x. (stmt_tree x.0, ahead x.1)) r (b (ahead at))

abbrev pub GivesBinding : Read BindingD → Rest → Result (Binding × Rest) ParseError → Type 0
GivesBinding b at r = ResultIs (λ x. (binding_tree x.0, ahead x.1)) r (b (ahead at))

abbrev pub GivesExprs : Read (List ExprD) → Rest → Result (Exprs × Rest) ParseError → Type 0
GivesExprs b at r = ResultIs (λ x. (exprs_list x.0, ahead x.1)) r (b (ahead at))

abbrev pub GivesBindings : Read (List BindingD) → Rest → Result (Bindings × Rest) ParseError → Type 0
GivesBindings b at r = ResultIs (λ x. (bindings_list x.0, ahead x.1)) r (b (ahead at))

abbrev pub GivesConds : Read (List CondD) → Rest → Result (Conds × Rest) ParseError → Type 0
GivesConds b at r = ResultIs (λ x. (conds_list x.0, ahead x.1)) r (b (ahead at))

-- function values that read expressions and conditions where one bracket fewer may be open
pub record Nests (depth_left : ℕ) (expr_pre : Global → Rest → ℕ → Type 0) (expr_post : Global → Rest → ℕ → Result (Expr × Rest) ParseError → Type 0)
    (cond_pre : Global → Rest → ℕ → Type 0) (cond_post : Global → Rest → ℕ → Result (Cond × Rest) ParseError → Type 0) : Type 0 where
  pub expr_callable : (alloc : Global) (at : Rest) (inner : ℕ) → depth_left ≡ suc inner → expr_pre alloc at inner
  pub expr_reads : (alloc : Global) (at : Rest) (inner : ℕ) (r : Result (Expr × Rest) ParseError) → depth_left ≡ suc inner →
      expr_post alloc at inner r → GivesExpr (expr_of inner) at r × ConsumesTokens at r
  pub cond_callable : (alloc : Global) (at : Rest) (inner : ℕ) → depth_left ≡ suc inner → cond_pre alloc at inner
  pub cond_reads : (alloc : Global) (at : Rest) (inner : ℕ) (r : Result (Cond × Rest) ParseError) → depth_left ≡ suc inner →
      cond_post alloc at inner r → GivesCond (cond_of inner) at r × ConsumesTokens at r

-- a function value that reads the statements of a block where one bracket fewer may be open
pub record Blocks (depth_left : ℕ) (pre : Global → Rest → ℕ → Type 0) (post : Global → Rest → ℕ → Result (Stmts × Rest) ParseError → Type 0) : Type 0 where
  pub callable : (alloc : Global) (at : Rest) (inner : ℕ) → depth_left ≡ suc inner → pre alloc at inner
  pub reads : (alloc : Global) (at : Rest) (inner : ℕ) (r : Result (Stmts × Rest) ParseError) → depth_left ≡ suc inner →
      post alloc at inner r → GivesStmts (block_of inner) at r × ConsumesTokens at r
