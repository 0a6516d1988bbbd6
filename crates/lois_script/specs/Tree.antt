-- Scripts as data: positions are numbers, names are the lists of their bytes.
use Rattle.std.specs.Prelude.{ℕ, Bool, List}
use Rattle.lois_script.specs.declared.syntax.Operation.{Operation}

mutual
  pub data ExprD : Type 0 where
    atoms : ℕ → ExprD
    var : ℕ → List ℕ → ExprD
    tag : ℕ → List ℕ → ExprD
    tuple : ℕ → ExprsD → ExprD
    listed : ℕ → ExprsD → ExprD
    each : ℕ → ExprD → BindingsD → CondD → ExprD
    part : ℕ → ExprD → ℕ → ExprD
    apply : ℕ → Operation → ExprsD → ExprD

  pub data ExprsD : Type 0 where
    no_exprs : ExprsD
    expr : ExprD → ExprsD → ExprsD

  pub data BindingD : Type 0 where
    binding : ℕ → List ℕ → ExprD → BindingD

  pub data BindingsD : Type 0 where
    no_bindings : BindingsD
    bind : BindingD → BindingsD → BindingsD

  pub data CondD : Type 0 where
    truth : CondD
    falsity : CondD
    same : ExprD → ExprD → CondD
    differ : ExprD → ExprD → CondD
    below : ℕ → ExprD → ExprD → CondD
    member : ExprD → ExprD → CondD
    included : ExprD → ExprD → CondD
    empty : ExprD → CondD
    not : CondD → CondD
    all : CondsD → CondD
    any : CondsD → CondD
    exists : BindingD → CondD → CondD
    every : BindingD → CondD → CondD

  pub data CondsD : Type 0 where
    no_conds : CondsD
    cond : CondD → CondsD → CondsD

mutual
  pub data StmtD : Type 0 where
    «let» : ℕ → List ℕ → ExprD → StmtD
    assign : ℕ → List ℕ → ExprD → StmtD
    add : ExprD → ℕ → List ℕ → StmtD
    for : BindingD → CondD → StmtsD → StmtD
    if : CondD → StmtsD → StmtsD → StmtD
    while : ℕ → CondD → ℕ → StmtsD → StmtD
    assert : ℕ → CondD → StmtD
    print : ℕ → ℕ → List ℕ → StmtD

  pub data StmtsD : Type 0 where
    no_stmts : StmtsD
    stmt : StmtD → StmtsD → StmtsD

pub record ParamD : Type 0 where
  pub place : ℕ
  pub name : List ℕ

pub record ScriptD : Type 0 where
  pub ordered : Bool
  pub parameters : List ParamD
  pub body : StmtsD

abbrev pub pos : ExprD → ℕ
pos (atoms p) = p
pos (var p _) = p
pos (tag p _) = p
pos (tuple p _) = p
pos (listed p _) = p
pos (each p _ _ _) = p
pos (part p _ _) = p
pos (apply p _ _) = p
