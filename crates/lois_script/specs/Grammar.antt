-- Which tokens spell which script. Each definition relates a list of tokens to what follows the part that it names:
-- `SpellsExpr e before after` says that `before` begins with tokens of the expression e, and goes on with `after`.
-- The limits stand at the end: the grammar itself has none.
use Rattle.std.specs.Prelude.{◌≡◌, ℕ, zero, suc, ◌+◌, ◌-◌, ◌*◌, ◌<◌, ◌⊎◌, Bool, true, false, List, [], ◌∷◌, ◌++◌, codes, IsTrue}
use Rattle.lois_lexer.specs.declared.TokenKind.{TokenKind}
use Rattle.lois_lexer.specs.declared.TokenKind.TheVariants.{Name, Word, Tag, Number, Symbol}
use Rattle.lois_lexer.specs.declared.Token.{Token}
use Rattle.lois_lexer.specs.Tokens.{bytes_of}
use Rattle.lois_script.specs.declared.syntax.Operation.{Operation}
use Rattle.lois_script.specs.declared.syntax.Operation.TheVariants.{Union, Inter, Minus, Flatten, Reach, Product, Complement, Minimise}
use Rattle.lois_script.specs.Tree.{ExprD, atoms, var, tag, tuple, listed, each, part, apply, ExprsD, no_exprs, expr, BindingD, binding, BindingsD, no_bindings, bind, CondD, truth, falsity, same, differ, below, member, included, empty, not, all, any, exists, every, CondsD, no_conds, cond, StmtD, «let», assign, add, for, if, while, assert, print, StmtsD, no_stmts, stmt, ParamD, ScriptD}

-- A token with its bytes and the offset of its first byte.
pub record PlacedToken : Type 0 where
  pub kind : TokenKind
  pub bytes : List ℕ
  pub place : ℕ

abbrev pub token_at_place : List ℕ → Token → PlacedToken
token_at_place text token = record { kind = token.kind; bytes = bytes_of text token; place = token.from }

abbrev pub Spelling : Type 1
Spelling = List PlacedToken → List PlacedToken → Type 0

-- the empty list of tokens
abbrev pub Nothing : Spelling
Nothing before after = before ≡ after

-- no list of tokens
abbrev pub Never : Spelling
Never before after = ⊥

-- where the fact holds
abbrev pub Provided : Type 0 → Spelling → Spelling
Provided fact P before after = fact × P before after

-- one or the other
abbrev pub Either : Spelling → Spelling → Spelling
Either P Q before after = P before after ⊎ Q before after

-- the tokens of the first, and then those of the second
infixr 5 ◌▹◌
abbrev pub ◌▹◌ : Spelling → Spelling → Spelling
(P ▹ Q) before after = (middle : List PlacedToken) × P before middle × Q middle after

-- one token, of this kind, with these bytes, at this place
abbrev pub Takes : TokenKind → List ℕ → ℕ → Spelling
Takes kind bytes place before after = before ≡ record { kind = kind; bytes = bytes; place = place } ∷ after

abbrev pub TakesName : ℕ → List ℕ → Spelling
TakesName place name = Takes Name name place

-- a tag's bytes begin with the quote
abbrev pub TakesTag : ℕ → List ℕ → Spelling
TakesTag place name = Takes Tag (39 ∷ name) place

abbrev pub TakesWordAt : ℕ → List ℕ → Spelling
TakesWordAt place word = Takes Word word place

abbrev pub TakesSymbolAt : ℕ → List ℕ → Spelling
TakesSymbolAt place symbol = Takes Symbol symbol place

-- at any place
abbrev pub TakesWord : List ℕ → Spelling
TakesWord word before after = (place : ℕ) × TakesWordAt place word before after

abbrev pub TakesSymbol : List ℕ → Spelling
TakesSymbol symbol before after = (place : ℕ) × TakesSymbolAt place symbol before after

-- what decimal digits stand for
abbrev pub decimal_behind : ℕ → List ℕ → ℕ
decimal_behind n [] = n
decimal_behind n (digit ∷ digits) = decimal_behind (10 * n + (digit - 48)) digits

abbrev pub decimal : List ℕ → ℕ
decimal = decimal_behind 0

abbrev pub TakesNumber : ℕ → Spelling
TakesNumber n before after = (place : ℕ) × (digits : List ℕ) × Takes Number digits place before after × (decimal digits ≡ n)

-- at least two parts
abbrev pub IsWide : ExprsD → Type 0
IsWide no_exprs = ⊥
IsWide (expr e no_exprs) = ⊥
IsWide (expr e (expr f rest)) = Unit {0}

abbrev pub AreMany : CondsD → Type 0
AreMany no_conds = ⊥
AreMany (cond c no_conds) = ⊥
AreMany (cond c (cond d rest)) = Unit {0}

abbrev pub operation_word : Operation → List ℕ
operation_word Union = codes "union"
operation_word Inter = codes "inter"
operation_word Minus = codes "minus"
operation_word Flatten = codes "flatten"
operation_word Reach = codes "reach"
operation_word Product = codes "product"
operation_word Complement = codes "complement"
operation_word Minimise = codes "minimise"

-- the operation has so many operands
abbrev pub HasArity : Operation → ExprsD → Type 0
HasArity Union (expr e (expr f no_exprs)) = Unit {0}
HasArity Inter (expr e (expr f no_exprs)) = Unit {0}
HasArity Minus (expr e (expr f no_exprs)) = Unit {0}
HasArity Product (expr e (expr f no_exprs)) = Unit {0}
HasArity Flatten (expr e no_exprs) = Unit {0}
HasArity Reach (expr e no_exprs) = Unit {0}
HasArity Complement (expr e no_exprs) = Unit {0}
HasArity Minimise (expr e no_exprs) = Unit {0}
HasArity _ _ = ⊥

-- A condition may stand in any number of brackets, which leave no trace in the tree. It must stand in at least one pair
-- where a form is asked for that it hasn't by itself: a base, a unit (behind or before `and`), a conjunction (behind or
-- before `or`).
abbrev pub Bracketed : ℕ → Spelling → Spelling
Bracketed zero P = P
Bracketed (suc n) P = TakesSymbol (codes "[") ▹ Bracketed n P ▹ TakesSymbol (codes "]")

abbrev pub Enclosed : Bool → Spelling → Spelling
Enclosed has_form P before after = (n : ℕ) × (IsTrue has_form ⊎ (0 < n)) × Bracketed n P before after

abbrev pub is_base : CondD → Bool
is_base (not c) = false
is_base (exists b c) = false
is_base (every b c) = false
is_base (all cs) = false
is_base (any cs) = false
is_base _ = true

abbrev pub is_unit : CondD → Bool
is_unit (all cs) = false
is_unit (any cs) = false
is_unit _ = true

abbrev pub is_conjunction : CondD → Bool
is_conjunction (any cs) = false
is_conjunction _ = true

-- a missing `where` is the condition `true`
abbrev pub WhereClause : CondD → Spelling → Spelling
WhereClause c P = Either (Provided (c ≡ truth) Nothing) (TakesWord (codes "where") ▹ Enclosed true P)

abbrev pub Block : Spelling → Spelling
Block P = TakesSymbol (codes "{") ▹ P ▹ TakesSymbol (codes "}")

-- a missing `else` is the empty block
abbrev pub ElseClause : StmtsD → Spelling → Spelling
ElseClause body P = Either (Provided (body ≡ no_stmts) Nothing) (TakesWord (codes "else") ▹ Block P)

abbrev mutual
  pub SpellsExpr : ExprD → Spelling
  SpellsExpr (atoms p) = TakesWordAt p (codes "atoms")
  SpellsExpr (var p x) = TakesName p x
  SpellsExpr (tag p x) = TakesTag p x
  SpellsExpr (tuple p es) =
      Provided (IsWide es) (TakesSymbolAt p (codes "(") ▹ SpellsExprs es ▹ TakesSymbol (codes ")"))
  SpellsExpr (listed p es) = TakesSymbolAt p (codes "{") ▹ SpellsListed es ▹ TakesSymbol (codes "}")
  SpellsExpr (each p e bs c) =
      TakesSymbolAt p (codes "{") ▹ SpellsExpr e ▹ TakesWord (codes "for") ▹ SpellsBindings bs ▹ WhereClause c (SpellsCond c) ▹ TakesSymbol (codes "}")
  SpellsExpr (part p e n) =
      TakesWordAt p (codes "part") ▹ TakesSymbol (codes "(") ▹ SpellsExpr e ▹ TakesSymbol (codes ",") ▹ TakesNumber n ▹ TakesSymbol (codes ")")
  SpellsExpr (apply p op es) =
      Provided (HasArity op es) (TakesWordAt p (operation_word op) ▹ TakesSymbol (codes "(") ▹ SpellsExprs es ▹ TakesSymbol (codes ")"))

  -- one expression or more, with commas between them
  pub SpellsExprs : ExprsD → Spelling
  SpellsExprs no_exprs = Never
  SpellsExprs (expr e rest) = SpellsExpr e ▹ SpellsMoreExprs rest

  pub SpellsListed : ExprsD → Spelling
  SpellsListed no_exprs = Nothing
  SpellsListed (expr e rest) = SpellsExpr e ▹ SpellsMoreExprs rest

  pub SpellsMoreExprs : ExprsD → Spelling
  SpellsMoreExprs no_exprs = Nothing
  SpellsMoreExprs (expr e rest) = TakesSymbol (codes ",") ▹ SpellsExpr e ▹ SpellsMoreExprs rest

  pub SpellsBinding : BindingD → Spelling
  SpellsBinding (binding p x e) = TakesName p x ▹ TakesWord (codes "in") ▹ SpellsExpr e

  pub SpellsBindings : BindingsD → Spelling
  SpellsBindings no_bindings = Never
  SpellsBindings (bind b rest) = SpellsBinding b ▹ SpellsMoreBindings rest

  pub SpellsMoreBindings : BindingsD → Spelling
  SpellsMoreBindings no_bindings = Nothing
  SpellsMoreBindings (bind b rest) = TakesSymbol (codes ",") ▹ SpellsBinding b ▹ SpellsMoreBindings rest

  -- a condition without brackets round it
  pub SpellsCond : CondD → Spelling
  SpellsCond truth = TakesWord (codes "true")
  SpellsCond falsity = TakesWord (codes "false")
  SpellsCond (same e f) = SpellsExpr e ▹ TakesSymbol (codes "=") ▹ SpellsExpr f
  SpellsCond (differ e f) = SpellsExpr e ▹ TakesSymbol (codes "!=") ▹ SpellsExpr f
  SpellsCond (below p e f) = SpellsExpr e ▹ TakesSymbolAt p (codes "<") ▹ SpellsExpr f
  SpellsCond (member e f) = SpellsExpr e ▹ TakesWord (codes "in") ▹ SpellsExpr f
  SpellsCond (included e f) = SpellsExpr e ▹ TakesWord (codes "subset") ▹ SpellsExpr f
  SpellsCond (empty e) = TakesWord (codes "empty") ▹ TakesSymbol (codes "(") ▹ SpellsExpr e ▹ TakesSymbol (codes ")")
  SpellsCond (not c) = TakesWord (codes "not") ▹ Enclosed (is_base c) (SpellsCond c)
  SpellsCond (all cs) = Provided (AreMany cs) (SpellsUnits cs)
  SpellsCond (any cs) = Provided (AreMany cs) (SpellsConjunctions cs)
  SpellsCond (exists b c) =
      TakesWord (codes "exists") ▹ SpellsBinding b ▹ TakesSymbol (codes ":") ▹ Enclosed (is_base c) (SpellsCond c)
  SpellsCond (every b c) =
      TakesWord (codes "forall") ▹ SpellsBinding b ▹ TakesSymbol (codes ":") ▹ Enclosed (is_base c) (SpellsCond c)

  -- with `and` between them
  pub SpellsUnits : CondsD → Spelling
  SpellsUnits no_conds = Never
  SpellsUnits (cond c rest) = Enclosed (is_unit c) (SpellsCond c) ▹ SpellsMoreUnits rest

  pub SpellsMoreUnits : CondsD → Spelling
  SpellsMoreUnits no_conds = Nothing
  SpellsMoreUnits (cond c rest) = TakesWord (codes "and") ▹ Enclosed (is_unit c) (SpellsCond c) ▹ SpellsMoreUnits rest

  -- with `or` between them
  pub SpellsConjunctions : CondsD → Spelling
  SpellsConjunctions no_conds = Never
  SpellsConjunctions (cond c rest) = Enclosed (is_conjunction c) (SpellsCond c) ▹ SpellsMoreConjunctions rest

  pub SpellsMoreConjunctions : CondsD → Spelling
  SpellsMoreConjunctions no_conds = Nothing
  SpellsMoreConjunctions (cond c rest) =
      TakesWord (codes "or") ▹ Enclosed (is_conjunction c) (SpellsCond c) ▹ SpellsMoreConjunctions rest

abbrev mutual
  pub SpellsStmt : StmtD → Spelling
  SpellsStmt («let» p x e) = TakesWord (codes "let") ▹ TakesName p x ▹ TakesSymbol (codes "=") ▹ SpellsExpr e ▹ TakesSymbol (codes ";")
  SpellsStmt (assign p x e) = TakesName p x ▹ TakesSymbol (codes ":=") ▹ SpellsExpr e ▹ TakesSymbol (codes ";")
  SpellsStmt (add e p x) = TakesWord (codes "add") ▹ SpellsExpr e ▹ TakesWord (codes "to") ▹ TakesName p x ▹ TakesSymbol (codes ";")
  SpellsStmt (for b c body) = TakesWord (codes "for") ▹ SpellsBinding b ▹ WhereClause c (SpellsCond c) ▹ Block (SpellsStmts body)
  SpellsStmt ((if) c yes_block no_block) =
      TakesWord (codes "if") ▹ Enclosed true (SpellsCond c) ▹ Block (SpellsStmts yes_block) ▹ ElseClause no_block (SpellsStmts no_block)
  SpellsStmt (while p c n body) =
      TakesWordAt p (codes "while") ▹ Enclosed true (SpellsCond c) ▹ TakesWord (codes "turns") ▹ TakesNumber n ▹ Block (SpellsStmts body)
  SpellsStmt (assert p c) = TakesWordAt p (codes "assert") ▹ Enclosed true (SpellsCond c) ▹ TakesSymbol (codes ";")
  SpellsStmt (print p q x) = TakesWordAt p (codes "print") ▹ TakesName q x ▹ TakesSymbol (codes ";")

  pub SpellsStmts : StmtsD → Spelling
  SpellsStmts no_stmts = Nothing
  SpellsStmts (stmt a rest) = SpellsStmt a ▹ SpellsStmts rest

abbrev pub SpellsMoreNames : List ParamD → Spelling
SpellsMoreNames [] = Nothing
SpellsMoreNames (x ∷ rest) = TakesSymbol (codes ",") ▹ TakesName x.place x.name ▹ SpellsMoreNames rest

abbrev pub SpellsParameters : List ParamD → Spelling
SpellsParameters [] = Nothing
SpellsParameters (x ∷ rest) = TakesWord (codes "parameter") ▹ TakesName x.place x.name ▹ SpellsMoreNames rest ▹ TakesSymbol (codes ";")

abbrev pub structure_word : Bool → List ℕ
structure_word true = codes "order"
structure_word false = codes "equality"

-- the tokens are those of the script, and nothing else
abbrev pub SpellsScript : ScriptD → List PlacedToken → Type 0
SpellsScript s tokens =
    (TakesWord (codes "atoms") ▹ TakesWord (structure_word s.ordered) ▹ TakesSymbol (codes ";") ▹ SpellsParameters s.parameters ▹ SpellsStmts s.body) tokens []

-- the tokens are the first of some script of the grammar without limits
abbrev pub Begins : List PlacedToken → Type 0
Begins tokens = (more : List PlacedToken) × (s : ScriptD) × SpellsScript s (tokens ++ more)
