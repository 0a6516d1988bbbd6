-- The descent over the tokens that are still to come: each form gives its tree and the tokens behind it, or where the
-- reader stops. This file is of the reader's own steps, and no public clause cites it.
use Rattle.std.specs.Prelude.{ℕ, zero, suc, Bool, true, false, not, ◌==◌, nat_lt, List, [], ◌∷◌, ◌++◌, length, drop, Option, Some, None, Result, Ok, Err, if◌then◌else◌}
use Rattle.lois_script.specs.Grammar.{PlacedToken, decimal}
use Rattle.lois_script.specs.Tree as trees
use Rattle.lois_script.specs.Tree.{ExprD, no_exprs, expr, BindingD, CondD, StmtD, ParamD, ScriptD}
use Rattle.lois_script.specs.View.{exprs_of, bindings_of, conds_of, stmts_of}
use Rattle.lois_script.specs.declared.syntax.Operation.{Operation}
use Rattle.lois_descent.specs.Lexemes.{accepts, relation_of, unit_form, expr_form, base_form, stmt_form, connective, optional_start, has_two_operands}
use Rattle.lois_descent.specs.Steps.{first_lexeme, first_place, first_bytes}
use Rattle.lois_descent.specs.declared.parse_error.ParseError.{ParseError}
use Rattle.lois_descent.specs.declared.parse_error.ParseError.TheVariants.{NoScript, TooNested, WideTuple, TurnsTooMany}
use Rattle.lois_descent.specs.declared.lexemes.Lexeme.{Lexeme}
use Rattle.lois_descent.specs.declared.lexemes.Lexeme.TheVariants.{Tag, Word}
use Rattle.lois_descent.specs.declared.lexemes.Keyword.TheVariants as words
use Rattle.lois_descent.specs.declared.lexemes.Terminal.{Terminal}
use Rattle.lois_descent.specs.declared.lexemes.Terminal.TheVariants as terminals
use Rattle.lois_descent.specs.declared.lexemes.UnitForm.{UnitForm}
use Rattle.lois_descent.specs.declared.lexemes.UnitForm.TheVariants as units
use Rattle.lois_descent.specs.declared.lexemes.ExprForm.{ExprForm}
use Rattle.lois_descent.specs.declared.lexemes.ExprForm.TheVariants as exprs
use Rattle.lois_descent.specs.declared.lexemes.BaseForm.{BaseForm}
use Rattle.lois_descent.specs.declared.lexemes.BaseForm.TheVariants as bases
use Rattle.lois_descent.specs.declared.lexemes.StmtForm.{StmtForm}
use Rattle.lois_descent.specs.declared.lexemes.StmtForm.TheVariants as stmts
use Rattle.lois_descent.specs.declared.lexemes.Relation.{Relation}
use Rattle.lois_descent.specs.declared.lexemes.Relation.TheVariants as relations
use Rattle.lois_descent.specs.declared.lexemes.Connective.{Connective}
use Rattle.lois_descent.specs.declared.lexemes.Connective.TheVariants as joints
use Rattle.lois_descent.specs.declared.lexemes.OptionalStart.{OptionalStart}
use Rattle.lois_descent.specs.declared.lexemes.OptionalStart.TheVariants as leads

abbrev pub Tokens : Type 0
Tokens = List PlacedToken

abbrev pub Read : Type 0 → Type 0
Read A = Tokens → Result (A × Tokens) ParseError

infixl 10 ◌>>=◌
abbrev pub ◌>>=◌ : {A B : Type 0} → Result A ParseError → (A → Result B ParseError) → Result B ParseError
(Ok x) >>= f = f x
(Err e) >>= f = Err e

-- no script goes on with the first of these tokens
abbrev pub stop : {A : Type 0} → Tokens → Result A ParseError
stop s = Err (NoScript (length s))

-- ---- one token

unfoldable pub pass : Terminal → Tokens → Result Tokens ParseError
pass x s = if accepts x (first_lexeme s) then Ok (drop 1 s) else stop s

-- behind an opening bracket, where so many more may be open
unfoldable pub enter : ℕ → Tokens → Result Tokens ParseError
enter depth_left s = if depth_left == 0 then Err (TooNested (length s)) else Ok (drop 1 s)

abbrev pub call_by : OptionalStart → ℕ → Tokens → Result Tokens ParseError
call_by leads.OpenRound depth_left s = enter depth_left s
call_by _ depth_left s = stop s

-- behind the `(` of a call
unfoldable pub enter_call : ℕ → Tokens → Result Tokens ParseError
enter_call depth_left s = call_by (optional_start (first_lexeme s)) depth_left s

unfoldable pub name : Read ParamD
name s = if accepts terminals.Name (first_lexeme s) then Ok (record { place = first_place s; name = first_bytes s }, drop 1 s) else stop s

abbrev pub tag_by : Lexeme → Read (List ℕ)
tag_by Tag s = Ok (drop 1 (first_bytes s), drop 1 s)
tag_by _ s = stop s

-- the name behind the quote
unfoldable pub tag : Read (List ℕ)
tag s = tag_by (first_lexeme s) s

unfoldable pub number : Read ℕ
number s = if accepts terminals.Number (first_lexeme s) then Ok (decimal (first_bytes s), drop 1 s) else stop s

abbrev pub relation_by : Option Relation → Read Relation
relation_by None s = stop s
relation_by (Some r) s = Ok (r, drop 1 s)

unfoldable pub relation : Read Relation
relation s = relation_by (relation_of (first_lexeme s)) s

abbrev pub structure_by : Lexeme → Read Bool
structure_by (Word words.Equality) s = Ok (false, drop 1 s)
structure_by (Word words.Order) s = Ok (true, drop 1 s)
structure_by _ s = stop s

unfoldable pub structure : Read Bool
structure s = structure_by (first_lexeme s) s

-- ---- lists

-- items as long as a test says that one follows; the number bounds the turns, and each item takes a token
abbrev pub many : {A : Type 0} → (Tokens → Bool) → Read A → ℕ → Read (List A)
many test item zero s = stop s
many test item (suc n) s = if test s then item s >>= (λ x. many test item n x.1 >>= (λ y. Ok (x.0 ∷ y.0, y.1))) else Ok ([], s)

-- what was read before in front of what is read
abbrev pub behind : {A : Type 0} → List A → Result (List A × Tokens) ParseError → Result (List A × Tokens) ParseError
behind front read = read >>= λ y. Ok (front ++ y.0, y.1)

abbrev pub begins : Terminal → Tokens → Bool
begins x s = accepts x (first_lexeme s)

-- an item behind one token
abbrev pub next : {A : Type 0} → Read A → Read A
next item s = item (drop 1 s)

-- items behind this first one, each behind a comma
unfoldable pub listed : {A : Type 0} → Read A → A → Read (List A)
listed item first s = behind (first ∷ []) (many (begins terminals.Comma) (next item) (suc (length s)) s)

-- ---- expressions: e and c read what stands in one bracket more, and so many more may be open

-- parts behind those so far, each behind a comma, at most so many
abbrev pub more_parts : Read ExprD → ℕ → Read (List ExprD)
more_parts e zero s = if begins terminals.Comma s then Err (WideTuple (length s)) else Ok ([], s)
more_parts e (suc n) s = if begins terminals.Comma s then e (drop 1 s) >>= (λ x. more_parts e n x.1 >>= (λ y. Ok (x.0 ∷ y.0, y.1))) else Ok ([], s)

unfoldable pub parts : Read ExprD → ExprD → Read (List ExprD)
parts e first s = behind (first ∷ []) (more_parts e 7 s)

unfoldable pub tuple : ℕ → Read ExprD → Read ExprD
tuple depth_left e s = do
  inside ← enter depth_left s
  first ← e inside
  all ← parts e first.0 first.1
  end ← (if length all.0 == 1 then stop all.1 else pass terminals.CloseRound all.1)
  Ok (trees.tuple (first_place s) (exprs_of all.0), end)

unfoldable pub part : ℕ → Read ExprD → Read ExprD
part depth_left e s = do
  inside ← enter_call depth_left (drop 1 s)
  whole ← e inside
  comma ← pass terminals.Comma whole.1
  index ← number comma
  end ← pass terminals.CloseRound index.1
  Ok (trees.part (first_place s) whole.0 index.0, end)

unfoldable pub apply_one : Operation → ℕ → Read ExprD → Read ExprD
apply_one operation depth_left e s = do
  inside ← enter_call depth_left (drop 1 s)
  operand ← e inside
  end ← pass terminals.CloseRound operand.1
  Ok (trees.apply (first_place s) operation (expr operand.0 no_exprs), end)

unfoldable pub apply_two : Operation → ℕ → Read ExprD → Read ExprD
apply_two operation depth_left e s = do
  inside ← enter_call depth_left (drop 1 s)
  left ← e inside
  comma ← pass terminals.Comma left.1
  right ← e comma
  end ← pass terminals.CloseRound right.1
  Ok (trees.apply (first_place s) operation (expr left.0 (expr right.0 no_exprs)), end)

unfoldable pub apply : Operation → ℕ → Read ExprD → Read ExprD
apply operation depth_left e s = if has_two_operands operation then apply_two operation depth_left e s else apply_one operation depth_left e s

unfoldable pub binding : Read ExprD → Read BindingD
binding e s = do
  x ← name s
  set ← pass terminals.In x.1
  from ← e set
  Ok (trees.binding x.0.place x.0.name from.0, from.1)

abbrev pub guard_by : OptionalStart → Read CondD → Read CondD
guard_by leads.Where c s = c (drop 1 s)
guard_by _ c s = Ok (trees.truth, s)

-- `where` and a condition, or neither
unfoldable pub guard : Read CondD → Read CondD
guard c s = guard_by (optional_start (first_lexeme s)) c s

unfoldable pub each : ℕ → Read ExprD → Read CondD → ExprD → Read ExprD
each place e c item s = do
  first ← binding e (drop 1 s)
  all ← listed (binding e) first.0 first.1
  filter ← guard c all.1
  end ← pass terminals.CloseCurly filter.1
  Ok (trees.each place item (bindings_of all.0) filter.0, end)

unfoldable pub items : ℕ → Read ExprD → ExprD → Read ExprD
items place e first s = do
  all ← listed e first s
  end ← pass terminals.CloseCurly all.1
  Ok (trees.listed place (exprs_of all.0), end)

abbrev pub set_by : OptionalStart → ℕ → Read ExprD → Read CondD → ExprD → Read ExprD
set_by leads.For place e c first s = each place e c first s
set_by _ place e c first s = items place e first s

unfoldable pub braces : ℕ → Read ExprD → Read CondD → Read ExprD
braces depth_left e c s = enter depth_left s >>= λ inside.
    if begins terminals.CloseCurly inside then Ok (trees.listed (first_place s) no_exprs, drop 1 inside)
    else e inside >>= λ first. set_by (optional_start (first_lexeme first.1)) (first_place s) e c first.0 first.1

abbrev pub expression_by : ExprForm → ℕ → Read ExprD → Read CondD → Read ExprD
expression_by exprs.Atoms depth_left e c s = Ok (trees.atoms (first_place s), drop 1 s)
expression_by exprs.Var depth_left e c s = name s >>= λ x. Ok (trees.var x.0.place x.0.name, x.1)
expression_by exprs.Tag depth_left e c s = tag s >>= λ x. Ok (trees.tag (first_place s) x.0, x.1)
expression_by exprs.Tuple depth_left e c s = tuple depth_left e s
expression_by exprs.Braces depth_left e c s = braces depth_left e c s
expression_by exprs.Part depth_left e c s = part depth_left e s
expression_by (exprs.Apply operation) depth_left e c s = apply operation depth_left e s
expression_by exprs.NoExpr depth_left e c s = stop s

unfoldable pub expression : ℕ → Read ExprD → Read CondD → Read ExprD
expression depth_left e c s = expression_by (expr_form (first_lexeme s)) depth_left e c s

-- ---- conditions: h reads an expression here, e and c what stands in one bracket more

abbrev pub compared : Relation → ℕ → ExprD → ExprD → CondD
compared relations.Same place e f = trees.same e f
compared relations.Differ place e f = trees.differ e f
compared relations.Below place e f = trees.below place e f
compared relations.Member place e f = trees.member e f
compared relations.Included place e f = trees.included e f

unfoldable pub comparison : Read ExprD → Read CondD
comparison h s = do
  left ← h s
  between ← relation left.1
  right ← h between.1
  Ok (compared between.0 (first_place left.1) left.0 right.0, right.1)

unfoldable pub emptiness : ℕ → Read ExprD → Read CondD
emptiness depth_left e s = do
  inside ← enter_call depth_left (drop 1 s)
  automaton ← e inside
  end ← pass terminals.CloseRound automaton.1
  Ok (trees.empty automaton.0, end)

unfoldable pub brackets : ℕ → Read CondD → Read CondD
brackets depth_left c s = do
  inside ← enter depth_left s
  whole ← c inside
  end ← pass terminals.CloseSquare whole.1
  Ok (whole.0, end)

abbrev pub base_by : BaseForm → ℕ → Read ExprD → Read ExprD → Read CondD → Read CondD
base_by bases.True depth_left h e c s = Ok (trees.truth, drop 1 s)
base_by bases.False depth_left h e c s = Ok (trees.falsity, drop 1 s)
base_by bases.Empty depth_left h e c s = emptiness depth_left e s
base_by bases.Brackets depth_left h e c s = brackets depth_left c s
base_by bases.Comparison depth_left h e c s = comparison h s

unfoldable pub base : ℕ → Read ExprD → Read ExprD → Read CondD → Read CondD
base depth_left h e c s = base_by (base_form (first_lexeme s)) depth_left h e c s

-- the binding and the base behind a quantifier
unfoldable pub quantified : Read ExprD → Read CondD → Read (BindingD × CondD)
quantified h b s = do
  variable ← binding h (drop 1 s)
  colon ← pass terminals.Colon variable.1
  body ← b colon
  Ok ((variable.0, body.0), body.1)

abbrev pub unit_by : UnitForm → Read ExprD → Read CondD → Read CondD
unit_by units.Not h b s = b (drop 1 s) >>= λ x. Ok (trees.not x.0, x.1)
unit_by units.Exists h b s = quantified h b s >>= λ x. Ok (trees.exists x.0.0 x.0.1, x.1)
unit_by units.Every h b s = quantified h b s >>= λ x. Ok (trees.every x.0.0 x.0.1, x.1)
unit_by units.Base h b s = b s

-- b reads a base
unfoldable pub unit : Read ExprD → Read CondD → Read CondD
unit h b s = unit_by (unit_form (first_lexeme s)) h b s

abbrev pub is_and : Connective → Bool
is_and joints.And = true
is_and _ = false

abbrev pub is_or : Connective → Bool
is_or joints.Or = true
is_or _ = false

abbrev pub begins_and : Tokens → Bool
begins_and s = is_and (connective (first_lexeme s))

abbrev pub begins_or : Tokens → Bool
begins_or s = is_or (connective (first_lexeme s))

-- conditions behind this first one, each behind a word
unfoldable pub more_units : Read CondD → CondD → Read (List CondD)
more_units u first s = behind (first ∷ []) (many begins_and (next u) (suc (length s)) s)

unfoldable pub more_conjunctions : Read CondD → CondD → Read (List CondD)
more_conjunctions k first s = behind (first ∷ []) (many begins_or (next k) (suc (length s)) s)

-- u reads a unit
unfoldable pub conjunction : Read CondD → Read CondD
conjunction u s = u s >>= λ first. if begins_and first.1 then more_units u first.0 first.1 >>= (λ all. Ok (trees.all (conds_of all.0), all.1)) else Ok first

-- k reads a conjunction
unfoldable pub condition : Read CondD → Read CondD
condition k s = k s >>= λ first. if begins_or first.1 then more_conjunctions k first.0 first.1 >>= (λ all. Ok (trees.any (conds_of all.0), all.1)) else Ok first

-- ---- the knot

-- nothing stands in more brackets than may be open
abbrev pub closed : {A : Type 0} → Read A
closed s = Err (TooNested (length s))

-- h reads an expression here
abbrev pub condition_at : ℕ → Read ExprD → Read ExprD → Read CondD → Read CondD
condition_at depth_left h e c = condition (conjunction (unit h (base depth_left h e c)))

unfoldable mutual
  pub expr_of : ℕ → Read ExprD
  expr_of zero s = expression zero closed closed s
  expr_of (suc depth_left) s = expression (suc depth_left) (expr_of depth_left) (cond_of depth_left) s

  pub cond_of : ℕ → Read CondD
  cond_of zero s = condition_at zero (expression zero closed closed) closed closed s
  cond_of (suc depth_left) s =
      condition_at (suc depth_left) (expression (suc depth_left) (expr_of depth_left) (cond_of depth_left)) (expr_of depth_left) (cond_of depth_left) s

-- what stands in one bracket more
unfoldable pub inner_expr : ℕ → Read ExprD
inner_expr zero s = closed s
inner_expr (suc depth_left) s = expr_of depth_left s

unfoldable pub inner_cond : ℕ → Read CondD
inner_cond zero s = closed s
inner_cond (suc depth_left) s = cond_of depth_left s

-- the forms that stand here
unfoldable pub expr_here : ℕ → Read ExprD
expr_here depth_left s = expression depth_left (inner_expr depth_left) (inner_cond depth_left) s

abbrev pub base_here : ℕ → Read CondD
base_here depth_left = base depth_left (expr_here depth_left) (inner_expr depth_left) (inner_cond depth_left)

abbrev pub unit_here : ℕ → Read CondD
unit_here depth_left = unit (expr_here depth_left) (base_here depth_left)

abbrev pub conjunction_here : ℕ → Read CondD
conjunction_here depth_left = conjunction (unit_here depth_left)

abbrev pub cond_here : ℕ → Read CondD
cond_here depth_left = condition (conjunction_here depth_left)

-- ---- statements, where so many brackets more may be open: b reads the statements of a block with its `}`

unfoldable pub let_statement : ℕ → Read StmtD
let_statement depth_left s = do
  x ← name (drop 1 s)
  equal ← pass terminals.Equal x.1
  value ← expr_of depth_left equal
  end ← pass terminals.Semicolon value.1
  Ok (trees.«let» x.0.place x.0.name value.0, end)

unfoldable pub assignment : ℕ → Read StmtD
assignment depth_left s = do
  x ← name s
  becomes ← pass terminals.Becomes x.1
  value ← expr_of depth_left becomes
  end ← pass terminals.Semicolon value.1
  Ok (trees.assign x.0.place x.0.name value.0, end)

unfoldable pub addition : ℕ → Read StmtD
addition depth_left s = do
  value ← expr_of depth_left (drop 1 s)
  to ← pass terminals.To value.1
  x ← name to
  end ← pass terminals.Semicolon x.1
  Ok (trees.add value.0 x.0.place x.0.name, end)

unfoldable pub block : ℕ → Read (List StmtD) → Read (List StmtD)
block depth_left b s = if begins terminals.OpenCurly s then enter depth_left s >>= b else stop s

unfoldable pub for_statement : ℕ → Read (List StmtD) → Read StmtD
for_statement depth_left b s = do
  variable ← binding (expr_of depth_left) (drop 1 s)
  filter ← guard (cond_of depth_left) variable.1
  body ← block depth_left b filter.1
  Ok (trees.for variable.0 filter.0 (stmts_of body.0), body.1)

abbrev pub else_by : OptionalStart → ℕ → Read (List StmtD) → Read (List StmtD)
else_by leads.Else depth_left b s = block depth_left b (drop 1 s)
else_by _ depth_left b s = Ok ([], s)

-- `else` and a block, or neither
unfoldable pub else_block : ℕ → Read (List StmtD) → Read (List StmtD)
else_block depth_left b s = else_by (optional_start (first_lexeme s)) depth_left b s

unfoldable pub if_statement : ℕ → Read (List StmtD) → Read StmtD
if_statement depth_left b s = do
  test ← cond_of depth_left (drop 1 s)
  body ← block depth_left b test.1
  other ← else_block depth_left b body.1
  Ok (trees.if test.0 (stmts_of body.0) (stmts_of other.0), other.1)

-- a number of turns
unfoldable pub limited : Read ℕ
limited s = number s >>= λ n. if nat_lt 1000000 n.0 then Err (TurnsTooMany (length s)) else Ok n

abbrev pub turns_by : Lexeme → Read ℕ
turns_by (Word words.Turns) s = limited (drop 1 s)
turns_by _ s = stop s

-- `turns` and their number
unfoldable pub turns : Read ℕ
turns s = turns_by (first_lexeme s) s

unfoldable pub while_statement : ℕ → Read (List StmtD) → Read StmtD
while_statement depth_left b s = do
  test ← cond_of depth_left (drop 1 s)
  limit ← turns test.1
  body ← block depth_left b limit.1
  Ok (trees.while (first_place s) test.0 limit.0 (stmts_of body.0), body.1)

unfoldable pub assertion : ℕ → Read StmtD
assertion depth_left s = do
  test ← cond_of depth_left (drop 1 s)
  end ← pass terminals.Semicolon test.1
  Ok (trees.assert (first_place s) test.0, end)

unfoldable pub printing : Read StmtD
printing s = do
  x ← name (drop 1 s)
  end ← pass terminals.Semicolon x.1
  Ok (trees.print (first_place s) x.0.place x.0.name, end)

abbrev pub statement_by : StmtForm → ℕ → Read (List StmtD) → Read StmtD
statement_by stmts.Let depth_left b s = let_statement depth_left s
statement_by stmts.Assign depth_left b s = assignment depth_left s
statement_by stmts.Add depth_left b s = addition depth_left s
statement_by stmts.For depth_left b s = for_statement depth_left b s
statement_by stmts.If depth_left b s = if_statement depth_left b s
statement_by stmts.While depth_left b s = while_statement depth_left b s
statement_by stmts.Assert depth_left b s = assertion depth_left s
statement_by stmts.Print depth_left b s = printing s
statement_by stmts.NoStmt depth_left b s = stop s

unfoldable pub statement : ℕ → Read (List StmtD) → Read StmtD
statement depth_left b s = statement_by (stmt_form (first_lexeme s)) depth_left b s

abbrev pub goes_on : Tokens → Bool
goes_on s = not (begins terminals.CloseCurly s)

-- statements with the `}` behind them
unfoldable pub statements : Read StmtD → Read (List StmtD)
statements a s = do
  all ← many goes_on a (suc (length s)) s
  end ← pass terminals.CloseCurly all.1
  Ok (all.0, end)

unfoldable pub block_of : ℕ → Read (List StmtD)
block_of zero s = statements (statement zero closed) s
block_of (suc depth_left) s = statements (statement (suc depth_left) (block_of depth_left)) s

unfoldable pub inner_block : ℕ → Read (List StmtD)
inner_block zero s = closed s
inner_block (suc depth_left) s = block_of depth_left s

-- ---- the script

abbrev pub parameters_by : OptionalStart → Read (List ParamD)
parameters_by leads.Parameter s = name (drop 1 s) >>= λ first. listed name first.0 first.1 >>= λ all. pass terminals.Semicolon all.1 >>= λ end. Ok (all.0, end)
parameters_by _ s = Ok ([], s)

-- parameters, or none
unfoldable pub parameters : Read (List ParamD)
parameters s = parameters_by (optional_start (first_lexeme s)) s

abbrev pub is_some : Tokens → Bool
is_some [] = false
is_some (t ∷ ts) = true

-- all statements up to the end
unfoldable pub outermost : ℕ → Read (List StmtD) → Read (List StmtD)
outermost depth_left b s = many is_some (statement depth_left b) (suc (length s)) s

abbrev pub body : Read (List StmtD)
body = outermost 64 (inner_block 64)

unfoldable pub script : Tokens → Result ScriptD ParseError
script s = do
  head ← pass terminals.Atoms s
  order ← structure head
  start ← pass terminals.Semicolon order.1
  names ← parameters start
  all ← body names.1
  Ok (record { ordered = order.0; parameters = names.0; body = stmts_of all.0 })
