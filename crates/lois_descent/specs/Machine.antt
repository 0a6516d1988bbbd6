-- A machine that goes over the tokens with a stack of what has still to come, and stops at the first token that is at
-- fault. The next token always decides the form, so each step takes one token.
use Rattle.std.specs.Prelude.{ℕ, suc, Bool, true, false, cond, ◌&&◌, Option, Some, None, option_map, List, [], ◌∷◌, ◌++◌, nat_eq, nat_lt, nat_le}
use Rattle.lois_script.specs.Grammar.{PlacedToken, decimal}
use Rattle.lois_script.specs.Limits.{opens, open_after}
use Rattle.lois_script.specs.declared.syntax.Operation.{Operation}
use Rattle.lois_script.specs.declared.syntax.Operation.TheVariants.{Union, Inter, Minus, Flatten, Reach, Product, Complement, Minimise}
use Rattle.lois_descent.specs.Lexemes.{lexeme_of, accepts}
use Rattle.lois_descent.specs.declared.lexemes.Terminal.{Terminal}
use Rattle.lois_descent.specs.declared.lexemes.Terminal.TheVariants.{Atoms as the_atoms, Structure as structure, Semicolon as semicolon, Comma as comma, CloseRound as close_round, CloseSquare as close_square, OpenCurly as open_curly, CloseCurly as close_curly, Colon as colon, Equal as equal, Becomes as becomes, In as within, To as to, Relation as relation, Name as name, Number as number}
use Rattle.lois_descent.specs.Refusals.{Limit, nesting, parts, turns}
use Rattle.lois_descent.specs.declared.lexemes.Lexeme.{Lexeme}
use Rattle.lois_descent.specs.declared.lexemes.Lexeme.TheVariants.{Name, Tag, Number, Word, Symbol}
use Rattle.lois_descent.specs.declared.lexemes.Keyword.TheVariants as words
use Rattle.lois_descent.specs.declared.lexemes.Punctuator.TheVariants as punctuators

-- what stands behind a condition: one token, or `turns` with its number and block
pub data ItemEnd : Type 0 where
  token : Terminal → ItemEnd
  turns_block : ItemEnd

-- what brackets of a call hold
pub data Arguments : Type 0 where
  one : Arguments
  two : Arguments
  part_number : Arguments

-- What has still to come. Each takes at least one token, and none may be left out: what may is joined with what follows it.
pub data Item : Type 0 where
  terminal : Terminal → Item
  expression : Item
  -- `(`, the arguments, `)`
  arguments : Arguments → Item
  -- what follows so many parts of a tuple, with its `)`
  more_parts : ℕ → Item
  -- what follows an item that isn't the first in braces, with the `}`
  more_items : Item
  -- what follows the `{` of an expression, with the `}`
  after_brace : Item
  -- what follows the first item, with the `}`
  after_item : Item
  -- what follows a binding in braces, with the `}`
  more_bindings : Item
  -- `where` and a condition, or neither; and then the token
  where_clause : Terminal → Item
  -- a condition, and what stands behind it
  condition : ItemEnd → Item
  -- what follows a unit of a condition
  more_condition : ItemEnd → Item
  unit : Item
  base : Item
  turns_number : Item
  -- statements, with the `}`
  statements : Item
  -- `else` and its block, or neither; and then statements, with the `}`
  after_if : Item
  -- what follows a parameter, with the `;`
  more_names : Item

-- what stands under the stack, up to the end of the tokens
pub data Bottom : Type 0 where
  -- parameters and statements
  body : Bottom
  outermost : Bottom
  -- `else` and its block, or neither; and then statements
  after_outer_if : Bottom

pub record State : Type 0 where
  pub stack : List Item
  pub bottom : Bottom

abbrev pub push : List Item → State → State
push w s = record { stack = w ++ s.stack; bottom = s.bottom }

abbrev pub behind : List Item → Option (List Item) → Option (List Item)
behind v = option_map (λ w. w ++ v)

abbrev pub accepted_if : Bool → Option (List Item)
accepted_if true = Some []
accepted_if false = None

abbrev pub arguments_of : Operation → Arguments
arguments_of Union = two
arguments_of Inter = two
arguments_of Minus = two
arguments_of Product = two
arguments_of Flatten = one
arguments_of Reach = one
arguments_of Complement = one
arguments_of Minimise = one

abbrev pub operands : Arguments → List Item
operands one = expression ∷ terminal close_round ∷ []
operands two = expression ∷ terminal comma ∷ expression ∷ terminal close_round ∷ []
operands part_number = expression ∷ terminal comma ∷ terminal number ∷ terminal close_round ∷ []

abbrev pub expression_start : Lexeme → Option (List Item)
expression_start (Word words.Atoms) = Some []
expression_start Name = Some []
expression_start Tag = Some []
expression_start (Symbol punctuators.OpenRound) = Some (expression ∷ more_parts 1 ∷ [])
expression_start (Symbol punctuators.OpenCurly) = Some (after_brace ∷ [])
expression_start (Word words.Part) = Some (arguments part_number ∷ [])
expression_start (Word (words.Apply op)) = Some (arguments (arguments_of op) ∷ [])
expression_start _ = None

abbrev pub in_set : List Item
in_set = terminal name ∷ terminal within ∷ expression ∷ []

abbrev pub base_start : Lexeme → Option (List Item)
base_start (Word words.True) = Some []
base_start (Word words.False) = Some []
base_start (Word words.Empty) = Some (arguments one ∷ [])
base_start (Symbol punctuators.OpenSquare) = Some (condition (token close_square) ∷ [])
base_start l = behind (terminal relation ∷ expression ∷ []) (expression_start l)

abbrev pub unit_start : Lexeme → Option (List Item)
unit_start (Word words.Not) = Some (base ∷ [])
unit_start (Word words.Exists) = Some (terminal name ∷ terminal within ∷ expression ∷ terminal colon ∷ base ∷ [])
unit_start (Word words.Forall) = Some (terminal name ∷ terminal within ∷ expression ∷ terminal colon ∷ base ∷ [])
unit_start l = base_start l

abbrev pub ending : ItemEnd → Lexeme → Option (List Item)
ending (token x) l = accepted_if (accepts x l)
ending turns_block (Word words.Turns) = Some (turns_number ∷ terminal open_curly ∷ statements ∷ [])
ending turns_block _ = None

abbrev pub where_start : Terminal → Lexeme → Option (List Item)
where_start x (Word words.Where) = Some (condition (token x) ∷ [])
where_start x l = accepted_if (accepts x l)

abbrev pub statement_start : Lexeme → Option (List Item)
statement_start (Word words.Let) = Some (terminal name ∷ terminal equal ∷ expression ∷ terminal semicolon ∷ [])
statement_start Name = Some (terminal becomes ∷ expression ∷ terminal semicolon ∷ [])
statement_start (Word words.Add) = Some (expression ∷ terminal to ∷ terminal name ∷ terminal semicolon ∷ [])
statement_start (Word words.For) = Some (terminal name ∷ terminal within ∷ expression ∷ where_clause open_curly ∷ statements ∷ [])
statement_start (Word words.While) = Some (condition turns_block ∷ [])
statement_start (Word words.Assert) = Some (condition (token semicolon) ∷ [])
statement_start (Word words.Print) = Some (terminal name ∷ terminal semicolon ∷ [])
statement_start _ = None

abbrev pub statements_start : Lexeme → Option (List Item)
statements_start (Symbol punctuators.CloseCurly) = Some []
statements_start (Word words.If) = Some (condition (token open_curly) ∷ statements ∷ after_if ∷ [])
statements_start l = behind (statements ∷ []) (statement_start l)

abbrev pub after_if_start : Lexeme → Option (List Item)
after_if_start (Word words.Else) = Some (terminal open_curly ∷ statements ∷ statements ∷ [])
after_if_start l = statements_start l

abbrev pub more_parts_start : ℕ → Lexeme → Option (List Item)
more_parts_start n (Symbol punctuators.Comma) = Some (expression ∷ more_parts (suc n) ∷ [])
more_parts_start n (Symbol punctuators.CloseRound) = accepted_if (nat_le 2 n)
more_parts_start n _ = None

abbrev pub more_items_start : Lexeme → Option (List Item)
more_items_start (Symbol punctuators.Comma) = Some (expression ∷ more_items ∷ [])
more_items_start (Symbol punctuators.CloseCurly) = Some []
more_items_start _ = None

abbrev pub brace_start : Lexeme → Option (List Item)
brace_start (Symbol punctuators.CloseCurly) = Some []
brace_start l = behind (after_item ∷ []) (expression_start l)

abbrev pub after_item_start : Lexeme → Option (List Item)
after_item_start (Symbol punctuators.Comma) = Some (expression ∷ more_items ∷ [])
after_item_start (Word words.For) = Some (terminal name ∷ terminal within ∷ expression ∷ more_bindings ∷ [])
after_item_start (Symbol punctuators.CloseCurly) = Some []
after_item_start _ = None

abbrev pub more_bindings_start : Lexeme → Option (List Item)
more_bindings_start (Symbol punctuators.Comma) = Some (terminal name ∷ terminal within ∷ expression ∷ more_bindings ∷ [])
more_bindings_start l = where_start close_curly l

abbrev pub more_condition_start : ItemEnd → Lexeme → Option (List Item)
more_condition_start e (Word words.And) = Some (unit ∷ more_condition e ∷ [])
more_condition_start e (Word words.Or) = Some (unit ∷ more_condition e ∷ [])
more_condition_start e l = ending e l

abbrev pub more_names_start : Lexeme → Option (List Item)
more_names_start (Symbol punctuators.Comma) = Some (terminal name ∷ more_names ∷ [])
more_names_start (Symbol punctuators.Semicolon) = Some []
more_names_start _ = None

abbrev pub arguments_start : Arguments → Lexeme → Option (List Item)
arguments_start a (Symbol punctuators.OpenRound) = Some (operands a)
arguments_start a _ = None

abbrev pub turns_start : Lexeme → Option (List Item)
turns_start Number = Some []
turns_start _ = None

-- what has to come behind the token, where it begins the item
abbrev pub item_start : Item → Lexeme → Option (List Item)
item_start (terminal x) l = accepted_if (accepts x l)
item_start expression l = expression_start l
item_start (arguments a) l = arguments_start a l
item_start (more_parts n) l = more_parts_start n l
item_start more_items l = more_items_start l
item_start after_brace l = brace_start l
item_start after_item l = after_item_start l
item_start more_bindings l = more_bindings_start l
item_start (where_clause x) l = where_start x l
item_start (condition e) l = behind (more_condition e ∷ []) (unit_start l)
item_start (more_condition e) l = more_condition_start e l
item_start unit l = unit_start l
item_start base l = base_start l
item_start turns_number l = turns_start l
item_start statements l = statements_start l
item_start after_if l = after_if_start l
item_start more_names l = more_names_start l

abbrev pub at_bottom : Bottom → List Item → State
at_bottom b w = record { stack = w; bottom = b }

abbrev pub outermost_start : Lexeme → Option State
outermost_start (Word words.If) = Some (at_bottom after_outer_if (condition (token open_curly) ∷ statements ∷ []))
outermost_start l = option_map (at_bottom outermost) (statement_start l)

abbrev pub bottom_start : Bottom → Lexeme → Option State
bottom_start body (Word words.Parameter) = Some (at_bottom outermost (terminal name ∷ more_names ∷ []))
bottom_start after_outer_if (Word words.Else) = Some (at_bottom outermost (terminal open_curly ∷ statements ∷ []))
bottom_start _ l = outermost_start l

abbrev pub step_from : List Item → Bottom → Lexeme → Option State
step_from [] b l = bottom_start b l
step_from (x ∷ rest) b l = option_map (λ w. at_bottom b (w ++ rest)) (item_start x l)

abbrev pub step : State → Lexeme → Option State
step s l = step_from s.stack s.bottom l

-- the tokens may end here
abbrev pub is_end_of : List Item → Bool
is_end_of [] = true
is_end_of _ = false

abbrev pub is_comma : Lexeme → Bool
is_comma (Symbol punctuators.Comma) = true
is_comma _ = false

abbrev pub over_if : Bool → Limit → Option Limit
over_if true limit = Some limit
over_if false limit = None

-- the limit that a token goes over by what stands on the stack
abbrev pub item_breach : List Item → PlacedToken → Option Limit
item_breach (more_parts n ∷ rest) t = over_if (nat_eq n 8 && is_comma (lexeme_of t)) parts
item_breach (turns_number ∷ rest) t = over_if (nat_lt 1000000 (decimal t.bytes)) turns
item_breach _ t = None

-- the limit that a token goes over, where n brackets are open
abbrev pub breach : ℕ → List Item → PlacedToken → Option Limit
breach n stack t = cond (opens t && nat_eq n 64) (Some nesting) (item_breach stack t)

pub data Cause : Type 0 where
  no_script : Cause
  over : Limit → Cause

pub data Verdict : Type 0 where
  accepted : Verdict
  refused : Cause → ℕ → Verdict

abbrev pub at_end : ℕ → Bool → Verdict
at_end i true = accepted
at_end i false = refused no_script i

abbrev pub settle : ℕ → Option State → (State → Verdict) → Verdict
settle i None f = refused no_script i
settle i (Some next) f = f next

abbrev pub unless_over : ℕ → Option Limit → Verdict → Verdict
unless_over i (Some limit) v = refused (over limit) i
unless_over i None v = v

-- what becomes of the tokens from number i on, where n brackets are open before them
unfoldable pub verdict : ℕ → ℕ → State → List PlacedToken → Verdict
verdict i n s [] = at_end i (is_end_of s.stack)
verdict i n s (t ∷ ts) =
    settle i (step s (lexeme_of t)) (λ next. unless_over i (breach n s.stack t) (verdict (suc i) (open_after n t) next ts))

abbrev pub start : State
start = record { stack = terminal the_atoms ∷ terminal structure ∷ terminal semicolon ∷ []; bottom = body }
