-- What a token is to the grammar. This file is of the reader's own steps, and no public clause cites it.
use Rattle.std.specs.Prelude.{ℕ, Bool, true, false, cond, nat_eq, Option, Some, None, List, [], ◌∷◌, codes}
use Rattle.std.specs.List.{find}
use Rattle.std.specs.Str.{bytes_eq}
use Rattle.lois_lexer.specs.declared.TokenKind.{TokenKind}
use Rattle.lois_lexer.specs.declared.TokenKind.TheVariants as kinds
use Rattle.lois_script.specs.Grammar.{PlacedToken, operation_word}
use Rattle.lois_script.specs.declared.syntax.Operation.{Operation}
use Rattle.lois_script.specs.declared.syntax.Operation.TheVariants.{Union, Inter, Minus, Product}
use Rattle.lois_descent.specs.declared.lexemes.TheConstants.{KEYWORDS, PUNCTUATORS}
use Rattle.lois_descent.specs.declared.lexemes.Lexeme.{Lexeme}
use Rattle.lois_descent.specs.declared.lexemes.Lexeme.TheVariants.{Name, Tag, Number, Word, Symbol, Other}
use Rattle.lois_descent.specs.declared.lexemes.Keyword.{Keyword}
use Rattle.lois_descent.specs.declared.lexemes.Keyword.TheVariants as words
use Rattle.lois_descent.specs.declared.lexemes.Punctuator.{Punctuator}
use Rattle.lois_descent.specs.declared.lexemes.Punctuator.TheVariants as punctuators
use Rattle.lois_descent.specs.declared.lexemes.Terminal.{Terminal}
use Rattle.lois_descent.specs.declared.lexemes.Terminal.TheVariants.{Atoms as the_atoms, Structure as structure, Semicolon as semicolon, Comma as comma, CloseRound as close_round, CloseSquare as close_square, OpenCurly as open_curly, CloseCurly as close_curly, Colon as colon, Equal as equal, Becomes as becomes, In as within, To as to, Relation as relation, Name as name, Number as number}
use Rattle.lois_descent.specs.declared.lexemes.UnitForm.{UnitForm}
use Rattle.lois_descent.specs.declared.lexemes.UnitForm.TheVariants as forms
use Rattle.lois_descent.specs.declared.lexemes.ExprForm.{ExprForm}
use Rattle.lois_descent.specs.declared.lexemes.ExprForm.TheVariants as exprs
use Rattle.lois_descent.specs.declared.lexemes.BaseForm.{BaseForm}
use Rattle.lois_descent.specs.declared.lexemes.BaseForm.TheVariants as bases
use Rattle.lois_descent.specs.declared.lexemes.StmtForm.{StmtForm}
use Rattle.lois_descent.specs.declared.lexemes.StmtForm.TheVariants as stmts
use Rattle.lois_descent.specs.declared.lexemes.Relation.{Relation}
use Rattle.lois_descent.specs.declared.lexemes.Relation.TheVariants as relations
use Rattle.lois_descent.specs.declared.lexemes.OptionalStart.{OptionalStart}
use Rattle.lois_descent.specs.declared.lexemes.OptionalStart.TheVariants as leads
use Rattle.lois_descent.specs.declared.lexemes.Connective.{Connective}
use Rattle.lois_descent.specs.declared.lexemes.Connective.TheVariants as joints

abbrev pub word_of : Keyword → List ℕ
word_of words.Atoms = codes "atoms"
word_of words.Equality = codes "equality"
word_of words.Order = codes "order"
word_of words.Parameter = codes "parameter"
word_of words.Let = codes "let"
word_of words.Add = codes "add"
word_of words.To = codes "to"
word_of words.For = codes "for"
word_of words.In = codes "in"
word_of words.Where = codes "where"
word_of words.If = codes "if"
word_of words.Else = codes "else"
word_of words.While = codes "while"
word_of words.Turns = codes "turns"
word_of words.Assert = codes "assert"
word_of words.Print = codes "print"
word_of words.True = codes "true"
word_of words.False = codes "false"
word_of words.Not = codes "not"
word_of words.And = codes "and"
word_of words.Or = codes "or"
word_of words.Exists = codes "exists"
word_of words.Forall = codes "forall"
word_of words.Subset = codes "subset"
word_of words.Empty = codes "empty"
word_of words.Part = codes "part"
word_of (words.Apply op) = operation_word op

abbrev pub punctuator_text : Punctuator → List ℕ
punctuator_text punctuators.Semicolon = codes ";"
punctuator_text punctuators.Comma = codes ","
punctuator_text punctuators.OpenRound = codes "("
punctuator_text punctuators.CloseRound = codes ")"
punctuator_text punctuators.OpenSquare = codes "["
punctuator_text punctuators.CloseSquare = codes "]"
punctuator_text punctuators.OpenCurly = codes "{"
punctuator_text punctuators.CloseCurly = codes "}"
punctuator_text punctuators.Becomes = codes ":="
punctuator_text punctuators.Colon = codes ":"
punctuator_text punctuators.Equal = codes "="
punctuator_text punctuators.Differs = codes "!="
punctuator_text punctuators.Below = codes "<"

abbrev pub as_word : Option Keyword → Lexeme
as_word None = Other
as_word (Some k) = Word k

abbrev pub as_symbol : Option Punctuator → Lexeme
as_symbol None = Other
as_symbol (Some s) = Symbol s

-- a tag's bytes begin with the quote
abbrev pub as_tag : List ℕ → Lexeme
as_tag [] = Other
as_tag (b ∷ bs) = cond (nat_eq b 39) Tag Other

abbrev pub lexeme_from : TokenKind → List ℕ → Lexeme
lexeme_from kinds.Name bytes = Name
lexeme_from kinds.Tag bytes = as_tag bytes
lexeme_from kinds.Number bytes = Number
lexeme_from kinds.Word bytes = as_word (find (λ k. bytes_eq (word_of k) bytes) KEYWORDS)
lexeme_from kinds.Symbol bytes = as_symbol (find (λ s. bytes_eq (punctuator_text s) bytes) PUNCTUATORS)

abbrev pub lexeme_of : PlacedToken → Lexeme
lexeme_of t = lexeme_from t.kind t.bytes

abbrev pub unit_form : Lexeme → UnitForm
unit_form (Word words.Not) = forms.Not
unit_form (Word words.Exists) = forms.Exists
unit_form (Word words.Forall) = forms.Every
unit_form _ = forms.Base

abbrev pub accepts : Terminal → Lexeme → Bool
accepts the_atoms (Word words.Atoms) = true
accepts structure (Word words.Equality) = true
accepts structure (Word words.Order) = true
accepts semicolon (Symbol punctuators.Semicolon) = true
accepts comma (Symbol punctuators.Comma) = true
accepts close_round (Symbol punctuators.CloseRound) = true
accepts close_square (Symbol punctuators.CloseSquare) = true
accepts open_curly (Symbol punctuators.OpenCurly) = true
accepts close_curly (Symbol punctuators.CloseCurly) = true
accepts colon (Symbol punctuators.Colon) = true
accepts equal (Symbol punctuators.Equal) = true
accepts becomes (Symbol punctuators.Becomes) = true
accepts within (Word words.In) = true
accepts to (Word words.To) = true
accepts relation (Symbol punctuators.Equal) = true
accepts relation (Symbol punctuators.Differs) = true
accepts relation (Symbol punctuators.Below) = true
accepts relation (Word words.In) = true
accepts relation (Word words.Subset) = true
accepts name Name = true
accepts number Number = true
accepts _ _ = false

abbrev pub relation_of : Lexeme → Option Relation
relation_of (Symbol punctuators.Equal) = Some relations.Same
relation_of (Symbol punctuators.Differs) = Some relations.Differ
relation_of (Symbol punctuators.Below) = Some relations.Below
relation_of (Word words.In) = Some relations.Member
relation_of (Word words.Subset) = Some relations.Included
relation_of _ = None

abbrev pub expr_form : Lexeme → ExprForm
expr_form (Word words.Atoms) = exprs.Atoms
expr_form Name = exprs.Var
expr_form Tag = exprs.Tag
expr_form (Symbol punctuators.OpenRound) = exprs.Tuple
expr_form (Symbol punctuators.OpenCurly) = exprs.Braces
expr_form (Word words.Part) = exprs.Part
expr_form (Word (words.Apply op)) = exprs.Apply op
expr_form _ = exprs.NoExpr

abbrev pub base_form : Lexeme → BaseForm
base_form (Word words.True) = bases.True
base_form (Word words.False) = bases.False
base_form (Word words.Empty) = bases.Empty
base_form (Symbol punctuators.OpenSquare) = bases.Brackets
base_form _ = bases.Comparison

abbrev pub stmt_form : Lexeme → StmtForm
stmt_form (Word words.Let) = stmts.Let
stmt_form Name = stmts.Assign
stmt_form (Word words.Add) = stmts.Add
stmt_form (Word words.For) = stmts.For
stmt_form (Word words.If) = stmts.If
stmt_form (Word words.While) = stmts.While
stmt_form (Word words.Assert) = stmts.Assert
stmt_form (Word words.Print) = stmts.Print
stmt_form _ = stmts.NoStmt

abbrev pub connective : Lexeme → Connective
connective (Word words.And) = joints.And
connective (Word words.Or) = joints.Or
connective _ = joints.NoConnective

abbrev pub optional_start : Lexeme → OptionalStart
optional_start (Symbol punctuators.OpenRound) = leads.OpenRound
optional_start (Word words.Parameter) = leads.Parameter
optional_start (Word words.For) = leads.For
optional_start (Word words.Where) = leads.Where
optional_start (Word words.Else) = leads.Else
optional_start _ = leads.NoOptionalStart

abbrev pub has_two_operands : Operation → Bool
has_two_operands Union = true
has_two_operands Inter = true
has_two_operands Minus = true
has_two_operands Product = true
has_two_operands _ = false
