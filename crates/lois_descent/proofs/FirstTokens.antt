-- The first token of a part of the grammar tells its form.
use Rattle.std.proofs.Common.{◌≡◌, ℕ, Bool, true, false, ◌&&◌, List, [], ◌∷◌, sym, ap, ◌∙◌, subst}
use Rattle.std.specs.Str.{bytes_eq}
use Rattle.std.proofs.lemmas.Bool.{false≢true}
use Rattle.lois_lexer.specs.declared.TokenKind.{TokenKind}
use Rattle.lois_lexer.specs.declared.TokenKind.TheVariants.{Name, Word, Tag, Number, Symbol}
use Rattle.lois_script.specs.Tree.{ExprD, atoms, var, tag, tuple, listed, each, part, apply, StmtD, «let», assign, add, for, if, while, assert, print}
use Rattle.lois_script.specs.Grammar.{PlacedToken, SpellsExpr, SpellsStmt}
use Rattle.lois_descent.specs.Lexemes.{lexeme_from}
use Rattle.lois_descent.specs.declared.lexemes.Lexeme.{Lexeme}
use Rattle.lois_descent.specs.declared.lexemes.Lexeme.TheVariants as lexemes
use Rattle.lois_descent.specs.declared.lexemes.Keyword.TheVariants as words
use Rattle.lois_descent.specs.declared.lexemes.Punctuator.TheVariants as punctuators
use Rattle.lois_descent.proofs.Keywords.{word_lexeme}
use Rattle.lois_descent.proofs.Lengths.{Tokens}

abbrev is_symbol_kind : TokenKind → Bool
is_symbol_kind Symbol = true
is_symbol_kind _ = false

abbrev is_word_kind : TokenKind → Bool
is_word_kind Word = true
is_word_kind _ = false

-- the token is this word, or this symbol
abbrev pub is_word : List ℕ → PlacedToken → Bool
is_word word t = is_word_kind t.kind && bytes_eq t.bytes word

abbrev pub is_symbol : List ℕ → PlacedToken → Bool
is_symbol symbol t = is_symbol_kind t.kind && bytes_eq t.bytes symbol

-- the first token, if there is one, isn't such a token
abbrev pub Avoids : (PlacedToken → Bool) → Tokens → Type 0
Avoids p [] = Unit {0}
Avoids p (t ∷ ts) = p t ≡ false

pub avoids : (p : PlacedToken → Bool) (t : PlacedToken) (b m : Tokens) → b ≡ t ∷ m → p t ≡ false → Avoids p b
avoids p t b m e h = subst (Avoids p) (sym e) h

pub never_avoids : (p : PlacedToken → Bool) (t : PlacedToken) (b m : Tokens) → b ≡ t ∷ m → p t ≡ true → Avoids p b → ⊥
never_avoids p t b m e h a =
    let here : p t ≡ false = subst (Avoids p) e a in false≢true (sym here ∙ h)

-- two views of the first token
pub one_token : (t u : PlacedToken) (b m n : Tokens) → b ≡ t ∷ m → b ≡ u ∷ n → (t ≡ u) × (m ≡ n)
one_token t u b m n e f = (cc, cc)

abbrev keyword_class : Lexeme → ℕ
keyword_class (lexemes.Word words.Atoms) = 0
keyword_class (lexemes.Word words.Part) = 5
keyword_class (lexemes.Word (words.Apply op)) = 6
keyword_class (lexemes.Word words.True) = 8
keyword_class (lexemes.Word words.False) = 9
keyword_class (lexemes.Word words.Empty) = 10
keyword_class (lexemes.Word words.Not) = 11
keyword_class (lexemes.Word words.Exists) = 12
keyword_class (lexemes.Word words.Forall) = 13
keyword_class (lexemes.Word words.Let) = 14
keyword_class (lexemes.Word words.Add) = 15
keyword_class (lexemes.Word words.For) = 16
keyword_class (lexemes.Word words.If) = 17
keyword_class (lexemes.Word words.While) = 18
keyword_class (lexemes.Word words.Assert) = 19
keyword_class (lexemes.Word words.Print) = 20
keyword_class _ = 21

abbrev symbol_class : Lexeme → ℕ
symbol_class (lexemes.Symbol punctuators.OpenRound) = 3
symbol_class (lexemes.Symbol punctuators.OpenCurly) = 4
symbol_class (lexemes.Symbol punctuators.OpenSquare) = 7
symbol_class _ = 21

-- a number for each token that begins an expression (up to 6), a condition (up to 13) or a statement
abbrev pub token_class : TokenKind → List ℕ → ℕ
token_class Name bytes = 1
token_class Tag bytes = 2
token_class Number bytes = 21
token_class Word bytes = keyword_class (lexeme_from Word bytes)
token_class Symbol bytes = symbol_class (lexeme_from Symbol bytes)

abbrev pub first_class : Tokens → ℕ
first_class [] = 21
first_class (t ∷ ts) = token_class t.kind t.bytes

abbrev pub expr_class : ExprD → ℕ
expr_class (atoms p) = 0
expr_class (var p x) = 1
expr_class (tag p x) = 2
expr_class (tuple p es) = 3
expr_class (listed p es) = 4
expr_class (each p e bs c) = 4
expr_class (part p e n) = 5
expr_class (apply p op es) = 6

pub expr_first : (e : ExprD) (b m : Tokens) → SpellsExpr e b m → first_class b ≡ expr_class e
expr_first (atoms p) b m h = ap first_class h
expr_first (var p x) b m h = ap first_class h
expr_first (tag p x) b m h = ap first_class h
expr_first (tuple p es) b m (wide, h) = ap first_class h.1
expr_first (listed p es) b m h = ap first_class h.1
expr_first (each p e bs c) b m h = ap first_class h.1
expr_first (part p e n) b m h = ap first_class h.1
expr_first (apply p op es) b m (arity, h) = ap first_class h.1 ∙ ap keyword_class (word_lexeme op)

abbrev pub stmt_class : StmtD → ℕ
stmt_class («let» p x e) = 14
stmt_class (assign p x e) = 1
stmt_class (add e p x) = 15
stmt_class (for b c body) = 16
stmt_class ((if) c one other) = 17
stmt_class (while p c n body) = 18
stmt_class (assert p c) = 19
stmt_class (print p q x) = 20

pub stmt_first : (a : StmtD) (b m : Tokens) → SpellsStmt a b m → first_class b ≡ stmt_class a
stmt_first («let» p x e) b m h = ap first_class h.1.1
stmt_first (assign p x e) b m h = ap first_class h.1
stmt_first (add e p x) b m h = ap first_class h.1.1
stmt_first (for bd c body) b m h = ap first_class h.1.1
stmt_first ((if) c one other) b m h = ap first_class h.1.1
stmt_first (while p c n body) b m h = ap first_class h.1
stmt_first (assert p c) b m h = ap first_class h.1
stmt_first (print p q x) b m h = ap first_class h.1
