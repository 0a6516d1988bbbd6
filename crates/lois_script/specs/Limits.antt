-- The limits of scripts, and which script a text spells.
use Rattle.std.specs.Prelude.{ℕ, suc, ◌-◌, ◌≤◌, Bool, true, false, ◌||◌, ◌&&◌, List, [], ◌∷◌, map, codes, if◌then◌else◌, bytes_eq}
use Rattle.lois_lexer.specs.declared.TokenKind.{TokenKind}
use Rattle.lois_lexer.specs.declared.TokenKind.TheVariants.{Symbol}
use Rattle.lois_lexer.specs.declared.Token.{Token}
use Rattle.lois_lexer.specs.Tokens.{HasTokens}
use Rattle.lois_script.specs.Tree.{ExprD, atoms, var, tag, tuple, listed, each, part, apply, ExprsD, no_exprs, expr, BindingD, binding, BindingsD, no_bindings, bind, CondD, truth, falsity, same, differ, below, member, included, empty, not, all, any, exists, every, CondsD, no_conds, cond, StmtD, «let», assign, add, for, if, while, assert, print, StmtsD, no_stmts, stmt, ScriptD}
use Rattle.lois_script.specs.Grammar.{PlacedToken, token_at_place, SpellsScript}

abbrev pub is_symbol : TokenKind → Bool
is_symbol Symbol = true
is_symbol _ = false

abbrev pub opens : PlacedToken → Bool
opens t = is_symbol t.kind && (bytes_eq t.bytes (codes "(") || bytes_eq t.bytes (codes "[") || bytes_eq t.bytes (codes "{"))

abbrev pub closes : PlacedToken → Bool
closes t = is_symbol t.kind && (bytes_eq t.bytes (codes ")") || bytes_eq t.bytes (codes "]") || bytes_eq t.bytes (codes "}"))

-- how many brackets are open after a token, where n were before it
abbrev pub open_after : ℕ → PlacedToken → ℕ
open_after n t = if (opens t) then (suc n) else (if (closes t) then (n - 1) else n)

-- where n brackets are open before the tokens, at most 64 are open at each place
abbrev pub IsNestedWithin : ℕ → List PlacedToken → Type 0
IsNestedWithin n [] = Unit {0}
IsNestedWithin n (t ∷ ts) = (open_after n t ≤ 64) × IsNestedWithin (open_after n t) ts

abbrev pub width : ExprsD → ℕ
width no_exprs = 0
width (expr e es) = suc (width es)

-- each tuple has at most 8 parts, and each `while` at most 1,000,000 turns
abbrev mutual
  pub IsNarrow : ExprD → Type 0
  IsNarrow (atoms p) = Unit {0}
  IsNarrow (var p x) = Unit {0}
  IsNarrow (tag p x) = Unit {0}
  IsNarrow (tuple p es) = (width es ≤ 8) × AreNarrow es
  IsNarrow (listed p es) = AreNarrow es
  IsNarrow (each p e bs c) = IsNarrow e × BindingsAreNarrow bs × CondIsNarrow c
  IsNarrow (part p e n) = IsNarrow e
  IsNarrow (apply p op es) = AreNarrow es

  pub AreNarrow : ExprsD → Type 0
  AreNarrow no_exprs = Unit {0}
  AreNarrow (expr e es) = IsNarrow e × AreNarrow es

  pub BindingIsNarrow : BindingD → Type 0
  BindingIsNarrow (binding p x e) = IsNarrow e

  pub BindingsAreNarrow : BindingsD → Type 0
  BindingsAreNarrow no_bindings = Unit {0}
  BindingsAreNarrow (bind b bs) = BindingIsNarrow b × BindingsAreNarrow bs

  pub CondIsNarrow : CondD → Type 0
  CondIsNarrow truth = Unit {0}
  CondIsNarrow falsity = Unit {0}
  CondIsNarrow (same e f) = IsNarrow e × IsNarrow f
  CondIsNarrow (differ e f) = IsNarrow e × IsNarrow f
  CondIsNarrow (below p e f) = IsNarrow e × IsNarrow f
  CondIsNarrow (member e f) = IsNarrow e × IsNarrow f
  CondIsNarrow (included e f) = IsNarrow e × IsNarrow f
  CondIsNarrow (empty e) = IsNarrow e
  CondIsNarrow (not c) = CondIsNarrow c
  CondIsNarrow (all cs) = CondsAreNarrow cs
  CondIsNarrow (any cs) = CondsAreNarrow cs
  CondIsNarrow (exists b c) = BindingIsNarrow b × CondIsNarrow c
  CondIsNarrow (every b c) = BindingIsNarrow b × CondIsNarrow c

  pub CondsAreNarrow : CondsD → Type 0
  CondsAreNarrow no_conds = Unit {0}
  CondsAreNarrow (cond c cs) = CondIsNarrow c × CondsAreNarrow cs

abbrev mutual
  pub StmtIsWithin : StmtD → Type 0
  StmtIsWithin («let» p x e) = IsNarrow e
  StmtIsWithin (assign p x e) = IsNarrow e
  StmtIsWithin (add e p x) = IsNarrow e
  StmtIsWithin (for b c body) = BindingIsNarrow b × CondIsNarrow c × StmtsAreWithin body
  StmtIsWithin ((if) c yes_block no_block) = CondIsNarrow c × StmtsAreWithin yes_block × StmtsAreWithin no_block
  StmtIsWithin (while p c n body) = (n ≤ 1000000) × CondIsNarrow c × StmtsAreWithin body
  StmtIsWithin (assert p c) = CondIsNarrow c
  StmtIsWithin (print p q x) = Unit {0}

  pub StmtsAreWithin : StmtsD → Type 0
  StmtsAreWithin no_stmts = Unit {0}
  StmtsAreWithin (stmt a rest) = StmtIsWithin a × StmtsAreWithin rest

-- The text's tokens are those of the script, with its places, and the script keeps the limits. The limits of names and
-- numbers are those of tokens.
pub record Spells (text : List ℕ) (s : ScriptD) : Type 0 where
  pub tokens : List Token
  pub cut : HasTokens text tokens
  pub script : SpellsScript s (map (token_at_place text) tokens)
  pub nesting : IsNestedWithin 0 (map (token_at_place text) tokens)
  pub forms : StmtsAreWithin s.body
