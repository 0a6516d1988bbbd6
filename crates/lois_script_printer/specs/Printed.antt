-- The printed form of a script: its tokens, each with the byte that is written behind it. The definitions go part by part
-- as those of the grammar do. `written_expr e rest` is what is written of the expression e, and then the rest.
use Rattle.std.specs.Prelude.{ℕ, Bool, true, false, List, [], ◌∷◌, codes, if◌then◌else◌}
use Rattle.std.specs.List.{flat_map}
use Rattle.std.specs.Fmt.{decimal}
use Rattle.lois_lexer.specs.declared.TokenKind.{TokenKind}
use Rattle.lois_lexer.specs.declared.TokenKind.TheVariants.{Name, Word, Tag, Number, Symbol}
use Rattle.lois_lexer.specs.Laws.{Written, text_of}
use Rattle.lois_script.specs.Tree.{ExprD, atoms, var, tag, tuple, listed, each, part, apply, ExprsD, no_exprs, expr, BindingD, binding, BindingsD, no_bindings, bind, CondD, truth, falsity, same, differ, below, member, included, empty, not, all, any, exists, every, CondsD, no_conds, cond, StmtD, «let», assign, add, for, if, while, assert, print, StmtsD, no_stmts, stmt, ParamD, ScriptD}
use Rattle.lois_script.specs.Grammar.{operation_word, is_base, is_unit, is_conjunction, structure_word}

abbrev pub Writing : Type 0
Writing = List Written → List Written

abbrev pub nothing : Writing
nothing rest = rest

-- the one, and then the other
infixr 5 ◌▸◌
abbrev pub ◌▸◌ : Writing → Writing → Writing
(one ▸ other) rest = one (other rest)

-- a token, and a space (32) behind it
abbrev pub followed_by_blank : TokenKind → List ℕ → Writing
followed_by_blank kind bytes rest = record { token = record { kind = kind; bytes = bytes }; blank = 32 } ∷ rest

-- a symbol, and LF (10) behind it
abbrev pub ends_line : List ℕ → Writing
ends_line bytes rest = record { token = record { kind = Symbol; bytes = bytes }; blank = 10 } ∷ rest

abbrev pub word : List ℕ → Writing
word = followed_by_blank Word

abbrev pub symbol : List ℕ → Writing
symbol = followed_by_blank Symbol

abbrev pub name : List ℕ → Writing
name = followed_by_blank Name

abbrev pub number : ℕ → Writing
number n = followed_by_blank Number (decimal n)

-- a condition that hasn't the form that is asked for stands in brackets
abbrev pub enclosed : Bool → Writing → Writing
enclosed true w = w
enclosed false w = symbol (codes "[") ▸ w ▸ symbol (codes "]")

abbrev pub is_truth : CondD → Bool
is_truth truth = true
is_truth c = false

abbrev pub where_clause : CondD → Writing → Writing
where_clause c w = if (is_truth c) then nothing else (word (codes "where") ▸ w)

abbrev pub block : Writing → Writing
block w = ends_line (codes "{") ▸ w ▸ ends_line (codes "}")

abbrev pub else_clause : StmtsD → Writing → Writing
else_clause no_stmts w = nothing
else_clause (stmt a rest) w = word (codes "else") ▸ block w

abbrev mutual
  pub written_expr : ExprD → Writing
  written_expr (atoms p) = word (codes "atoms")
  written_expr (var p x) = name x
  written_expr (tag p x) = followed_by_blank Tag (39 ∷ x)
  written_expr (tuple p es) = symbol (codes "(") ▸ written_exprs es ▸ symbol (codes ")")
  written_expr (listed p es) = symbol (codes "{") ▸ written_exprs es ▸ symbol (codes "}")
  written_expr (each p e bs c) =
      symbol (codes "{") ▸ written_expr e ▸ word (codes "for") ▸ written_bindings bs ▸ where_clause c (written_cond c) ▸ symbol (codes "}")
  written_expr (part p e n) =
      word (codes "part") ▸ symbol (codes "(") ▸ written_expr e ▸ symbol (codes ",") ▸ number n ▸ symbol (codes ")")
  written_expr (apply p op es) = word (operation_word op) ▸ symbol (codes "(") ▸ written_exprs es ▸ symbol (codes ")")

  pub written_exprs : ExprsD → Writing
  written_exprs no_exprs = nothing
  written_exprs (expr e rest) = written_expr e ▸ written_more_exprs rest

  pub written_more_exprs : ExprsD → Writing
  written_more_exprs no_exprs = nothing
  written_more_exprs (expr e rest) = symbol (codes ",") ▸ written_expr e ▸ written_more_exprs rest

  pub written_binding : BindingD → Writing
  written_binding (binding p x e) = name x ▸ word (codes "in") ▸ written_expr e

  pub written_bindings : BindingsD → Writing
  written_bindings no_bindings = nothing
  written_bindings (bind b rest) = written_binding b ▸ written_more_bindings rest

  pub written_more_bindings : BindingsD → Writing
  written_more_bindings no_bindings = nothing
  written_more_bindings (bind b rest) = symbol (codes ",") ▸ written_binding b ▸ written_more_bindings rest

  pub written_cond : CondD → Writing
  written_cond truth = word (codes "true")
  written_cond falsity = word (codes "false")
  written_cond (same e f) = written_expr e ▸ symbol (codes "=") ▸ written_expr f
  written_cond (differ e f) = written_expr e ▸ symbol (codes "!=") ▸ written_expr f
  written_cond (below p e f) = written_expr e ▸ symbol (codes "<") ▸ written_expr f
  written_cond (member e f) = written_expr e ▸ word (codes "in") ▸ written_expr f
  written_cond (included e f) = written_expr e ▸ word (codes "subset") ▸ written_expr f
  written_cond (empty e) = word (codes "empty") ▸ symbol (codes "(") ▸ written_expr e ▸ symbol (codes ")")
  written_cond (not c) = word (codes "not") ▸ enclosed (is_base c) (written_cond c)
  written_cond (all cs) = written_units cs
  written_cond (any cs) = written_conjunctions cs
  written_cond (exists b c) =
      word (codes "exists") ▸ written_binding b ▸ symbol (codes ":") ▸ enclosed (is_base c) (written_cond c)
  written_cond (every b c) =
      word (codes "forall") ▸ written_binding b ▸ symbol (codes ":") ▸ enclosed (is_base c) (written_cond c)

  -- with `and` between them
  pub written_units : CondsD → Writing
  written_units no_conds = nothing
  written_units (cond c rest) = enclosed (is_unit c) (written_cond c) ▸ written_more_units rest

  pub written_more_units : CondsD → Writing
  written_more_units no_conds = nothing
  written_more_units (cond c rest) = word (codes "and") ▸ enclosed (is_unit c) (written_cond c) ▸ written_more_units rest

  -- with `or` between them
  pub written_conjunctions : CondsD → Writing
  written_conjunctions no_conds = nothing
  written_conjunctions (cond c rest) = enclosed (is_conjunction c) (written_cond c) ▸ written_more_conjunctions rest

  pub written_more_conjunctions : CondsD → Writing
  written_more_conjunctions no_conds = nothing
  written_more_conjunctions (cond c rest) =
      word (codes "or") ▸ enclosed (is_conjunction c) (written_cond c) ▸ written_more_conjunctions rest

abbrev mutual
  pub written_stmt : StmtD → Writing
  written_stmt («let» p x e) = word (codes "let") ▸ name x ▸ symbol (codes "=") ▸ written_expr e ▸ ends_line (codes ";")
  written_stmt (assign p x e) = name x ▸ symbol (codes ":=") ▸ written_expr e ▸ ends_line (codes ";")
  written_stmt (add e p x) = word (codes "add") ▸ written_expr e ▸ word (codes "to") ▸ name x ▸ ends_line (codes ";")
  written_stmt (for b c body) =
      word (codes "for") ▸ written_binding b ▸ where_clause c (written_cond c) ▸ block (written_stmts body)
  written_stmt ((if) c yes_block no_block) =
      word (codes "if") ▸ written_cond c ▸ block (written_stmts yes_block) ▸ else_clause no_block (written_stmts no_block)
  written_stmt (while p c n body) =
      word (codes "while") ▸ written_cond c ▸ word (codes "turns") ▸ number n ▸ block (written_stmts body)
  written_stmt (assert p c) = word (codes "assert") ▸ written_cond c ▸ ends_line (codes ";")
  written_stmt (print p q x) = word (codes "print") ▸ name x ▸ ends_line (codes ";")

  pub written_stmts : StmtsD → Writing
  written_stmts no_stmts = nothing
  written_stmts (stmt a rest) = written_stmt a ▸ written_stmts rest

abbrev pub written_more_names : List ParamD → Writing
written_more_names [] = nothing
written_more_names (x ∷ rest) = symbol (codes ",") ▸ name x.name ▸ written_more_names rest

abbrev pub written_parameters : List ParamD → Writing
written_parameters [] = nothing
written_parameters (x ∷ rest) = word (codes "parameter") ▸ name x.name ▸ written_more_names rest ▸ ends_line (codes ";")

abbrev pub written_script : ScriptD → Writing
written_script s =
    word (codes "atoms") ▸ word (structure_word s.ordered) ▸ ends_line (codes ";") ▸ written_parameters s.parameters ▸ written_stmts s.body

-- the bytes of what is written
abbrev pub text : List Written → List ℕ
text = flat_map text_of

abbrev pub printed_script : ScriptD → List ℕ
printed_script s = text (written_script s [])
