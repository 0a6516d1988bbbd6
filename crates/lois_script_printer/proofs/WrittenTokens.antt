-- Each token of the printed form has its form, keeps its limits and has a blank behind it.
use Rattle.std.proofs.Common.{◌≡◌, ℕ, suc, Bool, true, false, ◌&&◌, List, [], ◌∷◌, length, codes, refl}
use Rattle.std.specs.Prelude.{nat_le, All, Contains}
use Rattle.std.specs.Fmt as writing
use Rattle.std.specs.Str.{bytes_eq}
use Rattle.std.specs.List.{list_any}
use Rattle.std.proofs.lemmas.Bool.{and_parts}
use Rattle.std.proofs.lemmas.List.Elements.{All-cons}
use Rattle.std.proofs.lemmas.Map.Views.{Contains-from_any}
use Rattle.std.proofs.lemmas.Slice.Eq.{bytes_eq-Decides}
use Rattle.lois_lexer.specs.declared.TokenKind.{TokenKind}
use Rattle.lois_lexer.specs.declared.TokenKind.TheVariants.{Name, Word, Tag, Number, Symbol}
use Rattle.lois_lexer.specs.Forms.{is_word_form}
use Rattle.lois_lexer.specs.Words.{reserved, symbols}
use Rattle.lois_lexer.specs.Laws.{Written, IsWritten}
use Rattle.lois_script.specs.declared.syntax.Operation.{Operation}
use Rattle.lois_script.specs.declared.syntax.Operation.TheVariants.{Union, Inter, Minus, Flatten, Reach, Product, Complement, Minimise}
use Rattle.lois_script.specs.Tree.{ExprD, atoms, var, tag, tuple, listed, each, part, apply, ExprsD, no_exprs, expr, BindingD, binding, BindingsD, no_bindings, bind, CondD, truth, falsity, same, differ, below, member, included, empty, not, all, any, exists, every, CondsD, no_conds, cond, StmtD, «let», assign, add, for, if, while, assert, print, StmtsD, no_stmts, stmt, ParamD, ScriptD}
use Rattle.lois_script.specs.Grammar.{operation_word, is_base, is_unit, is_conjunction, structure_word}
use Rattle.lois_script_printer.specs.Printed.{Writing, followed_by_blank, ends_line, word, symbol, enclosed, where_clause, block, else_clause, written_expr, written_exprs, written_more_exprs, written_binding, written_bindings, written_more_bindings, written_cond, written_units, written_more_units, written_conjunctions, written_more_conjunctions, written_stmt, written_stmts, written_more_names, written_parameters, written_script}
use Rattle.lois_script.proofs.Numbers.{IsToken}
use Rattle.lois_script.proofs.Printable.{ExprPrints, ExprsPrint, BindingPrints, BindingsPrint, CondPrints, UnitsPrint, ConjunctionsPrint, EnclosedPrints, StmtPrints, StmtsPrint, NamesPrint, ScriptPrints}

pub record AreWritten (ws : List Written) : Type 0 where
  pub each_one : All IsWritten ws

abbrev is_fixed_word : List ℕ → Bool
is_fixed_word w = is_word_form w && (list_any (bytes_eq w) reserved && nat_le (length w) 64)

-- what is written before what is right is right
abbrev Writes : Writing → Type 0
Writes w = (rest : List Written) → AreWritten rest → AreWritten (w rest)

token_writes : (kind : TokenKind) (bytes : List ℕ) → IsToken kind bytes → Writes (followed_by_blank kind bytes)
token_writes kind bytes t rest h = record { each_one = All-cons IsWritten (record { token = record { kind = kind; bytes = bytes }; blank = 32 }) rest (record { form = t.form; limits = t.limits; blank = refl }) h.each_one }

found : (xs : List (List ℕ)) (w : List ℕ) → list_any (bytes_eq w) xs ≡ true → Contains xs w
found xs w h = Contains-from_any {eq = bytes_eq} (λ x y. (bytes_eq-Decides x y).0) w xs h

word_token : (w : List ℕ) → is_fixed_word w ≡ true → IsToken Word w
word_token w h =
    let parts = and_parts (is_word_form w) (list_any (bytes_eq w) reserved && nat_le (length w) 64) h in
    let more = and_parts (list_any (bytes_eq w) reserved) (nat_le (length w) 64) parts.1 in
    record { form = (parts.0, found reserved w more.0); limits = more.1 }

symbol_token : (s : List ℕ) → list_any (bytes_eq s) symbols ≡ true → IsToken Symbol s
symbol_token s h = record { form = found symbols s h; limits = refl }

word_writes : (w : List ℕ) → is_fixed_word w ≡ true → Writes (word w)
word_writes w h = token_writes Word w (word_token w h)

symbol_writes : (s : List ℕ) → list_any (bytes_eq s) symbols ≡ true → Writes (symbol s)
symbol_writes s h = token_writes Symbol s (symbol_token s h)

line_writes : (s : List ℕ) → list_any (bytes_eq s) symbols ≡ true → Writes (ends_line s)
line_writes s h rest r =
    let t = symbol_token s h in
    record { each_one = All-cons IsWritten (record { token = record { kind = Symbol; bytes = s }; blank = 10 }) rest (record { form = t.form; limits = t.limits; blank = refl }) r.each_one }

operation_writes : (op : Operation) → Writes (word (operation_word op))
unfolding reserved
operation_writes Union = word_writes (codes "union") refl
operation_writes Inter = word_writes (codes "inter") refl
operation_writes Minus = word_writes (codes "minus") refl
operation_writes Flatten = word_writes (codes "flatten") refl
operation_writes Reach = word_writes (codes "reach") refl
operation_writes Product = word_writes (codes "product") refl
operation_writes Complement = word_writes (codes "complement") refl
operation_writes Minimise = word_writes (codes "minimise") refl

w_atoms : Writes (word (codes "atoms"))
unfolding reserved
w_atoms = word_writes (codes "atoms") refl

w_for : Writes (word (codes "for"))
unfolding reserved
w_for = word_writes (codes "for") refl

w_where : Writes (word (codes "where"))
unfolding reserved
w_where = word_writes (codes "where") refl

w_in : Writes (word (codes "in"))
unfolding reserved
w_in = word_writes (codes "in") refl

w_part : Writes (word (codes "part"))
unfolding reserved
w_part = word_writes (codes "part") refl

w_true : Writes (word (codes "true"))
unfolding reserved
w_true = word_writes (codes "true") refl

w_false : Writes (word (codes "false"))
unfolding reserved
w_false = word_writes (codes "false") refl

w_subset : Writes (word (codes "subset"))
unfolding reserved
w_subset = word_writes (codes "subset") refl

w_empty : Writes (word (codes "empty"))
unfolding reserved
w_empty = word_writes (codes "empty") refl

w_not : Writes (word (codes "not"))
unfolding reserved
w_not = word_writes (codes "not") refl

w_exists : Writes (word (codes "exists"))
unfolding reserved
w_exists = word_writes (codes "exists") refl

w_forall : Writes (word (codes "forall"))
unfolding reserved
w_forall = word_writes (codes "forall") refl

w_and : Writes (word (codes "and"))
unfolding reserved
w_and = word_writes (codes "and") refl

w_or : Writes (word (codes "or"))
unfolding reserved
w_or = word_writes (codes "or") refl

w_let : Writes (word (codes "let"))
unfolding reserved
w_let = word_writes (codes "let") refl

w_add : Writes (word (codes "add"))
unfolding reserved
w_add = word_writes (codes "add") refl

w_to : Writes (word (codes "to"))
unfolding reserved
w_to = word_writes (codes "to") refl

w_if : Writes (word (codes "if"))
unfolding reserved
w_if = word_writes (codes "if") refl

w_else : Writes (word (codes "else"))
unfolding reserved
w_else = word_writes (codes "else") refl

w_while : Writes (word (codes "while"))
unfolding reserved
w_while = word_writes (codes "while") refl

w_turns : Writes (word (codes "turns"))
unfolding reserved
w_turns = word_writes (codes "turns") refl

w_assert : Writes (word (codes "assert"))
unfolding reserved
w_assert = word_writes (codes "assert") refl

w_print : Writes (word (codes "print"))
unfolding reserved
w_print = word_writes (codes "print") refl

w_parameter : Writes (word (codes "parameter"))
unfolding reserved
w_parameter = word_writes (codes "parameter") refl

w_order : Writes (word (codes "order"))
unfolding reserved
w_order = word_writes (codes "order") refl

w_equality : Writes (word (codes "equality"))
unfolding reserved
w_equality = word_writes (codes "equality") refl

s_open_round : Writes (symbol (codes "("))
unfolding symbols
s_open_round = symbol_writes (codes "(") refl

s_close_round : Writes (symbol (codes ")"))
unfolding symbols
s_close_round = symbol_writes (codes ")") refl

s_open_square : Writes (symbol (codes "["))
unfolding symbols
s_open_square = symbol_writes (codes "[") refl

s_close_square : Writes (symbol (codes "]"))
unfolding symbols
s_close_square = symbol_writes (codes "]") refl

s_open_curly : Writes (symbol (codes "{"))
unfolding symbols
s_open_curly = symbol_writes (codes "{") refl

s_close_curly : Writes (symbol (codes "}"))
unfolding symbols
s_close_curly = symbol_writes (codes "}") refl

s_comma : Writes (symbol (codes ","))
unfolding symbols
s_comma = symbol_writes (codes ",") refl

s_equals : Writes (symbol (codes "="))
unfolding symbols
s_equals = symbol_writes (codes "=") refl

s_differs : Writes (symbol (codes "!="))
unfolding symbols
s_differs = symbol_writes (codes "!=") refl

s_below : Writes (symbol (codes "<"))
unfolding symbols
s_below = symbol_writes (codes "<") refl

s_colon : Writes (symbol (codes ":"))
unfolding symbols
s_colon = symbol_writes (codes ":") refl

s_becomes : Writes (symbol (codes ":="))
unfolding symbols
s_becomes = symbol_writes (codes ":=") refl

l_semicolon : Writes (ends_line (codes ";"))
unfolding symbols
l_semicolon = line_writes (codes ";") refl

l_open : Writes (ends_line (codes "{"))
unfolding symbols
l_open = line_writes (codes "{") refl

l_close : Writes (ends_line (codes "}"))
unfolding symbols
l_close = line_writes (codes "}") refl

enclosed_writes : (b : Bool) (w : Writing) (n : ℕ) (P : ℕ → Type 0) → ((k : ℕ) → P k → Writes w) → EnclosedPrints b n P → Writes (enclosed b w)
enclosed_writes true w n P writes h = writes n h
enclosed_writes false w n P writes h = λ rest r. s_open_square _ (writes (suc n) h.1 _ (s_close_square rest r))

where_writes : (c : CondD) → Writes (written_cond c) → Writes (where_clause c (written_cond c))
where_writes truth w = λ rest r. r
where_writes c w = λ rest r. w_where _ (w rest r)

mutual
  expr_writes : (e : ExprD) (n : ℕ) → ExprPrints e n → Writes (written_expr e)
  expr_writes (atoms p) n h rest r = w_atoms rest r
  expr_writes (var p x) n h rest r = token_writes Name x h rest r
  expr_writes (tag p x) n h rest r = token_writes Tag (39 ∷ x) h rest r
  expr_writes (tuple p es) n (wide, o, h) rest r = s_open_round _ (exprs_write es (suc n) h _ (s_close_round rest r))
  expr_writes (listed p es) n (o, h) rest r = s_open_curly _ (exprs_write es (suc n) h _ (s_close_curly rest r))
  expr_writes (each p e bs c) n (o, h, some, bound, guard) rest r = s_open_curly _ (expr_writes e (suc n) h _ (w_for _ (bindings_write bs (suc n) bound _ (where_writes c (cond_writes c (suc n) guard) _ (s_close_curly rest r)))))
  expr_writes (part p e i) n (o, h, count) rest r = w_part _ (s_open_round _ (expr_writes e (suc n) h _ (s_comma _ (token_writes Number (writing.decimal i) count.token _ (s_close_round rest r)))))
  expr_writes (apply p op es) n (arity, some, o, h) rest r = operation_writes op _ (s_open_round _ (exprs_write es (suc n) h _ (s_close_round rest r)))

  exprs_write : (es : ExprsD) (n : ℕ) → ExprsPrint es n → Writes (written_exprs es)
  exprs_write no_exprs n h rest r = r
  exprs_write (expr e es) n (h, k) rest r = expr_writes e n h _ (more_exprs_write es n k rest r)

  more_exprs_write : (es : ExprsD) (n : ℕ) → ExprsPrint es n → Writes (written_more_exprs es)
  more_exprs_write no_exprs n h rest r = r
  more_exprs_write (expr e es) n (h, k) rest r = s_comma _ (expr_writes e n h _ (more_exprs_write es n k rest r))

  binding_writes : (b : BindingD) (n : ℕ) → BindingPrints b n → Writes (written_binding b)
  binding_writes (binding p x e) n (t, h) rest r = token_writes Name x t _ (w_in _ (expr_writes e n h rest r))

  bindings_write : (bs : BindingsD) (n : ℕ) → BindingsPrint bs n → Writes (written_bindings bs)
  bindings_write no_bindings n h rest r = r
  bindings_write (bind b bs) n (h, k) rest r = binding_writes b n h _ (more_bindings_write bs n k rest r)

  more_bindings_write : (bs : BindingsD) (n : ℕ) → BindingsPrint bs n → Writes (written_more_bindings bs)
  more_bindings_write no_bindings n h rest r = r
  more_bindings_write (bind b bs) n (h, k) rest r = s_comma _ (binding_writes b n h _ (more_bindings_write bs n k rest r))

  cond_writes : (c : CondD) (n : ℕ) → CondPrints c n → Writes (written_cond c)
  cond_writes truth n h rest r = w_true rest r
  cond_writes falsity n h rest r = w_false rest r
  cond_writes (same e f) n (h, k) rest r = expr_writes e n h _ (s_equals _ (expr_writes f n k rest r))
  cond_writes (differ e f) n (h, k) rest r = expr_writes e n h _ (s_differs _ (expr_writes f n k rest r))
  cond_writes (below p e f) n (h, k) rest r = expr_writes e n h _ (s_below _ (expr_writes f n k rest r))
  cond_writes (member e f) n (h, k) rest r = expr_writes e n h _ (w_in _ (expr_writes f n k rest r))
  cond_writes (included e f) n (h, k) rest r = expr_writes e n h _ (w_subset _ (expr_writes f n k rest r))
  cond_writes (empty e) n (o, h) rest r = w_empty _ (s_open_round _ (expr_writes e (suc n) h _ (s_close_round rest r)))
  cond_writes (not c) n h rest r = w_not _ (enclosed_writes (is_base c) (written_cond c) n (CondPrints c) (cond_writes c) h rest r)
  cond_writes (all cs) n (many, h) rest r = units_write cs n h rest r
  cond_writes (any cs) n (many, h) rest r = conjunctions_write cs n h rest r
  cond_writes (exists b c) n (h, k) rest r = w_exists _ (binding_writes b n h _ (s_colon _ (enclosed_writes (is_base c) (written_cond c) n (CondPrints c) (cond_writes c) k rest r)))
  cond_writes (every b c) n (h, k) rest r = w_forall _ (binding_writes b n h _ (s_colon _ (enclosed_writes (is_base c) (written_cond c) n (CondPrints c) (cond_writes c) k rest r)))

  units_write : (cs : CondsD) (n : ℕ) → UnitsPrint cs n → Writes (written_units cs)
  units_write no_conds n h rest r = r
  units_write (cond c cs) n (h, k) rest r = enclosed_writes (is_unit c) (written_cond c) n (CondPrints c) (cond_writes c) h _ (more_units_write cs n k rest r)

  more_units_write : (cs : CondsD) (n : ℕ) → UnitsPrint cs n → Writes (written_more_units cs)
  more_units_write no_conds n h rest r = r
  more_units_write (cond c cs) n (h, k) rest r = w_and _ (enclosed_writes (is_unit c) (written_cond c) n (CondPrints c) (cond_writes c) h _ (more_units_write cs n k rest r))

  conjunctions_write : (cs : CondsD) (n : ℕ) → ConjunctionsPrint cs n → Writes (written_conjunctions cs)
  conjunctions_write no_conds n h rest r = r
  conjunctions_write (cond c cs) n (h, k) rest r = enclosed_writes (is_conjunction c) (written_cond c) n (CondPrints c) (cond_writes c) h _ (more_conjunctions_write cs n k rest r)

  more_conjunctions_write : (cs : CondsD) (n : ℕ) → ConjunctionsPrint cs n → Writes (written_more_conjunctions cs)
  more_conjunctions_write no_conds n h rest r = r
  more_conjunctions_write (cond c cs) n (h, k) rest r = w_or _ (enclosed_writes (is_conjunction c) (written_cond c) n (CondPrints c) (cond_writes c) h _ (more_conjunctions_write cs n k rest r))

block_writes : (k : StmtsD) → Writes (written_stmts k) → Writes (block (written_stmts k))
block_writes k w rest r = l_open _ (w _ (l_close rest r))

else_writes : (k : StmtsD) → Writes (written_stmts k) → Writes (else_clause k (written_stmts k))
else_writes no_stmts w rest r = r
else_writes (stmt a k) w rest r = w_else _ (block_writes (stmt a k) w rest r)

mutual
  stmt_writes : (a : StmtD) (n : ℕ) → StmtPrints a n → Writes (written_stmt a)
  stmt_writes («let» p x e) n (t, h) rest r = w_let _ (token_writes Name x t _ (s_equals _ (expr_writes e n h _ (l_semicolon rest r))))
  stmt_writes (assign p x e) n (t, h) rest r = token_writes Name x t _ (s_becomes _ (expr_writes e n h _ (l_semicolon rest r)))
  stmt_writes (add e p x) n (h, t) rest r = w_add _ (expr_writes e n h _ (w_to _ (token_writes Name x t _ (l_semicolon rest r))))
  stmt_writes (for b c body) n (h, guard, o, inside) rest r = w_for _ (binding_writes b n h _ (where_writes c (cond_writes c n guard) _ (block_writes body (stmts_write body (suc n) inside) rest r)))
  stmt_writes ((if) c one other) n (guard, o, first, second) rest r = w_if _ (cond_writes c n guard _ (block_writes one (stmts_write one (suc n) first) _ (else_writes other (stmts_write other (suc n) second) rest r)))
  stmt_writes (while p c k body) n (guard, count, o, inside) rest r = w_while _ (cond_writes c n guard _ (w_turns _ (token_writes Number (writing.decimal k) count.token _ (block_writes body (stmts_write body (suc n) inside) rest r))))
  stmt_writes (assert p c) n h rest r = w_assert _ (cond_writes c n h _ (l_semicolon rest r))
  stmt_writes (print p q x) n t rest r = w_print _ (token_writes Name x t _ (l_semicolon rest r))

  stmts_write : (k : StmtsD) (n : ℕ) → StmtsPrint k n → Writes (written_stmts k)
  stmts_write no_stmts n h rest r = r
  stmts_write (stmt a k) n (h, j) rest r = stmt_writes a n h _ (stmts_write k n j rest r)

names_write : (ps : List ParamD) → NamesPrint ps → Writes (written_more_names ps)
names_write [] h rest r = r
names_write (x ∷ ps) (t, h) rest r = s_comma _ (token_writes Name x.name t _ (names_write ps h rest r))

parameters_write : (ps : List ParamD) → NamesPrint ps → Writes (written_parameters ps)
parameters_write [] h rest r = r
parameters_write (x ∷ ps) (t, h) rest r = w_parameter _ (token_writes Name x.name t _ (names_write ps h _ (l_semicolon rest r)))

structure_writes : (b : Bool) → Writes (word (structure_word b))
structure_writes true = w_order
structure_writes false = w_equality

pub script_writes : (s : ScriptD) → ScriptPrints s → Writes (written_script s)
script_writes s h rest r =
    w_atoms _ (structure_writes s.ordered _ (l_semicolon _ (parameters_write s.parameters h.parameters _ (stmts_write s.body 0 h.body rest r))))
