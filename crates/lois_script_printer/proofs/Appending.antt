-- One thing is written after another.
use Rattle.std.proofs.Common.{◌≡◌, ℕ, zero, suc, ◌+◌, ◌<◌, ◌≤◌, List, [], ◌∷◌, ◌++◌, length, codes, false, map, drop, get_or, Result, Ok, Err, refl, sym, ap, ◌∙◌, subst, arith, add-one, append_assoc, append-nil}
use Rattle.std.specs.Prelude.{OnOk, if◌then◌else◌}
use Rattle.std.proofs.lemmas.List.{drop_more, drop_all}
use Rattle.lois_lexer.specs.Laws.{Written}
use Rattle.lois_script.specs.Tree.{ExprD, BindingD, CondD, StmtD, ParamD}
use Rattle.lois_script.specs.Grammar.{is_unit, is_conjunction}
use Rattle.lois_script.specs.View.{param_tree, tree, cond_tree, binding_tree, exprs_of, bindings_of, conds_of, stmts_of}
use Rattle.lois_script.specs.Lists.{stmt_tree}
use Rattle.lois_script.specs.declared.syntax.Expr.{Expr}
use Rattle.lois_script.specs.declared.syntax.Binding.{Binding}
use Rattle.lois_script.specs.declared.syntax.Cond.{Cond}
use Rattle.lois_script.specs.declared.script.Stmt.{Stmt}
use Rattle.lois_script.specs.declared.script.Param.{Param}
use Rattle.lois_lexer.specs.declared.TokenKind.TheVariants.{Tag}
use Rattle.lois_script_printer.specs.Printed.{Writing, nothing, ◌▸◌, followed_by_blank, ends_line, word, symbol, name, enclosed, is_truth, where_clause, block, else_clause, text, written_expr, written_exprs, written_more_exprs, written_binding, written_bindings, written_more_bindings, written_cond, written_units, written_more_units, written_conjunctions, written_more_conjunctions, written_stmt, written_stmts, written_more_names, written_parameters}
use Rattle.lois_script_printer.specs.Appended.{Appends, between, written_names}

infixr 5 ◌then◌
pub ◌then◌ : {a b c : List ℕ} {f g : Writing} → Appends a f b → Appends b g c → Appends a (f ▸ g) c
◌then◌ {a} {b} {c} {f} {g} p q = record { same = λ rest. p.same (g rest) ∙ q.same rest }

-- the last call of a function
pub last : {E : Type 0} {a b : List ℕ} {f : Writing} (g : Writing) (c : List ℕ) (r : Result (Unit {0}) E) → Appends a f b → OnOk r (Appends b g c) → OnOk r (Appends a (f ▸ g) c)
last g c (Ok u) p q = p then q
last g c (Err e) p q = tt

-- what is still to be written of a list when i parts of it have been
abbrev pub exprs_left : ℕ → List ExprD → Writing
exprs_left zero es = written_exprs (exprs_of es)
exprs_left (suc i) es = written_more_exprs (exprs_of es)

abbrev pub bindings_left : ℕ → List BindingD → Writing
bindings_left zero bs = written_bindings (bindings_of bs)
bindings_left (suc i) bs = written_more_bindings (bindings_of bs)

abbrev pub units_left : ℕ → List CondD → Writing
units_left zero cs = written_units (conds_of cs)
units_left (suc i) cs = written_more_units (conds_of cs)

abbrev pub conjunctions_left : ℕ → List CondD → Writing
conjunctions_left zero cs = written_conjunctions (conds_of cs)
conjunctions_left (suc i) cs = written_more_conjunctions (conds_of cs)

-- before and all that is to be written are what has been written by now and what is left
pub record Leaves (before : List ℕ) (whole : Writing) (now : List ℕ) (left : Writing) : Type 0 where
  pub same : (rest : List Written) → before ++ text (whole rest) ≡ now ++ text (left rest)

pub nothing_yet : (before : List ℕ) (whole : Writing) → Leaves before whole before whole
nothing_yet before whole = record { same = λ rest. refl }

pub all_written : {before now : List ℕ} {whole : Writing} → Leaves before whole now nothing → Appends before whole now
all_written l = record { same = l.same }

pub one_less : {before now later : List ℕ} {whole f left : Writing} → Leaves before whole now (f ▸ left) → Appends now f later → Leaves before whole later left
one_less {before} {now} {later} {whole} {f} {left} l a = record { same = λ rest. l.same rest ∙ a.same (left rest) }

pub start : {X : Type 0} (before : List ℕ) (w : X → Writing) (x y : X) → x ≡ y → Leaves before (w y) before (w x)
start before w x y e = subst (λ z. Leaves before (w z) before (w x)) e (nothing_yet before (w x))

-- the same, told in another way
pub on_ok_as : {E : Type 0} {f g : Writing} (r : Result (Unit {0}) E) (a z : List ℕ) → f ≡ g → OnOk r (Appends a g z) → OnOk r (Appends a f z)
on_ok_as {E} {f} {g} (Ok u) a z e h = subst (λ w. Appends a w z) (sym e) h
on_ok_as (Err x) a z e h = tt

pub appends_as : {a z : List ℕ} {f g : Writing} → f ≡ g → Appends a g z → Appends a f z
appends_as {a} {z} {f} {g} e h = subst (λ w. Appends a w z) (sym e) h

-- lists with a separator between their parts
module _ {X Y : Type 0} (view : X → Y) (left : ℕ → List Y → Writing) (separator : Writing) (one : Y → Writing) (split : (i : ℕ) (y : Y) (ys : List Y) → left i (y ∷ ys) ≡ (between i separator ▸ one y ▸ left (suc i) ys)) where
  pub one_more : (xs : List X) (i : ℕ) (x : X) (a b d e : List ℕ) (whole : Writing) → i < length xs → x ≡ get_or xs i x → Leaves a whole b (left i (map view (drop i xs))) → Appends b (between i separator) d → Appends d (one (view x)) e → Leaves a whole e (left (i + 1) (map view (drop (i + 1) xs)))
  one_more xs i x a b d e whole within is h p q =
      let rest = map view (drop (i + 1) xs) in
      let first : drop i xs ≡ x ∷ drop (i + 1) xs = drop_more xs i x within ∙ ap (λ y. y ∷ drop (i + 1) xs) (sym is) in
      let h' : Leaves a whole b (left i (view x ∷ map view (drop (i + 1) xs))) = subst (λ ys. Leaves a whole b (left i (map view ys))) first h in
      let h'' : Leaves a whole b (between i separator ▸ one (view x) ▸ left (suc i) (map view (drop (i + 1) xs))) = subst (λ w. Leaves a whole b w) (split i (view x) rest) h' in
      let done : Leaves a whole e (left (suc i) (map view (drop (i + 1) xs))) = one_less (one_less h'' p) q in
      subst (λ (k : ℕ). Leaves a whole e (left k rest)) (sym (add-one i)) done

exprs_split : (i : ℕ) (y : ExprD) (ys : List ExprD) → exprs_left i (y ∷ ys) ≡ (between i (symbol (codes ",")) ▸ written_expr y ▸ exprs_left (suc i) ys)
exprs_split zero y ys = refl
exprs_split (suc i) y ys = refl

bindings_split : (i : ℕ) (y : BindingD) (ys : List BindingD) → bindings_left i (y ∷ ys) ≡ (between i (symbol (codes ",")) ▸ written_binding y ▸ bindings_left (suc i) ys)
bindings_split zero y ys = refl
bindings_split (suc i) y ys = refl

units_split : (i : ℕ) (y : CondD) (ys : List CondD) → units_left i (y ∷ ys) ≡ (between i (word (codes "and")) ▸ enclosed (is_unit y) (written_cond y) ▸ units_left (suc i) ys)
units_split zero y ys = refl
units_split (suc i) y ys = refl

conjunctions_split : (i : ℕ) (y : CondD) (ys : List CondD) → conjunctions_left i (y ∷ ys) ≡ (between i (word (codes "or")) ▸ enclosed (is_conjunction y) (written_cond y) ▸ conjunctions_left (suc i) ys)
conjunctions_split zero y ys = refl
conjunctions_split (suc i) y ys = refl

pub one_more_expr : (xs : List Expr) (i : ℕ) (x : Expr) (a b d e : List ℕ) (whole : Writing) → i < length xs → x ≡ get_or xs i x → Leaves a whole b (exprs_left i (map tree (drop i xs))) → Appends b (between i (symbol (codes ","))) d → Appends d (written_expr (tree x)) e → Leaves a whole e (exprs_left (i + 1) (map tree (drop (i + 1) xs)))
one_more_expr = one_more tree exprs_left (symbol (codes ",")) written_expr exprs_split

pub one_more_binding : (xs : List Binding) (i : ℕ) (x : Binding) (a b d e : List ℕ) (whole : Writing) → i < length xs → x ≡ get_or xs i x → Leaves a whole b (bindings_left i (map binding_tree (drop i xs))) → Appends b (between i (symbol (codes ","))) d → Appends d (written_binding (binding_tree x)) e → Leaves a whole e (bindings_left (i + 1) (map binding_tree (drop (i + 1) xs)))
one_more_binding = one_more binding_tree bindings_left (symbol (codes ",")) written_binding bindings_split

pub one_more_unit : (xs : List Cond) (i : ℕ) (x : Cond) (a b d e : List ℕ) (whole : Writing) → i < length xs → x ≡ get_or xs i x → Leaves a whole b (units_left i (map cond_tree (drop i xs))) → Appends b (between i (word (codes "and"))) d → Appends d (enclosed (is_unit (cond_tree x)) (written_cond (cond_tree x))) e → Leaves a whole e (units_left (i + 1) (map cond_tree (drop (i + 1) xs)))
one_more_unit = one_more cond_tree units_left (word (codes "and")) (λ c. enclosed (is_unit c) (written_cond c)) units_split

pub one_more_conjunction : (xs : List Cond) (i : ℕ) (x : Cond) (a b d e : List ℕ) (whole : Writing) → i < length xs → x ≡ get_or xs i x → Leaves a whole b (conjunctions_left i (map cond_tree (drop i xs))) → Appends b (between i (word (codes "or"))) d → Appends d (enclosed (is_conjunction (cond_tree x)) (written_cond (cond_tree x))) e → Leaves a whole e (conjunctions_left (i + 1) (map cond_tree (drop (i + 1) xs)))
one_more_conjunction = one_more cond_tree conjunctions_left (word (codes "or")) (λ c. enclosed (is_conjunction c) (written_cond c)) conjunctions_split

-- nothing is left at the end
module _ {X Y : Type 0} (view : X → Y) (left : ℕ → List Y → Writing) (ends : (i : ℕ) → left i [] ≡ nothing) where
  pub at_end : (xs : List X) (i : ℕ) (a b : List ℕ) (whole : Writing) → length xs ≤ i → Leaves a whole b (left i (map view (drop i xs))) → Appends a whole b
  at_end xs i a b whole over h =
      let none : Leaves a whole b (left i []) = subst (λ ys. Leaves a whole b (left i (map view ys))) (drop_all i xs over) h in
      all_written (subst (λ w. Leaves a whole b w) (ends i) none)

exprs_end : (i : ℕ) → exprs_left i [] ≡ nothing
exprs_end zero = refl
exprs_end (suc i) = refl

bindings_end : (i : ℕ) → bindings_left i [] ≡ nothing
bindings_end zero = refl
bindings_end (suc i) = refl

units_end : (i : ℕ) → units_left i [] ≡ nothing
units_end zero = refl
units_end (suc i) = refl

conjunctions_end : (i : ℕ) → conjunctions_left i [] ≡ nothing
conjunctions_end zero = refl
conjunctions_end (suc i) = refl

pub no_more_exprs : (xs : List Expr) (i : ℕ) (a b : List ℕ) (whole : Writing) → length xs ≤ i → Leaves a whole b (exprs_left i (map tree (drop i xs))) → Appends a whole b
no_more_exprs = at_end tree exprs_left exprs_end

pub no_more_bindings : (xs : List Binding) (i : ℕ) (a b : List ℕ) (whole : Writing) → length xs ≤ i → Leaves a whole b (bindings_left i (map binding_tree (drop i xs))) → Appends a whole b
no_more_bindings = at_end binding_tree bindings_left bindings_end

pub no_more_units : (xs : List Cond) (i : ℕ) (a b : List ℕ) (whole : Writing) → length xs ≤ i → Leaves a whole b (units_left i (map cond_tree (drop i xs))) → Appends a whole b
no_more_units = at_end cond_tree units_left units_end

pub no_more_conjunctions : (xs : List Cond) (i : ℕ) (a b : List ℕ) (whole : Writing) → length xs ≤ i → Leaves a whole b (conjunctions_left i (map cond_tree (drop i xs))) → Appends a whole b
no_more_conjunctions = at_end cond_tree conjunctions_left conjunctions_end

-- a tag is written behind its quote
pub tag_written : {E : Type 0} (r : Result (Unit {0}) E) (a b x y z : List ℕ) → b ≡ a ++ 39 ∷ [] → y ≡ x → OnOk r (Appends b (followed_by_blank Tag y) z) → OnOk r (Appends a (followed_by_blank Tag (39 ∷ x)) z)
tag_written (Ok u) a b x y z e f h = record {
  same = λ rest.
      sym (append_assoc a (39 ∷ []) ((x ++ 32 ∷ []) ++ text rest)) ∙ ap (λ l. l ++ ((x ++ 32 ∷ []) ++ text rest)) (sym e) ∙ ap (λ l. b ++ ((l ++ 32 ∷ []) ++ text rest)) (sym f) ∙ h.same rest;
}
tag_written (Err u) a b x y z e f h = tt

-- a condition that isn't true has its `where`
pub where_is : (c : CondD) (w : Writing) → is_truth c ≡ false → where_clause c w ≡ (word (codes "where") ▸ w)
where_is c w e = ap (λ b. if b then nothing else (word (codes "where") ▸ w)) e

abbrev pub names_left : ℕ → List ParamD → Writing
names_left zero ps = written_names ps
names_left (suc i) ps = written_more_names ps

names_split : (i : ℕ) (y : ParamD) (ys : List ParamD) → names_left i (y ∷ ys) ≡ (between i (symbol (codes ",")) ▸ name y.name ▸ names_left (suc i) ys)
names_split zero y ys = refl
names_split (suc i) y ys = refl

names_end : (i : ℕ) → names_left i [] ≡ nothing
names_end zero = refl
names_end (suc i) = refl

pub one_more_name : (xs : List Param) (i : ℕ) (x : Param) (a b d e : List ℕ) (whole : Writing) → i < length xs → x ≡ get_or xs i x → Leaves a whole b (names_left i (map param_tree (drop i xs))) → Appends b (between i (symbol (codes ","))) d → Appends d (name x.name) e → Leaves a whole e (names_left (i + 1) (map param_tree (drop (i + 1) xs)))
one_more_name = one_more param_tree names_left (symbol (codes ",")) (λ x. name x.name) names_split

pub no_more_names : (xs : List Param) (i : ℕ) (a b : List ℕ) (whole : Writing) → length xs ≤ i → Leaves a whole b (names_left i (map param_tree (drop i xs))) → Appends a whole b
no_more_names = at_end param_tree names_left names_end

pub parameters_is : (ps : List ParamD) → 0 < length ps → written_parameters ps ≡ (word (codes "parameter") ▸ written_names ps ▸ ends_line (codes ";"))
parameters_is [] h = absurd (omega arith)
parameters_is (x ∷ rest) h = refl

pub else_is : (l : List StmtD) (w : Writing) → 0 < length l → else_clause (stmts_of l) w ≡ (word (codes "else") ▸ block w)
else_is [] w h = absurd (omega arith)
else_is (a ∷ rest) w h = refl

pub one_more_stmt : (xs : List Stmt) (i : ℕ) (x : Stmt) (a b d : List ℕ) (whole : Writing) → i < length xs → x ≡ get_or xs i x → Leaves a whole b (written_stmts (stmts_of (map stmt_tree (drop i xs)))) → Appends b (written_stmt (stmt_tree x)) d → Leaves a whole d (written_stmts (stmts_of (map stmt_tree (drop (i + 1) xs))))
one_more_stmt xs i x a b d whole within is h p =
    let first : drop i xs ≡ x ∷ drop (i + 1) xs = drop_more xs i x within ∙ ap (λ y. y ∷ drop (i + 1) xs) (sym is) in
    let h' : Leaves a whole b (written_stmt (stmt_tree x) ▸ written_stmts (stmts_of (map stmt_tree (drop (i + 1) xs)))) = subst (λ ys. Leaves a whole b (written_stmts (stmts_of (map stmt_tree ys)))) first h in
    one_less h' p

pub no_more_stmts : (xs : List Stmt) (i : ℕ) (a b : List ℕ) (whole : Writing) → length xs ≤ i → Leaves a whole b (written_stmts (stmts_of (map stmt_tree (drop i xs)))) → Appends a whole b
no_more_stmts = at_end stmt_tree (λ i l. written_stmts (stmts_of l)) (λ i. refl)

-- all that is written into an empty text
pub all_of_it : {b : List ℕ} {f : Writing} (a : List ℕ) → a ≡ [] → Appends a f b → b ≡ text (f [])
all_of_it {b} {f} a e h = sym (append-nil b) ∙ sym (h.same []) ∙ ap (λ l. l ++ text (f [])) e
