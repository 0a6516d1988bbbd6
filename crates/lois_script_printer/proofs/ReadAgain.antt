-- What is written of a script is read again as the script, positions left aside.
use Rattle.std.proofs.Common.{◌≡◌, ℕ, zero, suc, ◌-◌, ◌≤◌, Bool, true, false, List, [], ◌∷◌, map, codes, refl, sym, ap, ◌∙◌, subst, inl, inr, arith, lit<}
use Rattle.std.specs.Fmt as writing
use Rattle.std.proofs.lemmas.List.Elements.{All-nil}
use Rattle.lois_lexer.specs.declared.TokenKind.{TokenKind}
use Rattle.lois_lexer.specs.declared.TokenKind.TheVariants.{Name, Word, Tag, Number, Symbol}
use Rattle.lois_lexer.specs.declared.Token.{Token}
use Rattle.lois_lexer.specs.Tokens.{bytes_of}
use Rattle.lois_lexer.specs.SpelledTokens.{Spelled, spelled}
use Rattle.lois_lexer.specs.Laws.{Written}
use Rattle.lois_lexer.proofs.OneReading.{tokens_of_cut}
use Rattle.lois_lexer.proofs.Written.{written_is_read}
use Rattle.lois_script.specs.Tree.{ExprD, atoms, var, tag, tuple, listed, each, part, apply, ExprsD, no_exprs, expr, BindingD, binding, BindingsD, no_bindings, bind, CondD, truth, falsity, same, differ, below, member, included, empty, not, all, any, exists, every, CondsD, no_conds, cond, StmtD, «let», assign, add, for, if, while, assert, print, StmtsD, no_stmts, stmt, ParamD, ScriptD}
use Rattle.lois_script.specs.Grammar.{PlacedToken, token_at_place, Spelling, ◌▹◌, Takes, TakesWord, TakesSymbol, IsWide, AreMany, operation_word, HasArity, Enclosed, is_base, is_unit, is_conjunction, WhereClause, Block, ElseClause, SpellsExpr, SpellsExprs, SpellsListed, SpellsMoreExprs, SpellsBinding, SpellsBindings, SpellsMoreBindings, SpellsCond, SpellsUnits, SpellsMoreUnits, SpellsConjunctions, SpellsMoreConjunctions, SpellsStmt, SpellsStmts, SpellsMoreNames, SpellsParameters, structure_word, SpellsScript}
use Rattle.lois_script.specs.Limits.{open_after, IsNestedWithin, StmtsAreWithin}
use Rattle.lois_script_printer.specs.Printed.{followed_by_blank, enclosed, where_clause, block, else_clause, written_expr, written_exprs, written_more_exprs, written_binding, written_bindings, written_more_bindings, written_cond, written_units, written_more_units, written_conjunctions, written_more_conjunctions, written_stmt, written_stmts, written_more_names, written_parameters, written_script, printed_script}
use Rattle.lois_script_printer.specs.Unplaced.{unplaced_expr, unplaced_exprs, unplaced_binding, unplaced_bindings, unplaced_cond, unplaced_conds, unplaced_stmt, unplaced_stmts, unplaced_param, unplaced, IsSpelled, SpellsUnplaced}
use Rattle.lois_script.proofs.Printable.{HasSomeExpr, HasSomeBinding, Opens, ExprPrints, ExprsPrint, BindingPrints, BindingsPrint, CondPrints, UnitsPrint, ConjunctionsPrint, EnclosedPrints, StmtPrints, StmtsPrint, NamesPrint, ScriptPrints, are_tokens, Left, one_back, script_prints}
use Rattle.lois_script_printer.proofs.WrittenTokens.{AreWritten, script_writes}
use Rattle.lois_script_printer.proofs.Places.{carried, wide_un, many_un, arity_un, is_base_un, is_unit_un, is_conjunction_un, stmts_un}

-- tokens without their places
abbrev bare : PlacedToken → Spelled
bare t = record { kind = t.kind; bytes = t.bytes }

abbrev tokens_of : List Written → List Spelled
tokens_of = map (λ (w : Written). w.token)

-- the tokens, places left aside, are those that are written
record Are (ts : List PlacedToken) (ws : List Written) : Type 0 where
  these : map bare ts ≡ tokens_of ws

record First (kind : TokenKind) (bytes : List ℕ) (ts : List PlacedToken) (rest : List Written) : Type 0 where
  place : ℕ
  after : List PlacedToken
  is : ts ≡ record { kind = kind; bytes = bytes; place = place } ∷ after
  left : Are after rest

first_of : (kind : TokenKind) (bytes : List ℕ) (ts : List PlacedToken) (rest : List Written) → map bare ts ≡ record { kind = kind; bytes = bytes } ∷ tokens_of rest → First kind bytes ts rest
first_of kind bytes [] rest e = absurd (cc)
first_of kind bytes (t ∷ ts) rest e =
    let head : bare t ≡ record { kind = kind; bytes = bytes } = cc in
    let tail : map bare ts ≡ tokens_of rest = cc in
    record {
      place = t.place;
      after = ts;
      is = ap (λ (s : Spelled). record { kind = s.kind; bytes = s.bytes; place = t.place } ∷ ts) head;
      left = record { these = tail };
    }

first : (kind : TokenKind) (bytes : List ℕ) (ts : List PlacedToken) (rest : List Written) {blank : ℕ} → Are ts (record { token = record { kind = kind; bytes = bytes }; blank = blank } ∷ rest) → First kind bytes ts rest
first kind bytes ts rest is = first_of kind bytes ts rest is.these

-- The part at the front of the tokens: the same but for its places. Where n brackets are open before it, the limit is
-- kept through it as well as after it.
record Again {X : Type 0} (S : X → Spelling) (un : X → X) (n : ℕ) (x : X) (ts : List PlacedToken) (rest : List Written) : Type 0 where
  tree : X
  after : List PlacedToken
  spells : S tree ts after
  same_tree : un tree ≡ un x
  left : Are after rest
  nested : IsNestedWithin n after → IsNestedWithin n ts

nest : (n k : ℕ) {t : PlacedToken} (ts us : List PlacedToken) → ts ≡ t ∷ us → open_after n t ≡ k → k ≤ 64 → IsNestedWithin k us → IsNestedWithin n ts
nest n k {t} ts us e after low h =
    subst (IsNestedWithin n) (sym e) (subst (λ (i : ℕ). i ≤ 64) (sym after) low, subst (λ (i : ℕ). IsNestedWithin i us) (sym after) h)

close : (n : ℕ) {t : PlacedToken} (ts us : List PlacedToken) → ts ≡ t ∷ us → open_after (suc n) t ≡ suc n - 1 → n ≤ 64 → IsNestedWithin n us → IsNestedWithin (suc n) ts
close n ts us e after low h = nest (suc n) n ts us e (after ∙ one_back n) low h

abbrev ExprAgain : ExprD → Type 0
ExprAgain e = (n : ℕ) → n ≤ 64 → ExprPrints e n → (ts : List PlacedToken) (rest : List Written) → Are ts (written_expr e rest) → Again SpellsExpr unplaced_expr n e ts rest

abbrev CondAgain : CondD → Type 0
CondAgain c = (n : ℕ) → n ≤ 64 → CondPrints c n → (ts : List PlacedToken) (rest : List Written) → Are ts (written_cond c rest) → Again SpellsCond unplaced_cond n c ts rest

-- a condition in the brackets that it needs
again_in : (form : CondD → Bool) → ((x : CondD) → form (unplaced_cond x) ≡ form x) → (c : CondD) → CondAgain c → (b : Bool) → form c ≡ b → (n : ℕ) → n ≤ 64 → EnclosedPrints b n (CondPrints c) → (ts : List PlacedToken) (rest : List Written) → Are ts (enclosed b (written_cond c) rest) → Again (λ x. Enclosed (form x) (SpellsCond x)) unplaced_cond n c ts rest
again_in form same_form c again true e n low h ts rest is =
    let a = again n low h ts rest is in
    record {
      tree = a.tree;
      after = a.after;
      spells = (zero, inl (sym (same_form a.tree) ∙ ap form a.same_tree ∙ same_form c ∙ e), a.spells);
      same_tree = a.same_tree;
      left = a.left;
      nested = a.nested;
    }
again_in form same_form c again false e n low h ts rest is =
    let o = first Symbol (codes "[") ts _ is in
    let a = again (suc n) h.0 h.1 o.after _ o.left in
    let q = first Symbol (codes "]") a.after rest a.left in
    record {
      tree = a.tree;
      after = q.after;
      spells = (suc zero, inr (lit< tt), (o.after, (o.place, o.is), (a.after, a.spells, (q.place, q.is))));
      same_tree = a.same_tree;
      left = q.left;
      nested = λ k. nest n (suc n) ts o.after o.is refl h.0 (a.nested (close n a.after q.after q.is refl low k));
    }

again_where : (c : CondD) → CondAgain c → (n : ℕ) → n ≤ 64 → CondPrints c n → (ts : List PlacedToken) (rest : List Written) → Are ts (where_clause c (written_cond c) rest) → Again (λ x. WhereClause x (SpellsCond x)) unplaced_cond n c ts rest
again_where truth again n low h ts rest is =
    record { tree = truth; after = ts; spells = inl (refl, refl); same_tree = refl; left = is; nested = λ k. k }
again_where c again n low h ts rest is =
    let w = first Word (codes "where") ts _ is in
    let a = again n low h w.after rest w.left in
    record {
      tree = a.tree;
      after = a.after;
      spells = inr (w.after, (w.place, w.is), (zero, inl refl, a.spells));
      same_tree = a.same_tree;
      left = a.left;
      nested = λ k. nest n n ts w.after w.is refl low (a.nested k);
    }

some_exprs : (es fs : ExprsD) → unplaced_exprs fs ≡ unplaced_exprs es → HasSomeExpr es → HasSomeExpr fs
some_exprs no_exprs fs e h = absurd h
some_exprs (expr a rest) no_exprs e h = absurd (cc)
some_exprs (expr a rest) (expr b more) e h = tt

wide_some : (es : ExprsD) → IsWide es → HasSomeExpr es
wide_some no_exprs h = absurd h
wide_some (expr e rest) h = tt

-- a list of one part or more, which may be none
spelled_some : (es : ExprsD) (b a : List PlacedToken) → HasSomeExpr es → SpellsListed es b a → SpellsExprs es b a
spelled_some no_exprs b a h s = absurd h
spelled_some (expr e rest) b a h s = s

bindings_some : (xs ys : BindingsD) → unplaced_bindings ys ≡ unplaced_bindings xs → HasSomeBinding xs → HasSomeBinding ys
bindings_some no_bindings ys e h = absurd h
bindings_some (bind x rest) no_bindings e h = absurd (cc)
bindings_some (bind x rest) (bind y more) e h = tt

-- a list of bindings of which the first may be missing
abbrev SomeBindings : BindingsD → Spelling
SomeBindings no_bindings before after = before ≡ after
SomeBindings (bind b rest) before after = SpellsBindings (bind b rest) before after

bindings_spelled : (xs : BindingsD) (b a : List PlacedToken) → HasSomeBinding xs → SomeBindings xs b a → SpellsBindings xs b a
bindings_spelled no_bindings b a h s = absurd h
bindings_spelled (bind x rest) b a h s = s

-- likewise for conditions
abbrev SomeUnits : CondsD → Spelling
SomeUnits no_conds before after = before ≡ after
SomeUnits (cond c rest) before after = SpellsUnits (cond c rest) before after

abbrev SomeConjunctions : CondsD → Spelling
SomeConjunctions no_conds before after = before ≡ after
SomeConjunctions (cond c rest) before after = SpellsConjunctions (cond c rest) before after

units_spelled : (cs : CondsD) (b a : List PlacedToken) → AreMany cs → SomeUnits cs b a → SpellsUnits cs b a
units_spelled no_conds b a h s = absurd h
units_spelled (cond c rest) b a h s = s

conjunctions_spelled : (cs : CondsD) (b a : List PlacedToken) → AreMany cs → SomeConjunctions cs b a → SpellsConjunctions cs b a
conjunctions_spelled no_conds b a h s = absurd h
conjunctions_spelled (cond c rest) b a h s = s

-- two parts, one behind the other
joined : {X Y Z : Type 0} {S : X → Spelling} {T : Y → Spelling} {U : Z → Spelling} {un_x : X → X} {un_y : Y → Y} {un_z : Z → Z} (make : X → Y → Z) → ((x : X) (y : Y) → un_z (make x y) ≡ make (un_x x) (un_y y)) →
    ((x : X) (y : Y) (b a : List PlacedToken) → (S x ▹ T y) b a → U (make x y) b a) → (n : ℕ) (x : X) (y : Y) (ts : List PlacedToken) (mid rest : List Written) (one : Again S un_x n x ts mid) →
    Again T un_y n y one.after rest → Again U un_z n (make x y) ts rest
joined make unplaces spelled n x y ts mid rest one other =
    record {
      tree = make one.tree other.tree;
      after = other.after;
      spells = spelled one.tree other.tree ts other.after (one.after, one.spells, other.spells);
      same_tree = unplaces one.tree other.tree ∙ (λ i. make (one.same_tree i) (other.same_tree i)) ∙ sym (unplaces x y);
      left = other.left;
      nested = λ k. one.nested (other.nested k);
    }

-- likewise, behind a token that opens and closes nothing
joined_behind : {X Y Z : Type 0} {S : X → Spelling} {T : Y → Spelling} {U : Z → Spelling} {un_x : X → X} {un_y : Y → Y} {un_z : Z → Z} (make : X → Y → Z) → ((x : X) (y : Y) → un_z (make x y) ≡ make (un_x x) (un_y y)) →
    (kind : TokenKind) (sign : List ℕ) → ((p : ℕ) (x : X) (y : Y) (b a : List PlacedToken) → (Takes kind sign p ▹ S x ▹ T y) b a → U (make x y) b a) →
    (n : ℕ) → n ≤ 64 → ((p : ℕ) → open_after n (record { kind = kind; bytes = sign; place = p }) ≡ n) → (x : X) (y : Y) (ts : List PlacedToken) (front mid rest : List Written) (f : First kind sign ts front) (one : Again S un_x n x f.after mid) →
    Again T un_y n y one.after rest → Again U un_z n (make x y) ts rest
joined_behind make unplaces kind sign spelled n low flat x y ts front mid rest f one other =
    record {
      tree = make one.tree other.tree;
      after = other.after;
      spells = spelled f.place one.tree other.tree ts other.after (f.after, f.is, (one.after, one.spells, other.spells));
      same_tree = unplaces one.tree other.tree ∙ (λ i. make (one.same_tree i) (other.same_tree i)) ∙ sym (unplaces x y);
      left = other.left;
      nested = λ k. nest n n ts f.after f.is (flat f.place) low (one.nested (other.nested k));
    }

-- a relation: the sign stands between two expressions
again_related : (kind : TokenKind) (sign : List ℕ) (make : ℕ → ExprD → ExprD → CondD) → ((p : ℕ) (e f : ExprD) → unplaced_cond (make p e f) ≡ make 0 (unplaced_expr e) (unplaced_expr f)) →
    ((p : ℕ) (e f : ExprD) (b a : List PlacedToken) → (SpellsExpr e ▹ Takes kind sign p ▹ SpellsExpr f) b a → SpellsCond (make p e f) b a) →
    (p : ℕ) (e f : ExprD) → ExprAgain e → ExprAgain f → (n : ℕ) → n ≤ 64 → ((p : ℕ) → open_after n (record { kind = kind; bytes = sign; place = p }) ≡ n) → ExprPrints e n → ExprPrints f n →
    (ts : List PlacedToken) (rest : List Written) → Are ts (written_expr e (followed_by_blank kind sign (written_expr f rest))) → Again SpellsCond unplaced_cond n (make p e f) ts rest
again_related kind sign make unplaces spelled p e f again_e again_f n low flat h k ts rest is =
    let a = again_e n low h ts _ is in
    let s = first kind sign a.after _ a.left in
    let b = again_f n low k s.after rest s.left in
    record {
      tree = make s.place a.tree b.tree;
      after = b.after;
      spells = spelled s.place a.tree b.tree ts b.after (a.after, a.spells, (s.after, s.is, b.spells));
      same_tree = unplaces s.place a.tree b.tree ∙ (λ i. make 0 (a.same_tree i) (b.same_tree i)) ∙ sym (unplaces p e f);
      left = b.left;
      nested = λ d. a.nested (nest n n a.after s.after s.is (flat s.place) low (b.nested d));
    }

abbrev BindingAgain : BindingD → Type 0
BindingAgain x = (n : ℕ) → n ≤ 64 → BindingPrints x n → (ts : List PlacedToken) (rest : List Written) → Are ts (written_binding x rest) → Again SpellsBinding unplaced_binding n x ts rest

-- a quantifier: its word, a binding, and a condition
again_quantified : (quantifier : List ℕ) (make : BindingD → CondD → CondD) → ((x : BindingD) (c : CondD) → unplaced_cond (make x c) ≡ make (unplaced_binding x) (unplaced_cond c)) →
    ((x : BindingD) (c : CondD) (b a : List PlacedToken) → (TakesWord quantifier ▹ SpellsBinding x ▹ TakesSymbol (codes ":") ▹ Enclosed (is_base c) (SpellsCond c)) b a → SpellsCond (make x c) b a) →
    (x : BindingD) (c : CondD) → BindingAgain x → CondAgain c → (n : ℕ) → n ≤ 64 → ((p : ℕ) → open_after n (record { kind = Word; bytes = quantifier; place = p }) ≡ n) → BindingPrints x n → EnclosedPrints (is_base c) n (CondPrints c) →
    (ts : List PlacedToken) (rest : List Written) → Are ts (followed_by_blank Word quantifier (written_binding x (followed_by_blank Symbol (codes ":") (enclosed (is_base c) (written_cond c) rest)))) → Again SpellsCond unplaced_cond n (make x c) ts rest
again_quantified quantifier make unplaces spelled x c again_x again_c n low flat bound h ts rest is =
    let w = first Word quantifier ts _ is in
    let b = again_x n low bound w.after _ w.left in
    let m = first Symbol (codes ":") b.after _ b.left in
    let a = again_in is_base is_base_un c again_c (is_base c) refl n low h m.after rest m.left in
    record {
      tree = make b.tree a.tree;
      after = a.after;
      spells = spelled b.tree a.tree ts a.after (w.after, (w.place, w.is), (b.after, b.spells, (m.after, (m.place, m.is), a.spells)));
      same_tree = unplaces b.tree a.tree ∙ (λ i. make (b.same_tree i) (a.same_tree i)) ∙ sym (unplaces x c);
      left = a.left;
      nested = λ k. nest n n ts w.after w.is (flat w.place) low (b.nested (nest n n b.after m.after m.is refl low (a.nested k)));
    }

mutual
  again_expr : (e : ExprD) (n : ℕ) → n ≤ 64 → ExprPrints e n → (ts : List PlacedToken) (rest : List Written) → Are ts (written_expr e rest) → Again SpellsExpr unplaced_expr n e ts rest
  again_expr (atoms p) n low h ts rest is =
      let t = first Word (codes "atoms") ts rest is in
      record { tree = atoms t.place; after = t.after; spells = t.is; same_tree = refl; left = t.left; nested = nest n n ts t.after t.is refl low }
  again_expr (var p x) n low h ts rest is =
      let t = first Name x ts rest is in
      record { tree = var t.place x; after = t.after; spells = t.is; same_tree = refl; left = t.left; nested = nest n n ts t.after t.is refl low }
  again_expr (tag p x) n low h ts rest is =
      let t = first Tag (39 ∷ x) ts rest is in
      record { tree = tag t.place x; after = t.after; spells = t.is; same_tree = refl; left = t.left; nested = nest n n ts t.after t.is refl low }
  again_expr (tuple p es) n low (wide, o, h) ts rest is =
      let t = first Symbol (codes "(") ts _ is in
      let a = again_exprs es (suc n) o h t.after _ t.left in
      let q = first Symbol (codes ")") a.after rest a.left in
      record {
        tree = tuple t.place a.tree;
        after = q.after;
        spells = (carried IsWide unplaced_exprs wide_un es a.tree a.same_tree wide, (t.after, t.is, (a.after, spelled_some a.tree t.after a.after (some_exprs es a.tree a.same_tree (wide_some es wide)) a.spells, (q.place, q.is))));
        same_tree = ap (tuple 0) a.same_tree;
        left = q.left;
        nested = λ k. nest n (suc n) ts t.after t.is refl o (a.nested (close n a.after q.after q.is refl low k));
      }
  again_expr (listed p es) n low (o, h) ts rest is =
      let t = first Symbol (codes "{") ts _ is in
      let a = again_exprs es (suc n) o h t.after _ t.left in
      let q = first Symbol (codes "}") a.after rest a.left in
      record {
        tree = listed t.place a.tree;
        after = q.after;
        spells = (t.after, t.is, (a.after, a.spells, (q.place, q.is)));
        same_tree = ap (listed 0) a.same_tree;
        left = q.left;
        nested = λ k. nest n (suc n) ts t.after t.is refl o (a.nested (close n a.after q.after q.is refl low k));
      }
  again_expr (each p e bs c) n low (o, h, some, bound, guard) ts rest is =
      let t = first Symbol (codes "{") ts _ is in
      let a = again_expr e (suc n) o h t.after _ t.left in
      let w = first Word (codes "for") a.after _ a.left in
      let b = again_bindings bs (suc n) o bound w.after _ w.left in
      let g = again_where c (again_cond c) (suc n) o guard b.after _ b.left in
      let q = first Symbol (codes "}") g.after rest g.left in
      record {
        tree = each t.place a.tree b.tree g.tree;
        after = q.after;
        spells = (t.after, t.is, (a.after, a.spells, (w.after, (w.place, w.is), (b.after, bindings_spelled b.tree w.after b.after (bindings_some bs b.tree b.same_tree some) b.spells, (g.after, g.spells, (q.place, q.is))))));
        same_tree = λ i. each 0 (a.same_tree i) (b.same_tree i) (g.same_tree i);
        left = q.left;
        nested = λ k. nest n (suc n) ts t.after t.is refl o (a.nested (nest (suc n) (suc n) a.after w.after w.is refl o (b.nested (g.nested (close n g.after q.after q.is refl low k)))));
      }
  again_expr (part p e j) n low (o, h, count) ts rest is =
      let w = first Word (codes "part") ts _ is in
      let t = first Symbol (codes "(") w.after _ w.left in
      let a = again_expr e (suc n) o h t.after _ t.left in
      let m = first Symbol (codes ",") a.after _ a.left in
      let d = first Number (writing.decimal j) m.after _ m.left in
      let q = first Symbol (codes ")") d.after rest d.left in
      record {
        tree = part w.place a.tree j;
        after = q.after;
        spells = (w.after, w.is, (t.after, (t.place, t.is), (a.after, a.spells, (m.after, (m.place, m.is), (d.after, (d.place, writing.decimal j, d.is, count.value), (q.place, q.is))))));
        same_tree = ap (λ x. part 0 x j) a.same_tree;
        left = q.left;
        nested = λ k. nest n n ts w.after w.is refl low (nest n (suc n) w.after t.after t.is refl o (a.nested (nest (suc n) (suc n) a.after m.after m.is refl o (nest (suc n) (suc n) m.after d.after d.is refl o (close n d.after q.after q.is refl low k)))));
      }
  again_expr (apply p op es) n low (arity, some, o, h) ts rest is =
      let w = first Word (operation_word op) ts _ is in
      let t = first Symbol (codes "(") w.after _ w.left in
      let a = again_exprs es (suc n) o h t.after _ t.left in
      let q = first Symbol (codes ")") a.after rest a.left in
      record {
        tree = apply w.place op a.tree;
        after = q.after;
        spells = (carried (HasArity op) unplaced_exprs (arity_un op) es a.tree a.same_tree arity, (w.after, w.is, (t.after, (t.place, t.is), (a.after, spelled_some a.tree t.after a.after (some_exprs es a.tree a.same_tree some) a.spells, (q.place, q.is)))));
        same_tree = ap (apply 0 op) a.same_tree;
        left = q.left;
        nested = λ k. nest n n ts w.after w.is refl low (nest n (suc n) w.after t.after t.is refl o (a.nested (close n a.after q.after q.is refl low k)));
      }

  again_exprs : (es : ExprsD) (n : ℕ) → n ≤ 64 → ExprsPrint es n → (ts : List PlacedToken) (rest : List Written) → Are ts (written_exprs es rest) → Again SpellsListed unplaced_exprs n es ts rest
  again_exprs no_exprs n low h ts rest is =
      record { tree = no_exprs; after = ts; spells = refl; same_tree = refl; left = is; nested = λ k. k }
  again_exprs (expr e es) n low (h, more) ts rest is =
      let a = again_expr e n low h ts _ is in
      let b = again_more_exprs es n low more a.after rest a.left in
      joined expr (λ x y. refl) (λ x y b a s. s) n e es ts _ rest a b

  again_more_exprs : (es : ExprsD) (n : ℕ) → n ≤ 64 → ExprsPrint es n → (ts : List PlacedToken) (rest : List Written) → Are ts (written_more_exprs es rest) → Again SpellsMoreExprs unplaced_exprs n es ts rest
  again_more_exprs no_exprs n low h ts rest is =
      record { tree = no_exprs; after = ts; spells = refl; same_tree = refl; left = is; nested = λ k. k }
  again_more_exprs (expr e es) n low (h, more) ts rest is =
      let m = first Symbol (codes ",") ts _ is in
      let a = again_expr e n low h m.after _ m.left in
      let b = again_more_exprs es n low more a.after rest a.left in
      joined_behind expr (λ x y. refl) Symbol (codes ",") (λ p x y b a s. (s.0, (p, s.1), s.2)) n low (λ p. refl) e es ts _ _ rest m a b

  again_binding : (x : BindingD) (n : ℕ) → n ≤ 64 → BindingPrints x n → (ts : List PlacedToken) (rest : List Written) → Are ts (written_binding x rest) → Again SpellsBinding unplaced_binding n x ts rest
  again_binding (binding p x e) n low (token, h) ts rest is =
      let t = first Name x ts _ is in
      let w = first Word (codes "in") t.after _ t.left in
      let a = again_expr e n low h w.after rest w.left in
      record {
        tree = binding t.place x a.tree;
        after = a.after;
        spells = (t.after, t.is, (w.after, (w.place, w.is), a.spells));
        same_tree = ap (binding 0 x) a.same_tree;
        left = a.left;
        nested = λ k. nest n n ts t.after t.is refl low (nest n n t.after w.after w.is refl low (a.nested k));
      }

  again_bindings : (xs : BindingsD) (n : ℕ) → n ≤ 64 → BindingsPrint xs n → (ts : List PlacedToken) (rest : List Written) → Are ts (written_bindings xs rest) → Again SomeBindings unplaced_bindings n xs ts rest
  again_bindings no_bindings n low h ts rest is =
      record { tree = no_bindings; after = ts; spells = refl; same_tree = refl; left = is; nested = λ k. k }
  again_bindings (bind x xs) n low (h, more) ts rest is =
      let a = again_binding x n low h ts _ is in
      let b = again_more_bindings xs n low more a.after rest a.left in
      joined bind (λ x y. refl) (λ x y b a s. s) n x xs ts _ rest a b

  again_more_bindings : (xs : BindingsD) (n : ℕ) → n ≤ 64 → BindingsPrint xs n → (ts : List PlacedToken) (rest : List Written) → Are ts (written_more_bindings xs rest) → Again SpellsMoreBindings unplaced_bindings n xs ts rest
  again_more_bindings no_bindings n low h ts rest is =
      record { tree = no_bindings; after = ts; spells = refl; same_tree = refl; left = is; nested = λ k. k }
  again_more_bindings (bind x xs) n low (h, more) ts rest is =
      let m = first Symbol (codes ",") ts _ is in
      let a = again_binding x n low h m.after _ m.left in
      let b = again_more_bindings xs n low more a.after rest a.left in
      joined_behind bind (λ x y. refl) Symbol (codes ",") (λ p x y b a s. (s.0, (p, s.1), s.2)) n low (λ p. refl) x xs ts _ _ rest m a b

  again_cond : (c : CondD) (n : ℕ) → n ≤ 64 → CondPrints c n → (ts : List PlacedToken) (rest : List Written) → Are ts (written_cond c rest) → Again SpellsCond unplaced_cond n c ts rest
  again_cond truth n low h ts rest is =
      let t = first Word (codes "true") ts rest is in
      record { tree = truth; after = t.after; spells = (t.place, t.is); same_tree = refl; left = t.left; nested = nest n n ts t.after t.is refl low }
  again_cond falsity n low h ts rest is =
      let t = first Word (codes "false") ts rest is in
      record { tree = falsity; after = t.after; spells = (t.place, t.is); same_tree = refl; left = t.left; nested = nest n n ts t.after t.is refl low }
  again_cond (same e f) n low (h, k) ts rest is =
      again_related Symbol (codes "=") (λ p. same) (λ p e f. refl) (λ p e f b a s. (s.0, s.1, (s.2.0, (p, s.2.1), s.2.2))) 0 e f (again_expr e) (again_expr f) n low (λ p. refl) h k ts rest is
  again_cond (differ e f) n low (h, k) ts rest is =
      again_related Symbol (codes "!=") (λ p. differ) (λ p e f. refl) (λ p e f b a s. (s.0, s.1, (s.2.0, (p, s.2.1), s.2.2))) 0 e f (again_expr e) (again_expr f) n low (λ p. refl) h k ts rest is
  again_cond (below p e f) n low (h, k) ts rest is =
      again_related Symbol (codes "<") (below) (λ p e f. refl) (λ p e f b a s. s) p e f (again_expr e) (again_expr f) n low (λ p. refl) h k ts rest is
  again_cond (member e f) n low (h, k) ts rest is =
      again_related Word (codes "in") (λ p. member) (λ p e f. refl) (λ p e f b a s. (s.0, s.1, (s.2.0, (p, s.2.1), s.2.2))) 0 e f (again_expr e) (again_expr f) n low (λ p. refl) h k ts rest is
  again_cond (included e f) n low (h, k) ts rest is =
      again_related Word (codes "subset") (λ p. included) (λ p e f. refl) (λ p e f b a s. (s.0, s.1, (s.2.0, (p, s.2.1), s.2.2))) 0 e f (again_expr e) (again_expr f) n low (λ p. refl) h k ts rest is
  again_cond (empty e) n low (o, h) ts rest is =
      let w = first Word (codes "empty") ts _ is in
      let t = first Symbol (codes "(") w.after _ w.left in
      let a = again_expr e (suc n) o h t.after _ t.left in
      let q = first Symbol (codes ")") a.after rest a.left in
      record {
        tree = empty a.tree;
        after = q.after;
        spells = (w.after, (w.place, w.is), (t.after, (t.place, t.is), (a.after, a.spells, (q.place, q.is))));
        same_tree = ap empty a.same_tree;
        left = q.left;
        nested = λ k. nest n n ts w.after w.is refl low (nest n (suc n) w.after t.after t.is refl o (a.nested (close n a.after q.after q.is refl low k)));
      }
  again_cond (not c) n low h ts rest is =
      let w = first Word (codes "not") ts _ is in
      let a = again_in is_base is_base_un c (again_cond c) (is_base c) refl n low h w.after rest w.left in
      record {
        tree = not a.tree;
        after = a.after;
        spells = (w.after, (w.place, w.is), a.spells);
        same_tree = ap not a.same_tree;
        left = a.left;
        nested = λ k. nest n n ts w.after w.is refl low (a.nested k);
      }
  again_cond (all cs) n low (many, h) ts rest is =
      let a = again_units cs n low h ts rest is in
      let many_too = carried AreMany unplaced_conds many_un cs a.tree a.same_tree many in
      record {
        tree = all a.tree;
        after = a.after;
        spells = (many_too, units_spelled a.tree ts a.after many_too a.spells);
        same_tree = ap all a.same_tree;
        left = a.left;
        nested = a.nested;
      }
  again_cond (any cs) n low (many, h) ts rest is =
      let a = again_conjunctions cs n low h ts rest is in
      let many_too = carried AreMany unplaced_conds many_un cs a.tree a.same_tree many in
      record {
        tree = any a.tree;
        after = a.after;
        spells = (many_too, conjunctions_spelled a.tree ts a.after many_too a.spells);
        same_tree = ap any a.same_tree;
        left = a.left;
        nested = a.nested;
      }
  again_cond (exists x c) n low (bound, h) ts rest is =
      again_quantified (codes "exists") exists (λ x c. refl) (λ x c b a s. s) x c (again_binding x) (again_cond c) n low (λ p. refl) bound h ts rest is
  again_cond (every x c) n low (bound, h) ts rest is =
      again_quantified (codes "forall") every (λ x c. refl) (λ x c b a s. s) x c (again_binding x) (again_cond c) n low (λ p. refl) bound h ts rest is

  again_units : (cs : CondsD) (n : ℕ) → n ≤ 64 → UnitsPrint cs n → (ts : List PlacedToken) (rest : List Written) → Are ts (written_units cs rest) → Again SomeUnits unplaced_conds n cs ts rest
  again_units no_conds n low h ts rest is =
      record { tree = no_conds; after = ts; spells = refl; same_tree = refl; left = is; nested = λ k. k }
  again_units (cond c cs) n low (h, more) ts rest is =
      let a = again_in is_unit is_unit_un c (again_cond c) (is_unit c) refl n low h ts _ is in
      let b = again_more_units cs n low more a.after rest a.left in
      joined cond (λ x y. refl) (λ x y b a s. s) n c cs ts _ rest a b

  again_more_units : (cs : CondsD) (n : ℕ) → n ≤ 64 → UnitsPrint cs n → (ts : List PlacedToken) (rest : List Written) → Are ts (written_more_units cs rest) → Again SpellsMoreUnits unplaced_conds n cs ts rest
  again_more_units no_conds n low h ts rest is =
      record { tree = no_conds; after = ts; spells = refl; same_tree = refl; left = is; nested = λ k. k }
  again_more_units (cond c cs) n low (h, more) ts rest is =
      let w = first Word (codes "and") ts _ is in
      let a = again_in is_unit is_unit_un c (again_cond c) (is_unit c) refl n low h w.after _ w.left in
      let b = again_more_units cs n low more a.after rest a.left in
      joined_behind cond (λ x y. refl) Word (codes "and") (λ p x y b a s. (s.0, (p, s.1), s.2)) n low (λ p. refl) c cs ts _ _ rest w a b

  again_conjunctions : (cs : CondsD) (n : ℕ) → n ≤ 64 → ConjunctionsPrint cs n → (ts : List PlacedToken) (rest : List Written) → Are ts (written_conjunctions cs rest) → Again SomeConjunctions unplaced_conds n cs ts rest
  again_conjunctions no_conds n low h ts rest is =
      record { tree = no_conds; after = ts; spells = refl; same_tree = refl; left = is; nested = λ k. k }
  again_conjunctions (cond c cs) n low (h, more) ts rest is =
      let a = again_in is_conjunction is_conjunction_un c (again_cond c) (is_conjunction c) refl n low h ts _ is in
      let b = again_more_conjunctions cs n low more a.after rest a.left in
      joined cond (λ x y. refl) (λ x y b a s. s) n c cs ts _ rest a b

  again_more_conjunctions : (cs : CondsD) (n : ℕ) → n ≤ 64 → ConjunctionsPrint cs n → (ts : List PlacedToken) (rest : List Written) → Are ts (written_more_conjunctions cs rest) → Again SpellsMoreConjunctions unplaced_conds n cs ts rest
  again_more_conjunctions no_conds n low h ts rest is =
      record { tree = no_conds; after = ts; spells = refl; same_tree = refl; left = is; nested = λ k. k }
  again_more_conjunctions (cond c cs) n low (h, more) ts rest is =
      let w = first Word (codes "or") ts _ is in
      let a = again_in is_conjunction is_conjunction_un c (again_cond c) (is_conjunction c) refl n low h w.after _ w.left in
      let b = again_more_conjunctions cs n low more a.after rest a.left in
      joined_behind cond (λ x y. refl) Word (codes "or") (λ p x y b a s. (s.0, (p, s.1), s.2)) n low (λ p. refl) c cs ts _ _ rest w a b

abbrev StmtsAgain : StmtsD → Type 0
StmtsAgain k = (n : ℕ) → n ≤ 64 → StmtsPrint k n → (ts : List PlacedToken) (rest : List Written) → Are ts (written_stmts k rest) → Again SpellsStmts unplaced_stmts n k ts rest

again_block : (k : StmtsD) → StmtsAgain k → (n : ℕ) → n ≤ 64 → Opens n → StmtsPrint k (suc n) → (ts : List PlacedToken) (rest : List Written) → Are ts (block (written_stmts k) rest) → Again (λ x. Block (SpellsStmts x)) unplaced_stmts n k ts rest
again_block k again n low o h ts rest is =
    let t = first Symbol (codes "{") ts _ is in
    let a = again (suc n) o h t.after _ t.left in
    let q = first Symbol (codes "}") a.after rest a.left in
    record {
      tree = a.tree;
      after = q.after;
      spells = (t.after, (t.place, t.is), (a.after, a.spells, (q.place, q.is)));
      same_tree = a.same_tree;
      left = q.left;
      nested = λ d. nest n (suc n) ts t.after t.is refl o (a.nested (close n a.after q.after q.is refl low d));
    }

again_else : (k : StmtsD) → StmtsAgain k → (n : ℕ) → n ≤ 64 → Opens n → StmtsPrint k (suc n) → (ts : List PlacedToken) (rest : List Written) → Are ts (else_clause k (written_stmts k) rest) → Again (λ x. ElseClause x (SpellsStmts x)) unplaced_stmts n k ts rest
again_else no_stmts again n low o h ts rest is =
    record { tree = no_stmts; after = ts; spells = inl (refl, refl); same_tree = refl; left = is; nested = λ k. k }
again_else (stmt a k) again n low o h ts rest is =
    let w = first Word (codes "else") ts _ is in
    let b = again_block (stmt a k) again n low o h w.after rest w.left in
    record {
      tree = b.tree;
      after = b.after;
      spells = inr (w.after, (w.place, w.is), b.spells);
      same_tree = b.same_tree;
      left = b.left;
      nested = λ d. nest n n ts w.after w.is refl low (b.nested d);
    }

-- a condition that may stand in any form
any_form : (c : CondD) (b a : List PlacedToken) → SpellsCond c b a → Enclosed true (SpellsCond c) b a
any_form c b a h = (zero, inl refl, h)

mutual
  again_stmt : (a : StmtD) (n : ℕ) → n ≤ 64 → StmtPrints a n → (ts : List PlacedToken) (rest : List Written) → Are ts (written_stmt a rest) → Again SpellsStmt unplaced_stmt n a ts rest
  again_stmt («let» p x e) n low (token, h) ts rest is =
      let w = first Word (codes "let") ts _ is in
      let t = first Name x w.after _ w.left in
      let m = first Symbol (codes "=") t.after _ t.left in
      let a = again_expr e n low h m.after _ m.left in
      let q = first Symbol (codes ";") a.after rest a.left in
      record {
        tree = «let» t.place x a.tree;
        after = q.after;
        spells = (w.after, (w.place, w.is), (t.after, t.is, (m.after, (m.place, m.is), (a.after, a.spells, (q.place, q.is)))));
        same_tree = ap («let» 0 x) a.same_tree;
        left = q.left;
        nested = λ k. nest n n ts w.after w.is refl low (nest n n w.after t.after t.is refl low (nest n n t.after m.after m.is refl low (a.nested (nest n n a.after q.after q.is refl low k))));
      }
  again_stmt (assign p x e) n low (token, h) ts rest is =
      let t = first Name x ts _ is in
      let m = first Symbol (codes ":=") t.after _ t.left in
      let a = again_expr e n low h m.after _ m.left in
      let q = first Symbol (codes ";") a.after rest a.left in
      record {
        tree = assign t.place x a.tree;
        after = q.after;
        spells = (t.after, t.is, (m.after, (m.place, m.is), (a.after, a.spells, (q.place, q.is))));
        same_tree = ap (assign 0 x) a.same_tree;
        left = q.left;
        nested = λ k. nest n n ts t.after t.is refl low (nest n n t.after m.after m.is refl low (a.nested (nest n n a.after q.after q.is refl low k)));
      }
  again_stmt (add e p x) n low (h, token) ts rest is =
      let w = first Word (codes "add") ts _ is in
      let a = again_expr e n low h w.after _ w.left in
      let m = first Word (codes "to") a.after _ a.left in
      let t = first Name x m.after _ m.left in
      let q = first Symbol (codes ";") t.after rest t.left in
      record {
        tree = add a.tree t.place x;
        after = q.after;
        spells = (w.after, (w.place, w.is), (a.after, a.spells, (m.after, (m.place, m.is), (t.after, t.is, (q.place, q.is)))));
        same_tree = ap (λ y. add y 0 x) a.same_tree;
        left = q.left;
        nested = λ k. nest n n ts w.after w.is refl low (a.nested (nest n n a.after m.after m.is refl low (nest n n m.after t.after t.is refl low (nest n n t.after q.after q.is refl low k))));
      }
  again_stmt (for x c body) n low (bound, guard, o, h) ts rest is =
      let w = first Word (codes "for") ts _ is in
      let b = again_binding x n low bound w.after _ w.left in
      let g = again_where c (again_cond c) n low guard b.after _ b.left in
      let k = again_block body (again_stmts body) n low o h g.after rest g.left in
      record {
        tree = for b.tree g.tree k.tree;
        after = k.after;
        spells = (w.after, (w.place, w.is), (b.after, b.spells, (g.after, g.spells, k.spells)));
        same_tree = λ i. for (b.same_tree i) (g.same_tree i) (k.same_tree i);
        left = k.left;
        nested = λ d. nest n n ts w.after w.is refl low (b.nested (g.nested (k.nested d)));
      }
  again_stmt ((if) c one other) n low (guard, o, h, more) ts rest is =
      let w = first Word (codes "if") ts _ is in
      let g = again_cond c n low guard w.after _ w.left in
      let b = again_block one (again_stmts one) n low o h g.after _ g.left in
      let k = again_else other (again_stmts other) n low o more b.after rest b.left in
      record {
        tree = (if) g.tree b.tree k.tree;
        after = k.after;
        spells = (w.after, (w.place, w.is), (g.after, any_form g.tree w.after g.after g.spells, (b.after, b.spells, k.spells)));
        same_tree = λ i. (if) (g.same_tree i) (b.same_tree i) (k.same_tree i);
        left = k.left;
        nested = λ d. nest n n ts w.after w.is refl low (g.nested (b.nested (k.nested d)));
      }
  again_stmt (while p c j body) n low (guard, count, o, h) ts rest is =
      let w = first Word (codes "while") ts _ is in
      let g = again_cond c n low guard w.after _ w.left in
      let t = first Word (codes "turns") g.after _ g.left in
      let d = first Number (writing.decimal j) t.after _ t.left in
      let k = again_block body (again_stmts body) n low o h d.after rest d.left in
      record {
        tree = while w.place g.tree j k.tree;
        after = k.after;
        spells = (w.after, w.is, (g.after, any_form g.tree w.after g.after g.spells, (t.after, (t.place, t.is), (d.after, (d.place, writing.decimal j, d.is, count.value), k.spells))));
        same_tree = λ i. while 0 (g.same_tree i) j (k.same_tree i);
        left = k.left;
        nested = λ e. nest n n ts w.after w.is refl low (g.nested (nest n n g.after t.after t.is refl low (nest n n t.after d.after d.is refl low (k.nested e))));
      }
  again_stmt (assert p c) n low guard ts rest is =
      let w = first Word (codes "assert") ts _ is in
      let g = again_cond c n low guard w.after _ w.left in
      let q = first Symbol (codes ";") g.after rest g.left in
      record {
        tree = assert w.place g.tree;
        after = q.after;
        spells = (w.after, w.is, (g.after, any_form g.tree w.after g.after g.spells, (q.place, q.is)));
        same_tree = ap (assert 0) g.same_tree;
        left = q.left;
        nested = λ k. nest n n ts w.after w.is refl low (g.nested (nest n n g.after q.after q.is refl low k));
      }
  again_stmt (print p j x) n low token ts rest is =
      let w = first Word (codes "print") ts _ is in
      let t = first Name x w.after _ w.left in
      let q = first Symbol (codes ";") t.after rest t.left in
      record {
        tree = print w.place t.place x;
        after = q.after;
        spells = (w.after, w.is, (t.after, t.is, (q.place, q.is)));
        same_tree = refl;
        left = q.left;
        nested = λ k. nest n n ts w.after w.is refl low (nest n n w.after t.after t.is refl low (nest n n t.after q.after q.is refl low k));
      }

  again_stmts : (k : StmtsD) (n : ℕ) → n ≤ 64 → StmtsPrint k n → (ts : List PlacedToken) (rest : List Written) → Are ts (written_stmts k rest) → Again SpellsStmts unplaced_stmts n k ts rest
  again_stmts no_stmts n low h ts rest is =
      record { tree = no_stmts; after = ts; spells = refl; same_tree = refl; left = is; nested = λ k. k }
  again_stmts (stmt s k) n low (h, more) ts rest is =
      let a = again_stmt s n low h ts _ is in
      let b = again_stmts k n low more a.after rest a.left in
      joined stmt (λ x y. refl) (λ x y b a s. s) n s k ts _ rest a b

low_zero : 0 ≤ 64
low_zero = omega arith

again_names : (ps : List ParamD) → NamesPrint ps → (ts : List PlacedToken) (rest : List Written) → Are ts (written_more_names ps rest) → Again SpellsMoreNames (map unplaced_param) 0 ps ts rest
again_names [] h ts rest is =
    record { tree = []; after = ts; spells = refl; same_tree = refl; left = is; nested = λ k. k }
again_names (x ∷ ps) (token, h) ts rest is =
    let m = first Symbol (codes ",") ts _ is in
    let t = first Name x.name m.after _ m.left in
    let b = again_names ps h t.after rest t.left in
    record {
      tree = record { place = t.place; name = x.name } ∷ b.tree;
      after = b.after;
      spells = (m.after, (m.place, m.is), (t.after, t.is, b.spells));
      same_tree = ap (λ l. unplaced_param x ∷ l) b.same_tree;
      left = b.left;
      nested = λ k. nest 0 0 ts m.after m.is refl low_zero (nest 0 0 m.after t.after t.is refl low_zero (b.nested k));
    }

again_parameters : (ps : List ParamD) → NamesPrint ps → (ts : List PlacedToken) (rest : List Written) → Are ts (written_parameters ps rest) → Again SpellsParameters (map unplaced_param) 0 ps ts rest
again_parameters [] h ts rest is =
    record { tree = []; after = ts; spells = refl; same_tree = refl; left = is; nested = λ k. k }
again_parameters (x ∷ ps) (token, h) ts rest is =
    let w = first Word (codes "parameter") ts _ is in
    let t = first Name x.name w.after _ w.left in
    let b = again_names ps h t.after _ t.left in
    let q = first Symbol (codes ";") b.after rest b.left in
    record {
      tree = record { place = t.place; name = x.name } ∷ b.tree;
      after = q.after;
      spells = (w.after, (w.place, w.is), (t.after, t.is, (b.after, b.spells, (q.place, q.is))));
      same_tree = ap (λ l. unplaced_param x ∷ l) b.same_tree;
      left = q.left;
      nested = λ k. nest 0 0 ts w.after w.is refl low_zero (nest 0 0 w.after t.after t.is refl low_zero (b.nested (nest 0 0 b.after q.after q.is refl low_zero k)));
    }

nothing_left : (ts : List PlacedToken) → map bare ts ≡ [] → ts ≡ []
nothing_left [] e = refl
nothing_left (t ∷ ts) e = absurd (cc)

again_script : (s : ScriptD) → ScriptPrints s → (ts : List PlacedToken) → Are ts (written_script s []) → (t : ScriptD) × SpellsScript t ts × (unplaced t ≡ unplaced s) × IsNestedWithin 0 ts
again_script s h ts is =
    let w = first Word (codes "atoms") ts _ is in
    let o = first Word (structure_word s.ordered) w.after _ w.left in
    let m = first Symbol (codes ";") o.after _ o.left in
    let p = again_parameters s.parameters h.parameters m.after _ m.left in
    let b = again_stmts s.body 0 low_zero h.body p.after [] p.left in
    let none : b.after ≡ [] = nothing_left b.after b.left.these in (
      record { ordered = s.ordered; parameters = p.tree; body = b.tree },
      (w.after, (w.place, w.is), (o.after, (o.place, o.is), (m.after, (m.place, m.is), (p.after, p.spells, subst (λ l. SpellsStmts b.tree p.after l) none b.spells)))),
      (λ i. record { ordered = s.ordered; parameters = p.same_tree i; body = b.same_tree i }),
      nest 0 0 ts w.after w.is refl low_zero (nest 0 0 w.after o.after o.is refl low_zero (nest 0 0 o.after m.after m.is refl low_zero (p.nested (b.nested (subst (IsNestedWithin 0) (sym none) tt))))),
    )

placed_bare : (text : List ℕ) (ts : List Token) → map bare (map (token_at_place text) ts) ≡ spelled text ts
placed_bare text [] = refl
placed_bare text (t ∷ ts) = ap (λ l. record { kind = t.kind; bytes = bytes_of text t } ∷ l) (placed_bare text ts)

-- what is printed of a script that a text spells, spells it
pub printed_again : (s : ScriptD) → IsSpelled s → SpellsUnplaced (printed_script s) s
printed_again s (text, h) =
    let given = map (token_at_place text) h.tokens in
    let left : Left 0 (map (token_at_place text) h.tokens) = record { nested = h.nesting; tokens = are_tokens text h.tokens (tokens_of_cut text _ h.tokens h.cut) } in
    let prints = script_prints s given h.script left in
    let nil : AreWritten [] = record { each_one = All-nil _ } in
    let written = script_writes s prints [] nil in
    let read = written_is_read (written_script s []) written.each_one in
    let is : Are (map (token_at_place (printed_script s)) read.0) (written_script s []) = record { these = placed_bare (printed_script s) read.0 ∙ read.2 } in
    let again = again_script s prints (map (token_at_place (printed_script s)) read.0) is in (
      again.0,
      record {
        tokens = read.0;
        cut = read.1;
        script = again.1;
        nesting = again.3;
        forms = carried StmtsAreWithin unplaced_stmts stmts_un s.body again.0.body (ap (λ (t : ScriptD). t.body) again.2) h.forms;
      },
      again.2,
    )
