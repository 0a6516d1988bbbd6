-- What holds of a script that some text spells, and is needed to write it again: its lists have enough parts, its names,
-- tags and numbers are tokens, and its brackets keep the limit where n are open before it.
use Rattle.std.proofs.Common.{◌≡◌, ℕ, zero, suc, ◌-◌, ◌≤◌, Bool, true, false, List, [], ◌∷◌, map, refl, sym, ap, ◌∙◌, subst, inl, inr, arith}
use Rattle.std.specs.Fmt as writing
use Rattle.std.specs.List.{All}
use Rattle.std.proofs.lemmas.List.Elements.{All-head, All-tail}
use Rattle.std.proofs.lemmas.Bool.{false≢true}
use Rattle.lois_lexer.specs.InText.{IsTokenOf}
use Rattle.lois_lexer.specs.declared.Token.{Token}
use Rattle.lois_lexer.specs.declared.TokenKind.TheVariants.{Name, Tag, Number}
use Rattle.lois_script.specs.Tree.{ExprD, atoms, var, tag, tuple, listed, each, part, apply, ExprsD, no_exprs, expr, BindingD, binding, BindingsD, no_bindings, bind, CondD, truth, falsity, same, differ, below, member, included, empty, not, all, any, exists, every, CondsD, no_conds, cond, StmtD, «let», assign, add, for, if, while, assert, print, StmtsD, no_stmts, stmt, ParamD, ScriptD}
use Rattle.lois_script.specs.Grammar.{PlacedToken, token_at_place, TakesNumber, decimal, IsWide, AreMany, HasArity, Bracketed, Enclosed, is_base, is_unit, is_conjunction, WhereClause, Block, ElseClause, SpellsExpr, SpellsExprs, SpellsListed, SpellsMoreExprs, SpellsBinding, SpellsBindings, SpellsMoreBindings, SpellsCond, SpellsUnits, SpellsMoreUnits, SpellsConjunctions, SpellsMoreConjunctions, SpellsStmt, SpellsStmts, SpellsMoreNames, SpellsParameters, SpellsScript}
use Rattle.lois_script.specs.Limits.{open_after, IsNestedWithin}
use Rattle.lois_script.proofs.Numbers.{IsToken, number_again}

abbrev pub HasSomeExpr : ExprsD → Type 0
HasSomeExpr no_exprs = ⊥
HasSomeExpr (expr e rest) = Unit {0}

abbrev pub HasSomeBinding : BindingsD → Type 0
HasSomeBinding no_bindings = ⊥
HasSomeBinding (bind b rest) = Unit {0}

-- one bracket more may open
abbrev pub Opens : ℕ → Type 0
Opens n = suc n ≤ 64

-- the number is written as a token
pub record NumberPrints (n : ℕ) : Type 0 where
  pub token : IsToken Number (writing.decimal n)
  pub value : decimal (writing.decimal n) ≡ n

-- in brackets where it hasn't the form
abbrev pub EnclosedPrints : Bool → ℕ → (ℕ → Type 0) → Type 0
EnclosedPrints true n P = P n
EnclosedPrints false n P = Opens n × P (suc n)

abbrev mutual
  pub ExprPrints : ExprD → ℕ → Type 0
  ExprPrints (atoms p) n = Unit {0}
  ExprPrints (var p x) n = IsToken Name x
  ExprPrints (tag p x) n = IsToken Tag (39 ∷ x)
  ExprPrints (tuple p es) n = IsWide es × Opens n × ExprsPrint es (suc n)
  ExprPrints (listed p es) n = Opens n × ExprsPrint es (suc n)
  ExprPrints (each p e bs c) n = Opens n × ExprPrints e (suc n) × HasSomeBinding bs × BindingsPrint bs (suc n) × CondPrints c (suc n)
  ExprPrints (part p e i) n = Opens n × ExprPrints e (suc n) × NumberPrints i
  ExprPrints (apply p op es) n = HasArity op es × HasSomeExpr es × Opens n × ExprsPrint es (suc n)

  pub ExprsPrint : ExprsD → ℕ → Type 0
  ExprsPrint no_exprs n = Unit {0}
  ExprsPrint (expr e rest) n = ExprPrints e n × ExprsPrint rest n

  pub BindingPrints : BindingD → ℕ → Type 0
  BindingPrints (binding p x e) n = IsToken Name x × ExprPrints e n

  pub BindingsPrint : BindingsD → ℕ → Type 0
  BindingsPrint no_bindings n = Unit {0}
  BindingsPrint (bind b rest) n = BindingPrints b n × BindingsPrint rest n

  pub CondPrints : CondD → ℕ → Type 0
  CondPrints truth n = Unit {0}
  CondPrints falsity n = Unit {0}
  CondPrints (same e f) n = ExprPrints e n × ExprPrints f n
  CondPrints (differ e f) n = ExprPrints e n × ExprPrints f n
  CondPrints (below p e f) n = ExprPrints e n × ExprPrints f n
  CondPrints (member e f) n = ExprPrints e n × ExprPrints f n
  CondPrints (included e f) n = ExprPrints e n × ExprPrints f n
  CondPrints (empty e) n = Opens n × ExprPrints e (suc n)
  CondPrints (not c) n = EnclosedPrints (is_base c) n (CondPrints c)
  CondPrints (all cs) n = AreMany cs × UnitsPrint cs n
  CondPrints (any cs) n = AreMany cs × ConjunctionsPrint cs n
  CondPrints (exists b c) n = BindingPrints b n × EnclosedPrints (is_base c) n (CondPrints c)
  CondPrints (every b c) n = BindingPrints b n × EnclosedPrints (is_base c) n (CondPrints c)

  pub UnitsPrint : CondsD → ℕ → Type 0
  UnitsPrint no_conds n = Unit {0}
  UnitsPrint (cond c rest) n = EnclosedPrints (is_unit c) n (CondPrints c) × UnitsPrint rest n

  pub ConjunctionsPrint : CondsD → ℕ → Type 0
  ConjunctionsPrint no_conds n = Unit {0}
  ConjunctionsPrint (cond c rest) n = EnclosedPrints (is_conjunction c) n (CondPrints c) × ConjunctionsPrint rest n

abbrev mutual
  pub StmtPrints : StmtD → ℕ → Type 0
  StmtPrints («let» p x e) n = IsToken Name x × ExprPrints e n
  StmtPrints (assign p x e) n = IsToken Name x × ExprPrints e n
  StmtPrints (add e p x) n = ExprPrints e n × IsToken Name x
  StmtPrints (for b c body) n = BindingPrints b n × CondPrints c n × Opens n × StmtsPrint body (suc n)
  StmtPrints ((if) c one other) n = CondPrints c n × Opens n × StmtsPrint one (suc n) × StmtsPrint other (suc n)
  StmtPrints (while p c k body) n = CondPrints c n × NumberPrints k × Opens n × StmtsPrint body (suc n)
  StmtPrints (assert p c) n = CondPrints c n
  StmtPrints (print p q x) n = IsToken Name x

  pub StmtsPrint : StmtsD → ℕ → Type 0
  StmtsPrint no_stmts n = Unit {0}
  StmtsPrint (stmt a rest) n = StmtPrints a n × StmtsPrint rest n

abbrev pub NamesPrint : List ParamD → Type 0
NamesPrint [] = Unit {0}
NamesPrint (x ∷ rest) = IsToken Name x.name × NamesPrint rest

pub record ScriptPrints (s : ScriptD) : Type 0 where
  pub parameters : NamesPrint s.parameters
  pub body : StmtsPrint s.body 0

-- with fewer brackets open before it
lower_opens : (n : ℕ) → Opens (suc n) → Opens n
lower_opens n h = omega arith

lower_enclosed : (b : Bool) (n : ℕ) (P : ℕ → Type 0) → ((k : ℕ) → P (suc k) → P k) → EnclosedPrints b (suc n) P → EnclosedPrints b n P
lower_enclosed true n P lower h = lower n h
lower_enclosed false n P lower h = (lower_opens n h.0, lower (suc n) h.1)

mutual
  lower_expr : (e : ExprD) (n : ℕ) → ExprPrints e (suc n) → ExprPrints e n
  lower_expr (atoms p) n h = h
  lower_expr (var p x) n h = h
  lower_expr (tag p x) n h = h
  lower_expr (tuple p es) n (wide, o, h) = (wide, lower_opens n o, lower_exprs es (suc n) h)
  lower_expr (listed p es) n (o, h) = (lower_opens n o, lower_exprs es (suc n) h)
  lower_expr (each p e bs c) n (o, h, some, bs_h, c_h) = (lower_opens n o, lower_expr e (suc n) h, some, lower_bindings bs (suc n) bs_h, lower_cond c (suc n) c_h)
  lower_expr (part p e i) n (o, h, number) = (lower_opens n o, lower_expr e (suc n) h, number)
  lower_expr (apply p op es) n (arity, some, o, h) = (arity, some, lower_opens n o, lower_exprs es (suc n) h)

  lower_exprs : (es : ExprsD) (n : ℕ) → ExprsPrint es (suc n) → ExprsPrint es n
  lower_exprs no_exprs n h = h
  lower_exprs (expr e rest) n (h, k) = (lower_expr e n h, lower_exprs rest n k)

  lower_binding : (b : BindingD) (n : ℕ) → BindingPrints b (suc n) → BindingPrints b n
  lower_binding (binding p x e) n (name, h) = (name, lower_expr e n h)

  lower_bindings : (bs : BindingsD) (n : ℕ) → BindingsPrint bs (suc n) → BindingsPrint bs n
  lower_bindings no_bindings n h = h
  lower_bindings (bind b rest) n (h, k) = (lower_binding b n h, lower_bindings rest n k)

  lower_cond : (c : CondD) (n : ℕ) → CondPrints c (suc n) → CondPrints c n
  lower_cond truth n h = h
  lower_cond falsity n h = h
  lower_cond (same e f) n (h, k) = (lower_expr e n h, lower_expr f n k)
  lower_cond (differ e f) n (h, k) = (lower_expr e n h, lower_expr f n k)
  lower_cond (below p e f) n (h, k) = (lower_expr e n h, lower_expr f n k)
  lower_cond (member e f) n (h, k) = (lower_expr e n h, lower_expr f n k)
  lower_cond (included e f) n (h, k) = (lower_expr e n h, lower_expr f n k)
  lower_cond (empty e) n (o, h) = (lower_opens n o, lower_expr e (suc n) h)
  lower_cond (not c) n h = lower_enclosed (is_base c) n (CondPrints c) (lower_cond c) h
  lower_cond (all cs) n (many, h) = (many, lower_units cs n h)
  lower_cond (any cs) n (many, h) = (many, lower_conjunctions cs n h)
  lower_cond (exists b c) n (h, k) = (lower_binding b n h, lower_enclosed (is_base c) n (CondPrints c) (lower_cond c) k)
  lower_cond (every b c) n (h, k) = (lower_binding b n h, lower_enclosed (is_base c) n (CondPrints c) (lower_cond c) k)

  lower_units : (cs : CondsD) (n : ℕ) → UnitsPrint cs (suc n) → UnitsPrint cs n
  lower_units no_conds n h = h
  lower_units (cond c rest) n (h, k) = (lower_enclosed (is_unit c) n (CondPrints c) (lower_cond c) h, lower_units rest n k)

  lower_conjunctions : (cs : CondsD) (n : ℕ) → ConjunctionsPrint cs (suc n) → ConjunctionsPrint cs n
  lower_conjunctions no_conds n h = h
  lower_conjunctions (cond c rest) n (h, k) = (lower_enclosed (is_conjunction c) n (CondPrints c) (lower_cond c) h, lower_conjunctions rest n k)

abbrev pub AreTokens : List PlacedToken → Type 0
AreTokens [] = Unit {0}
AreTokens (t ∷ ts) = IsToken t.kind t.bytes × AreTokens ts

pub are_tokens : (text : List ℕ) (ts : List Token) → All (IsTokenOf text) ts → AreTokens (map (token_at_place text) ts)
are_tokens text [] h = tt
are_tokens text (t ∷ ts) h =
    let one : IsTokenOf text t = All-head (IsTokenOf text) t ts h in
    (record { form = one.form; limits = one.limits }, are_tokens text ts (All-tail (IsTokenOf text) t ts h))

-- what is known of the tokens that are left, where n brackets are open before them
pub record Left (n : ℕ) (b : List PlacedToken) : Type 0 where
  pub nested : IsNestedWithin n b
  pub tokens : AreTokens b

record Past (n : ℕ) (t : PlacedToken) (m : List PlacedToken) : Type 0 where
  token : IsToken t.kind t.bytes
  low : n ≤ 64
  left : Left n m

past : (n k : ℕ) (t : PlacedToken) (b m : List PlacedToken) → b ≡ t ∷ m → open_after n t ≡ k → Left n b → Past k t m
past n k t b m e after h =
    let l : Left n (t ∷ m) = subst (Left n) e h in
    record {
      token = l.tokens.0;
      low = subst (λ (i : ℕ). i ≤ 64) after l.nested.0;
      left = record { nested = subst (λ (i : ℕ). IsNestedWithin i m) after l.nested.1; tokens = l.tokens.1 };
    }

pub one_back : (n : ℕ) → suc n - 1 ≡ n
one_back n = omega arith

plain : (n : ℕ) {t : PlacedToken} (b m : List PlacedToken) → b ≡ t ∷ m → open_after n t ≡ n → Left n b → Left n m
plain n {t} b m e after h = (past n n t b m e after h).left

opens : (n : ℕ) {t : PlacedToken} (b m : List PlacedToken) → b ≡ t ∷ m → open_after n t ≡ suc n → Left n b → Opens n × Left (suc n) m
opens n {t} b m e after h = let p = past n (suc n) t b m e after h in (p.low, p.left)

closes : (n : ℕ) {t : PlacedToken} (b m : List PlacedToken) → b ≡ t ∷ m → open_after (suc n) t ≡ suc n - 1 → Left (suc n) b → Left n m
closes n {t} b m e after h = (past (suc n) n t b m e (after ∙ one_back n) h).left

token_at : (n : ℕ) {t : PlacedToken} (b m : List PlacedToken) → b ≡ t ∷ m → Left n b → IsToken t.kind t.bytes
token_at n {t} b m e h = (past n (open_after n t) t b m e refl h).token

-- a condition in some brackets prints, and in at least one pair where it must
abbrev Derives : CondD → Type 0
Derives c = (n : ℕ) (b m : List PlacedToken) → SpellsCond c b m → Left n b → CondPrints c n × Left n m

bracketed : (c : CondD) → Derives c → (j n : ℕ) (b m : List PlacedToken) → Bracketed j (SpellsCond c) b m → Left n b → CondPrints c n × Left n m
bracketed c derives zero n b m h l = derives n b m h l
bracketed c derives (suc j) n b m (u, (p, s), (v, h, (q, t))) l =
    let opened = opens n b u s refl l in
    let inside = bracketed c derives j (suc n) u v h opened.1 in
    (lower_cond c n inside.0, closes n v m t refl inside.1)

enclosed : (c : CondD) (form : Bool) → Derives c → (n : ℕ) (b m : List PlacedToken) → Enclosed form (SpellsCond c) b m → Left n b → EnclosedPrints form n (CondPrints c) × Left n m
enclosed c true derives n b m (j, need, h) l = bracketed c derives j n b m h l
enclosed c false derives n b m (suc j, need, (u, (p, s), (v, h, (q, t)))) l =
    let opened = opens n b u s refl l in
    let inside = bracketed c derives j (suc n) u v h opened.1 in
    ((opened.0, inside.0), closes n v m t refl inside.1)
enclosed c false derives n b m (zero, inl h, x) l = absurd (false≢true h)
enclosed c false derives n b m (zero, inr h, x) l = absurd (omega arith)

where_part : (c : CondD) → Derives c → (n : ℕ) (b m : List PlacedToken) → WhereClause c (SpellsCond c) b m → Left n b → CondPrints c n × Left n m
where_part c derives n b m (inl (is, e)) l = (subst (λ x. CondPrints x n) (sym is) tt, subst (Left n) e l)
where_part c derives n b m (inr (u, (p, s), h)) l = enclosed c true derives n u m h (plain n b u s refl l)

number_part : (i n : ℕ) (b m : List PlacedToken) → TakesNumber i b m → Left n b → NumberPrints i × Left n m
number_part i n b m (p, ds, e, v) l =
    let token : IsToken Number ds = token_at n b m e l in
    let again : writing.decimal i ≡ ds = ap writing.decimal (sym v) ∙ number_again ds token in
    (record { token = subst (IsToken Number) (sym again) token; value = ap decimal again ∙ v }, plain n b m e refl l)

abbrev ExprDerives : ExprD → Type 0
ExprDerives e = (n : ℕ) (b m : List PlacedToken) → SpellsExpr e b m → Left n b → ExprPrints e n × Left n m

sides : (e f : ExprD) → ExprDerives e → ExprDerives f → (n : ℕ) (b u v m : List PlacedToken) (t : PlacedToken) → SpellsExpr e b u → u ≡ t ∷ v → open_after n t ≡ n → SpellsExpr f v m → Left n b → (ExprPrints e n × ExprPrints f n) × Left n m
sides e f one other n b u v m t h s after k l =
    let left = one n b u h l in
    let right = other n v m k (plain n u v s after left.1) in
    ((left.0, right.0), right.1)

mutual
  pub expr_prints : (e : ExprD) (n : ℕ) (b m : List PlacedToken) → SpellsExpr e b m → Left n b → ExprPrints e n × Left n m
  expr_prints (atoms p) n b m h l = (tt, plain n b m h refl l)
  expr_prints (var p x) n b m h l = (token_at n b m h l, plain n b m h refl l)
  expr_prints (tag p x) n b m h l = (token_at n b m h l, plain n b m h refl l)
  expr_prints (tuple p es) n b m (wide, (u, s, (v, h, (q, t)))) l =
      let opened = opens n b u s refl l in
      let inside = exprs_print es (suc n) u v h opened.1 in
      ((wide, opened.0, inside.1), closes n v m t refl inside.2)
  expr_prints (listed p es) n b m (u, s, (v, h, (q, t))) l =
      let opened = opens n b u s refl l in
      let inside = listed_prints es (suc n) u v h opened.1 in
      ((opened.0, inside.0), closes n v m t refl inside.1)
  expr_prints (each p e bs c) n b m (u, s, (v, h, (w, (i, s2), (x, binds, (y, clause, (q, t)))))) l =
      let opened = opens n b u s refl l in
      let item = expr_prints e (suc n) u v h opened.1 in
      let ranges = bindings_print bs (suc n) w x binds (plain (suc n) v w s2 refl item.1) in
      let guard = where_part c (cond_prints c) (suc n) x y clause ranges.2 in
      ((opened.0, item.0, ranges.0, ranges.1, guard.0), closes n y m t refl guard.1)
  expr_prints (part p e i) n b m (u, s, (v, (p1, s2), (w, h, (x, (p2, s3), (y, number, (q, t)))))) l =
      let opened = opens n u v s2 refl (plain n b u s refl l) in
      let item = expr_prints e (suc n) v w h opened.1 in
      let count = number_part i (suc n) x y number (plain (suc n) w x s3 refl item.1) in
      ((opened.0, item.0, count.0), closes n y m t refl count.1)
  expr_prints (apply p op es) n b m (arity, (u, s, (v, (p1, s2), (w, h, (q, t))))) l =
      let opened = opens n u v s2 refl (plain n b u s refl l) in
      let inside = exprs_print es (suc n) v w h opened.1 in
      ((arity, inside.0, opened.0, inside.1), closes n w m t refl inside.2)

  exprs_print : (es : ExprsD) (n : ℕ) (b m : List PlacedToken) → SpellsExprs es b m → Left n b → HasSomeExpr es × ExprsPrint es n × Left n m
  exprs_print no_exprs n b m h l = absurd h
  exprs_print (expr e rest) n b m (u, h, k) l =
      let first = expr_prints e n b u h l in
      let others = more_exprs_print rest n u m k first.1 in
      (tt, (first.0, others.0), others.1)

  listed_prints : (es : ExprsD) (n : ℕ) (b m : List PlacedToken) → SpellsListed es b m → Left n b → ExprsPrint es n × Left n m
  listed_prints no_exprs n b m e l = (tt, subst (Left n) e l)
  listed_prints (expr e rest) n b m (u, h, k) l =
      let first = expr_prints e n b u h l in
      let others = more_exprs_print rest n u m k first.1 in
      ((first.0, others.0), others.1)

  more_exprs_print : (es : ExprsD) (n : ℕ) (b m : List PlacedToken) → SpellsMoreExprs es b m → Left n b → ExprsPrint es n × Left n m
  more_exprs_print no_exprs n b m e l = (tt, subst (Left n) e l)
  more_exprs_print (expr e rest) n b m (u, (p, s), (v, h, k)) l =
      let first = expr_prints e n u v h (plain n b u s refl l) in
      let others = more_exprs_print rest n v m k first.1 in
      ((first.0, others.0), others.1)

  pub binding_prints : (x : BindingD) (n : ℕ) (b m : List PlacedToken) → SpellsBinding x b m → Left n b → BindingPrints x n × Left n m
  binding_prints (binding p x e) n b m (u, s, (v, (q, t), h)) l =
      let from = expr_prints e n v m h (plain n u v t refl (plain n b u s refl l)) in
      ((token_at n b u s l, from.0), from.1)

  bindings_print : (xs : BindingsD) (n : ℕ) (b m : List PlacedToken) → SpellsBindings xs b m → Left n b → HasSomeBinding xs × BindingsPrint xs n × Left n m
  bindings_print no_bindings n b m h l = absurd h
  bindings_print (bind x rest) n b m (u, h, k) l =
      let first = binding_prints x n b u h l in
      let others = more_bindings_print rest n u m k first.1 in
      (tt, (first.0, others.0), others.1)

  more_bindings_print : (xs : BindingsD) (n : ℕ) (b m : List PlacedToken) → SpellsMoreBindings xs b m → Left n b → BindingsPrint xs n × Left n m
  more_bindings_print no_bindings n b m e l = (tt, subst (Left n) e l)
  more_bindings_print (bind x rest) n b m (u, (p, s), (v, h, k)) l =
      let first = binding_prints x n u v h (plain n b u s refl l) in
      let others = more_bindings_print rest n v m k first.1 in
      ((first.0, others.0), others.1)

  pub cond_prints : (c : CondD) (n : ℕ) (b m : List PlacedToken) → SpellsCond c b m → Left n b → CondPrints c n × Left n m
  cond_prints truth n b m (p, s) l = (tt, plain n b m s refl l)
  cond_prints falsity n b m (p, s) l = (tt, plain n b m s refl l)
  cond_prints (same e f) n b m (u, h, (v, (p, s), k)) l = sides e f (expr_prints e) (expr_prints f) n b u v m _ h s refl k l
  cond_prints (differ e f) n b m (u, h, (v, (p, s), k)) l = sides e f (expr_prints e) (expr_prints f) n b u v m _ h s refl k l
  cond_prints (below q e f) n b m (u, h, (v, s, k)) l = sides e f (expr_prints e) (expr_prints f) n b u v m _ h s refl k l
  cond_prints (member e f) n b m (u, h, (v, (p, s), k)) l = sides e f (expr_prints e) (expr_prints f) n b u v m _ h s refl k l
  cond_prints (included e f) n b m (u, h, (v, (p, s), k)) l = sides e f (expr_prints e) (expr_prints f) n b u v m _ h s refl k l
  cond_prints (empty e) n b m (u, (p, s), (v, (p1, s2), (w, h, (q, t)))) l =
      let opened = opens n u v s2 refl (plain n b u s refl l) in
      let inside = expr_prints e (suc n) v w h opened.1 in
      ((opened.0, inside.0), closes n w m t refl inside.1)
  cond_prints (not c) n b m (u, (p, s), h) l = enclosed c (is_base c) (cond_prints c) n u m h (plain n b u s refl l)
  cond_prints (all cs) n b m (many, h) l = let units = units_print cs n b m h l in ((many, units.0), units.1)
  cond_prints (any cs) n b m (many, h) l = let conjs = conjunctions_print cs n b m h l in ((many, conjs.0), conjs.1)
  cond_prints (exists x c) n b m (u, (p, s), (v, bound, (w, (q, t), h))) l =
      let range = binding_prints x n u v bound (plain n b u s refl l) in
      let inside = enclosed c (is_base c) (cond_prints c) n w m h (plain n v w t refl range.1) in
      ((range.0, inside.0), inside.1)
  cond_prints (every x c) n b m (u, (p, s), (v, bound, (w, (q, t), h))) l =
      let range = binding_prints x n u v bound (plain n b u s refl l) in
      let inside = enclosed c (is_base c) (cond_prints c) n w m h (plain n v w t refl range.1) in
      ((range.0, inside.0), inside.1)

  units_print : (cs : CondsD) (n : ℕ) (b m : List PlacedToken) → SpellsUnits cs b m → Left n b → UnitsPrint cs n × Left n m
  units_print no_conds n b m h l = absurd h
  units_print (cond c rest) n b m (u, h, k) l =
      let first = enclosed c (is_unit c) (cond_prints c) n b u h l in
      let others = more_units_print rest n u m k first.1 in
      ((first.0, others.0), others.1)

  more_units_print : (cs : CondsD) (n : ℕ) (b m : List PlacedToken) → SpellsMoreUnits cs b m → Left n b → UnitsPrint cs n × Left n m
  more_units_print no_conds n b m e l = (tt, subst (Left n) e l)
  more_units_print (cond c rest) n b m (u, (p, s), (v, h, k)) l =
      let first = enclosed c (is_unit c) (cond_prints c) n u v h (plain n b u s refl l) in
      let others = more_units_print rest n v m k first.1 in
      ((first.0, others.0), others.1)

  conjunctions_print : (cs : CondsD) (n : ℕ) (b m : List PlacedToken) → SpellsConjunctions cs b m → Left n b → ConjunctionsPrint cs n × Left n m
  conjunctions_print no_conds n b m h l = absurd h
  conjunctions_print (cond c rest) n b m (u, h, k) l =
      let first = enclosed c (is_conjunction c) (cond_prints c) n b u h l in
      let others = more_conjunctions_print rest n u m k first.1 in
      ((first.0, others.0), others.1)

  more_conjunctions_print : (cs : CondsD) (n : ℕ) (b m : List PlacedToken) → SpellsMoreConjunctions cs b m → Left n b → ConjunctionsPrint cs n × Left n m
  more_conjunctions_print no_conds n b m e l = (tt, subst (Left n) e l)
  more_conjunctions_print (cond c rest) n b m (u, (p, s), (v, h, k)) l =
      let first = enclosed c (is_conjunction c) (cond_prints c) n u v h (plain n b u s refl l) in
      let others = more_conjunctions_print rest n v m k first.1 in
      ((first.0, others.0), others.1)

abbrev ListDerives : StmtsD → Type 0
ListDerives k = (n : ℕ) (b m : List PlacedToken) → SpellsStmts k b m → Left n b → StmtsPrint k n × Left n m

block_prints : (k : StmtsD) → ListDerives k → (n : ℕ) (b m : List PlacedToken) → Block (SpellsStmts k) b m → Left n b → Opens n × StmtsPrint k (suc n) × Left n m
block_prints k derives n b m (u, (p, s), (v, h, (q, t))) l =
    let opened = opens n b u s refl l in
    let inside = derives (suc n) u v h opened.1 in
    (opened.0, inside.0, closes n v m t refl inside.1)

else_prints : (k : StmtsD) → ListDerives k → (n : ℕ) (b m : List PlacedToken) → ElseClause k (SpellsStmts k) b m → Left n b → StmtsPrint k (suc n) × Left n m
else_prints k derives n b m (inl (is, e)) l = (subst (λ x. StmtsPrint x (suc n)) (sym is) tt, subst (Left n) e l)
else_prints k derives n b m (inr (u, (p, s), h)) l = let block = block_prints k derives n u m h (plain n b u s refl l) in (block.1, block.2)

mutual
  stmt_prints : (a : StmtD) (n : ℕ) (b m : List PlacedToken) → SpellsStmt a b m → Left n b → StmtPrints a n × Left n m
  stmt_prints («let» p x e) n b m (u, (p0, s0), (v, s1, (w, (p2, s2), (z, h, (p3, s3))))) l =
      let at_u = plain n b u s0 refl l in
      let given = expr_prints e n w z h (plain n v w s2 refl (plain n u v s1 refl at_u)) in
      ((token_at n u v s1 at_u, given.0), plain n z m s3 refl given.1)
  stmt_prints (assign p x e) n b m (v, s1, (w, (p2, s2), (z, h, (p3, s3)))) l =
      let given = expr_prints e n w z h (plain n v w s2 refl (plain n b v s1 refl l)) in
      ((token_at n b v s1 l, given.0), plain n z m s3 refl given.1)
  stmt_prints (add e p x) n b m (u, (p0, s0), (v, h, (w, (p1, s1), (z, s2, (p3, s3))))) l =
      let given = expr_prints e n u v h (plain n b u s0 refl l) in
      let at_w = plain n v w s1 refl given.1 in
      ((given.0, token_at n w z s2 at_w), plain n z m s3 refl (plain n w z s2 refl at_w))
  stmt_prints (for x c body) n b m (u, (p0, s0), (v, bound, (w, clause, inside))) l =
      let range = binding_prints x n u v bound (plain n b u s0 refl l) in
      let guard = where_part c (cond_prints c) n v w clause range.1 in
      let block = block_prints body (stmts_print body) n w m inside guard.1 in
      ((range.0, guard.0, block.0, block.1), block.2)
  stmt_prints ((if) c one other) n b m (u, (p0, s0), (v, test, (w, inside, more))) l =
      let guard = enclosed c true (cond_prints c) n u v test (plain n b u s0 refl l) in
      let block = block_prints one (stmts_print one) n v w inside guard.1 in
      let rest = else_prints other (stmts_print other) n w m more block.2 in
      ((guard.0, block.0, block.1, rest.0), rest.1)
  stmt_prints (while p c k body) n b m (u, s0, (v, test, (w, (p1, s1), (z, number, inside)))) l =
      let guard = enclosed c true (cond_prints c) n u v test (plain n b u s0 refl l) in
      let turns = number_part k n w z number (plain n v w s1 refl guard.1) in
      let block = block_prints body (stmts_print body) n z m inside turns.1 in
      ((guard.0, turns.0, block.0, block.1), block.2)
  stmt_prints (assert p c) n b m (u, s0, (v, test, (p1, s1))) l =
      let guard = enclosed c true (cond_prints c) n u v test (plain n b u s0 refl l) in
      (guard.0, plain n v m s1 refl guard.1)
  stmt_prints (print p k x) n b m (u, s0, (v, s1, (p2, s2))) l =
      let at_u = plain n b u s0 refl l in
      (token_at n u v s1 at_u, plain n v m s2 refl (plain n u v s1 refl at_u))

  stmts_print : (k : StmtsD) (n : ℕ) (b m : List PlacedToken) → SpellsStmts k b m → Left n b → StmtsPrint k n × Left n m
  stmts_print no_stmts n b m e l = (tt, subst (Left n) e l)
  stmts_print (stmt a rest) n b m (u, h, k) l =
      let first = stmt_prints a n b u h l in
      let others = stmts_print rest n u m k first.1 in
      ((first.0, others.0), others.1)

names_print : (ps : List ParamD) (n : ℕ) (b m : List PlacedToken) → SpellsMoreNames ps b m → Left n b → NamesPrint ps × Left n m
names_print [] n b m e l = (tt, subst (Left n) e l)
names_print (x ∷ ps) n b m (u, (p, s), (v, t, more)) l =
    let at_u = plain n b u s refl l in
    let others = names_print ps n v m more (plain n u v t refl at_u) in
    ((token_at n u v t at_u, others.0), others.1)

parameters_print : (ps : List ParamD) (n : ℕ) (b m : List PlacedToken) → SpellsParameters ps b m → Left n b → NamesPrint ps × Left n m
parameters_print [] n b m e l = (tt, subst (Left n) e l)
parameters_print (x ∷ ps) n b m (u, (p, s), (v, t, (w, more, (q, r)))) l =
    let at_u = plain n b u s refl l in
    let others = names_print ps n v w more (plain n u v t refl at_u) in
    ((token_at n u v t at_u, others.0), plain n w m r refl others.1)

pub script_prints : (s : ScriptD) (b : List PlacedToken) → SpellsScript s b → Left 0 b → ScriptPrints s
script_prints s b (u, (p0, s0), (v, (p1, s1), (w, (p2, s2), (x, params, body)))) l =
    let names = parameters_print s.parameters 0 w x params (plain 0 v w s2 refl (plain 0 u v s1 refl (plain 0 b u s0 refl l))) in
    record { parameters = names.0; body = (stmts_print s.body 0 x [] body names.1).0 }
