-- One expression and one condition: the parts without limits on their length.
use Rattle.std.proofs.Common.{◌≡◌, ℕ, zero, suc, ◌<◌, Bool, true, false, cond as pick, ◌∷◌, length, codes, refl, sym, ap, ◌∙◌, subst, inl, inr, arith}
use Rattle.std.specs.Prelude.{nat_le}
use Rattle.std.specs.Str.{bytes_eq}
use Rattle.lois_lexer.specs.declared.TokenKind.TheVariants.{Word}
use Rattle.lois_script.specs.Tree.{ExprD, atoms, var, tag, tuple, listed, each, part, apply, ExprsD, no_exprs, expr, BindingD, CondD, truth, falsity, same, differ, below, member, included, empty, not, all, any, exists, every}
use Rattle.lois_script.specs.Grammar.{PlacedToken, ◌▹◌, TakesWord, TakesSymbol, TakesNumber, WhereClause, SpellsExpr, SpellsExprs, SpellsListed, SpellsMoreExprs, SpellsBinding, SpellsBindings, SpellsCond}
use Rattle.lois_descent.proofs.Keywords.{one_operation}
use Rattle.lois_descent.proofs.Lengths.{Tokens, expr_shrinks, binding_shrinks, bindings_shrink}
use Rattle.lois_descent.proofs.FirstTokens.{is_symbol, Avoids, avoids, never_avoids, one_token, token_class, first_class, expr_class, expr_first}
use Rattle.lois_descent.proofs.OneExpression.{is_comma, is_where, ends_before, Base, UnitCond, Condition, Decides, no_form, base_as_unit, number_once, exprs, binding_once, bindings, condition_once, where_once}

-- the condition that a relation between two expressions is
abbrev related : PlacedToken → ExprD → ExprD → CondD
related t e f =
    pick (bytes_eq t.bytes (codes "=")) (same e f) (
    pick (bytes_eq t.bytes (codes "!=")) (differ e f) (
    pick (bytes_eq t.bytes (codes "<")) (below t.place e f) (
    pick (bytes_eq t.bytes (codes "in")) (member e f) (included e f))))

-- How a unit is spelled, by its first token.
data UnitForm (b m : Tokens) : CondD → Type 0 where
  in_brackets : (c : CondD) → (TakesSymbol (codes "[") ▹ Condition c ▹ TakesSymbol (codes "]")) b m → UnitForm b m c
  is_truth : TakesWord (codes "true") b m → UnitForm b m truth
  is_falsity : TakesWord (codes "false") b m → UnitForm b m falsity
  is_empty : (e : ExprD) → (TakesWord (codes "empty") ▹ TakesSymbol (codes "(") ▹ SpellsExpr e ▹ TakesSymbol (codes ")")) b m → UnitForm b m (empty e)
  is_not : (c : CondD) → (TakesWord (codes "not") ▹ Base c) b m → UnitForm b m (not c)
  is_exists : (x : BindingD) (c : CondD) → (TakesWord (codes "exists") ▹ SpellsBinding x ▹ TakesSymbol (codes ":") ▹ Base c) b m → UnitForm b m (exists x c)
  is_every : (x : BindingD) (c : CondD) → (TakesWord (codes "forall") ▹ SpellsBinding x ▹ TakesSymbol (codes ":") ▹ Base c) b m → UnitForm b m (every x c)
  is_relation : (e f : ExprD) (t : PlacedToken) (u v : Tokens) → SpellsExpr e b u → u ≡ t ∷ v → SpellsExpr f v m → UnitForm b m (related t e f)

unit_form : (c : CondD) (b m : Tokens) → UnitCond c b m → UnitForm b m c
unit_form c b m (suc n, need, (u, open_bracket, (v, inside, close_bracket))) = in_brackets c (u, open_bracket, (v, (n, inl refl, inside), close_bracket))
unit_form truth b m (zero, need, h) = is_truth h
unit_form falsity b m (zero, need, h) = is_falsity h
unit_form (same e f) b m (zero, need, (u, one, (v, (p, t), other))) = is_relation e f _ u v one t other
unit_form (differ e f) b m (zero, need, (u, one, (v, (p, t), other))) = is_relation e f _ u v one t other
unit_form (below q e f) b m (zero, need, (u, one, (v, t, other))) = is_relation e f _ u v one t other
unit_form (member e f) b m (zero, need, (u, one, (v, (p, t), other))) = is_relation e f _ u v one t other
unit_form (included e f) b m (zero, need, (u, one, (v, (p, t), other))) = is_relation e f _ u v one t other
unit_form (empty e) b m (zero, need, h) = is_empty e h
unit_form (not c) b m (zero, need, h) = is_not c h
unit_form (all cs) b m (zero, need, h) = absurd (no_form need)
unit_form (any cs) b m (zero, need, h) = absurd (no_form need)
unit_form (exists x c) b m (zero, need, h) = is_exists x c h
unit_form (every x c) b m (zero, need, h) = is_every x c h

-- 0 for an expression
abbrev begin_class : ℕ → ℕ
begin_class n = pick (nat_le n 6) 0 n

abbrev form_class : {b m : Tokens} {c : CondD} → UnitForm b m c → ℕ
form_class (in_brackets c h) = 7
form_class (is_truth h) = 8
form_class (is_falsity h) = 9
form_class (is_empty e h) = 10
form_class (is_not c h) = 11
form_class (is_exists x c h) = 12
form_class (is_every x c h) = 13
form_class (is_relation e f t u v one is other) = 0

expr_begins : (e : ExprD) → begin_class (expr_class e) ≡ 0
expr_begins (atoms p) = refl
expr_begins (var p x) = refl
expr_begins (tag p x) = refl
expr_begins (tuple p es) = refl
expr_begins (listed p es) = refl
expr_begins (each p e bs c) = refl
expr_begins (part p e n) = refl
expr_begins (apply p op es) = refl

form_first : (b m : Tokens) (c : CondD) (f : UnitForm b m c) → begin_class (first_class b) ≡ form_class f
form_first b m c (in_brackets d h) = ap (λ l. begin_class (first_class l)) h.1.1
form_first b m c (is_truth h) = ap (λ l. begin_class (first_class l)) h.1
form_first b m c (is_falsity h) = ap (λ l. begin_class (first_class l)) h.1
form_first b m c (is_empty e h) = ap (λ l. begin_class (first_class l)) h.1.1
form_first b m c (is_not d h) = ap (λ l. begin_class (first_class l)) h.1.1
form_first b m c (is_exists x d h) = ap (λ l. begin_class (first_class l)) h.1.1
form_first b m c (is_every x d h) = ap (λ l. begin_class (first_class l)) h.1.1
form_first b m c (is_relation e f t u v one is other) = ap begin_class (expr_first e b u one) ∙ expr_begins e

pub no_expr_at : (b m : Tokens) (e : ExprD) → SpellsExpr e b m → first_class b ≡ 21 → ⊥
no_expr_at b m e h other =
    let this : expr_class e ≡ 21 = sym (expr_first e b m h) ∙ other in
    let begins : begin_class 21 ≡ 0 = ap begin_class (sym this) ∙ expr_begins e in
    absurd (omega arith)

-- what a clause begins with, where a closing symbol follows it
where_avoids : (c : CondD) (b m : Tokens) {a : Tokens} {t : PlacedToken} (p : PlacedToken → Bool) → WhereClause c (SpellsCond c) b m → m ≡ t ∷ a → p t ≡ false → ((q : ℕ) → p (record { kind = Word; bytes = codes "where"; place = q }) ≡ false) → Avoids p b
where_avoids c b m {a} {t} p (inl (is, e)) close no_close no_where = avoids p t b a (e ∙ close) no_close
where_avoids c b m {a} {t} p (inr (u, (q, s), h)) close no_close no_where = avoids p _ b u s (no_where q)

module _ (k : ℕ) (D : Decides k) where
  listed_once : (es fs : ExprsD) (b m n : Tokens) → length b < k → Avoids is_comma m → Avoids is_comma n → first_class m ≡ 21 → first_class n ≡ 21 → SpellsListed es b m → SpellsListed fs b n → (es ≡ fs) × (m ≡ n)
  listed_once no_exprs no_exprs b m n l p q i j e f = (refl, sym e ∙ f)
  listed_once no_exprs (expr f fs) b m n l p q i j e (u, one, more) = absurd (no_expr_at b u f one (ap first_class e ∙ i))
  listed_once (expr e es) no_exprs b m n l p q i j (u, one, more) f = absurd (no_expr_at b u e one (ap first_class f ∙ j))
  listed_once (expr e es) (expr f fs) b m n l p q i j g h = exprs k D (expr e es) (expr f fs) b m n l p q g h

  -- what begins as a set of listed members doesn't go on as one with binders
  listed_each : (es : ExprsD) (item : ExprD) (b m u v : Tokens) (close word : PlacedToken) (m' v' : Tokens) → length b < k → SpellsListed es b m → m ≡ close ∷ m' → token_class close.kind close.bytes ≡ 21 → is_symbol (codes "}") close ≡ true → SpellsExpr item b u → u ≡ word ∷ v' → is_symbol (codes "}") word ≡ false → is_comma word ≡ false → ⊥
  listed_each no_exprs item b m u v close word m' v' l e s class braces one t no_brace no_comma = no_expr_at b u item one (ap first_class e ∙ ap first_class s ∙ class)
  listed_each (expr e es) item b m u v close word m' v' l (w, another, more) s class braces one t no_brace no_comma =
      let first = D.exprs e item b w u l another one in
      let at_w : w ≡ word ∷ v' = first.1 ∙ t in
      both es w m close word m' v' more s braces at_w no_brace no_comma
    where
      both : (es : ExprsD) (w m : Tokens) (close word : PlacedToken) (m' v' : Tokens) → SpellsMoreExprs es w m → m ≡ close ∷ m' → is_symbol (codes "}") close ≡ true → w ≡ word ∷ v' → is_symbol (codes "}") word ≡ false → is_comma word ≡ false → ⊥
      both no_exprs w m close word m' v' e s braces at_w no_brace no_comma =
          never_avoids (is_symbol (codes "}")) close w m' (e ∙ s) braces (avoids (is_symbol (codes "}")) word w v' at_w no_brace)
      both (expr f fs) w m close word m' v' (u, (q, t), more) s braces at_w no_brace no_comma =
          never_avoids is_comma _ w u t refl (avoids is_comma word w v' at_w no_comma)

  expr_once : (e f : ExprD) (b m n : Tokens) → length b < suc k → SpellsExpr e b m → SpellsExpr f b n → (e ≡ f) × (m ≡ n)
  expr_once (atoms p) (atoms q) b m n l g h =
      let one = one_token _ _ b m n g h in (ap (λ (t : PlacedToken). atoms t.place) one.0, one.1)
  expr_once (var p x) (var q y) b m n l g h =
      let one = one_token _ _ b m n g h in (ap (λ (t : PlacedToken). var t.place t.bytes) one.0, one.1)
  expr_once (tag p x) (tag q y) b m n l g h =
      let one = one_token _ _ b m n g h in
      let place : p ≡ q = ap (λ (t : PlacedToken). t.place) one.0 in
      let bytes : 39 ∷ x ≡ 39 ∷ y = ap (λ (t : PlacedToken). t.bytes) one.0 in
      let name : x ≡ y = cc in
      (cc, one.1)
  expr_once (tuple p es) (tuple q fs) b m n l (wide, (u, s, (v, one, (i, close)))) (wide', (u', t, (v', other, (j, close')))) =
      let opened = one_token _ _ b u u' s t in
      let place : p ≡ q = ap (λ (t : PlacedToken). t.place) opened.0 in
      let parts = exprs k D es fs u v v' (omega (arith, ap length s)) (avoids is_comma _ v m close refl) (avoids is_comma _ v' n close' refl) one (subst (λ z. SpellsExprs fs z v') (sym opened.1) other) in
      (cc, (one_token _ _ v m n close (parts.1 ∙ close')).1)
  expr_once (listed p es) (listed q fs) b m n l (u, s, (v, one, (i, close))) (u', t, (v', other, (j, close'))) =
      let opened = one_token _ _ b u u' s t in
      let place : p ≡ q = ap (λ (t : PlacedToken). t.place) opened.0 in
      let parts = listed_once es fs u v v' (omega (arith, ap length s)) (avoids is_comma _ v m close refl) (avoids is_comma _ v' n close' refl) (ap first_class close) (ap first_class close') one (subst (λ z. SpellsListed fs z v') (sym opened.1) other) in
      (cc, (one_token _ _ v m n close (parts.1 ∙ close')).1)
  expr_once (listed p es) (each q item bs c) b m n l (u, s, (v, one, (i, close))) (u', t, (v', other, (w, (j, word), more))) =
      let opened = one_token _ _ b u u' s t in
      absurd (listed_each es item u v v' v' _ _ m w (omega (arith, ap length s)) one close refl refl (subst (λ z. SpellsExpr item z v') (sym opened.1) other) word refl refl)
  expr_once (each q item bs c) (listed p es) b m n l (u', t, (v', other, (w, (j, word), more))) (u, s, (v, one, (i, close))) =
      let opened = one_token _ _ b u u' s t in
      absurd (listed_each es item u v v' v' _ _ n w (omega (arith, ap length s)) one close refl refl (subst (λ z. SpellsExpr item z v') (sym opened.1) other) word refl refl)
  expr_once (each p e bs c) (each q f ds d) b m n l (u, s, (v, one, (w, (i, s2), (x, binds, (y, clause, (i', close)))))) (u', t, (v', other, (w', (j, t2), (x', binds', (y', clause', (j', close')))))) =
      let opened = one_token _ _ b u u' s t in
      let place : p ≡ q = ap (λ (t : PlacedToken). t.place) opened.0 in
      let item = D.exprs e f u v v' (omega (arith, ap length s)) one (subst (λ z. SpellsExpr f z v') (sym opened.1) other) in
      let at_w : w ≡ w' = (one_token _ _ v w w' s2 (item.1 ∙ t2)).1 in
      let short_w : length w < k = omega (arith, ap length s, ap length s2, (expr_shrinks e).to u v one) in
      let ranges = bindings k D bs ds w x x' short_w (where_avoids c x y is_comma clause close refl (λ r. refl)) (where_avoids d x' y' is_comma clause' close' refl (λ r. refl)) binds (subst (λ z. SpellsBindings ds z x') (sym at_w) binds') in
      let short_x : length x < k = omega (arith, (bindings_shrink bs).to w x binds) in
      let guard = where_once k D c d x y y' short_x (avoids is_where _ y m close refl) (avoids is_where _ y' n close' refl) (ends_before _ y m close refl refl) (ends_before _ y' n close' refl refl) clause (subst (λ z. WhereClause d (SpellsCond d) z y') (sym ranges.1) clause') in
      (cc, (one_token _ _ y m n close (guard.1 ∙ close')).1)
  expr_once (part p e i) (part q f j) b m n l (u, s, (v, (p1, s2), (w, one, (x, (p2, s3), (y, number, (p3, close)))))) (u', t, (v', (q1, t2), (w', other, (x', (q2, t3), (y', number', (q3, close')))))) =
      let word = one_token _ _ b u u' s t in
      let place : p ≡ q = ap (λ (t : PlacedToken). t.place) word.0 in
      let at_v : v ≡ v' = (one_token _ _ u v v' s2 (word.1 ∙ t2)).1 in
      let item = D.exprs e f v w w' (omega (arith, ap length s, ap length s2)) one (subst (λ z. SpellsExpr f z w') (sym at_v) other) in
      let at_x : x ≡ x' = (one_token _ _ w x x' s3 (item.1 ∙ t3)).1 in
      let count = number_once i j x y y' number (subst (λ z. TakesNumber j z y') (sym at_x) number') in
      (cc, (one_token _ _ y m n close (count.1 ∙ close')).1)
  expr_once (apply p o es) (apply q r fs) b m n l (arity, (u, s, (v, (p1, s2), (w, one, (p2, close))))) (arity', (u', t, (v', (q1, t2), (w', other, (q2, close'))))) =
      let word = one_token _ _ b u u' s t in
      let place : p ≡ q = ap (λ (t : PlacedToken). t.place) word.0 in
      let operation : o ≡ r = one_operation o r (ap (λ (t : PlacedToken). t.bytes) word.0) in
      let at_v : v ≡ v' = (one_token _ _ u v v' s2 (word.1 ∙ t2)).1 in
      let parts = exprs k D es fs v w w' (omega (arith, ap length s, ap length s2)) (avoids is_comma _ w m close refl) (avoids is_comma _ w' n close' refl) one (subst (λ z. SpellsExprs fs z w') (sym at_v) other) in
      (cc, (one_token _ _ w m n close (parts.1 ∙ close')).1)
  expr_once e f b m n l g h = let same : expr_class e ≡ expr_class f = sym (expr_first e b m g) ∙ expr_first f b n h in absurd (omega arith)

  unit_once : (c d : CondD) (b m n : Tokens) → length b < suc k → UnitForm b m c → UnitForm b n d → (c ≡ d) × (m ≡ n)
  unit_once c d b m n l (in_brackets _ (u, (p, s), (v, inside, (q, close)))) (in_brackets _ (u', (p', s'), (v', inside', (q', close')))) =
      let tails : u ≡ u' = (one_token _ _ b u u' s s').1 in
      let one = condition_once k D c d u v v' (omega (arith, ap length s)) (ends_before _ v m close refl refl) (ends_before _ v' n close' refl refl) inside (subst (λ z. Condition d z v') (sym tails) inside') in
      (one.0, (one_token _ _ v m n close (one.1 ∙ close')).1)
  unit_once c d b m n l (is_truth (p, s)) (is_truth (q, t)) = (refl, (one_token _ _ b m n s t).1)
  unit_once c d b m n l (is_falsity (p, s)) (is_falsity (q, t)) = (refl, (one_token _ _ b m n s t).1)
  unit_once c d b m n l (is_empty e (u, (p, s), (v, (q, s2), (w, one, (r, s3))))) (is_empty f (u', (p', t), (v', (q', t2), (w', other, (r', t3))))) =
      let at_u : u ≡ u' = (one_token _ _ b u u' s t).1 in
      let at_v : v ≡ v' = (one_token _ _ u v v' s2 (at_u ∙ t2)).1 in
      let expr = D.exprs e f v w w' (omega (arith, ap length s, ap length s2)) one (subst (λ z. SpellsExpr f z w') (sym at_v) other) in
      (ap empty expr.0, (one_token _ _ w m n s3 (expr.1 ∙ t3)).1)
  unit_once c d b m n l (is_not x (u, (p, s), one)) (is_not y (u', (q, t), other)) =
      let tails : u ≡ u' = (one_token _ _ b u u' s t).1 in
      let under = D.units x y u m n (omega (arith, ap length s)) (base_as_unit x u m one) (subst (λ z. UnitCond y z n) (sym tails) (base_as_unit y u' n other)) in
      (ap not under.0, under.1)
  unit_once c d b m n l (is_exists x f (u, (p, s), (v, one, (w, (q, s2), under)))) (is_exists y g (u', (p', t), (v', other, (w', (q', t2), below_it)))) =
      let tails : u ≡ u' = (one_token _ _ b u u' s t).1 in
      let bound = binding_once k D x y u v v' (omega (arith, ap length s)) one (subst (λ z. SpellsBinding y z v') (sym tails) other) in
      let at_w : w ≡ w' = (one_token _ _ v w w' s2 (bound.1 ∙ t2)).1 in
      let short : length w < k = omega (arith, ap length s, ap length s2, (binding_shrinks x).to u v one) in
      let inner = D.units f g w m n short (base_as_unit f w m under) (subst (λ z. UnitCond g z n) (sym at_w) (base_as_unit g w' n below_it)) in
      (cc, inner.1)
  unit_once c d b m n l (is_every x f (u, (p, s), (v, one, (w, (q, s2), under)))) (is_every y g (u', (p', t), (v', other, (w', (q', t2), below_it)))) =
      let tails : u ≡ u' = (one_token _ _ b u u' s t).1 in
      let bound = binding_once k D x y u v v' (omega (arith, ap length s)) one (subst (λ z. SpellsBinding y z v') (sym tails) other) in
      let at_w : w ≡ w' = (one_token _ _ v w w' s2 (bound.1 ∙ t2)).1 in
      let short : length w < k = omega (arith, ap length s, ap length s2, (binding_shrinks x).to u v one) in
      let inner = D.units f g w m n short (base_as_unit f w m under) (subst (λ z. UnitCond g z n) (sym at_w) (base_as_unit g w' n below_it)) in
      (cc, inner.1)
  unit_once c d b m n l (is_relation e f t u v one is other) (is_relation e' f' t' u' v' one' is' other') =
      let left = expr_once e e' b u u' l one one' in
      let sign = one_token t t' u v v' is (left.1 ∙ is') in
      let short : length v < k = omega (arith, ap length is, (expr_shrinks e).to b u one) in
      let right = D.exprs f f' v m n short other (subst (λ z. SpellsExpr f' z n) (sym sign.1) other') in
      (ap (λ x. related x e f) sign.0 ∙ ap (λ x. related t' x f) left.0 ∙ ap (related t' e') right.0, right.1)
  unit_once c d b m n l f g = let same : form_class f ≡ form_class g = sym (form_first b m c f) ∙ form_first b n d g in absurd (omega arith)

  pub decides_more : Decides (suc k)
  decides_more = record {
    exprs = expr_once;
    units = λ c d b m n l g h. unit_once c d b m n l (unit_form c b m g) (unit_form d b n h);
  }

pub decided : (k : ℕ) → Decides k
decided zero = record { exprs = λ e f b m n l. absurd (omega arith); units = λ c d b m n l. absurd (omega arith) }
decided (suc k) = decides_more k (decided k)
