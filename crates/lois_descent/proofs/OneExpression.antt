-- Tokens are those of at most one expression, and of at most one condition that what follows can't go on.
use Rattle.std.proofs.Common.{◌≡◌, ℕ, zero, suc, ◌<◌, ◌⊎◌, Bool, true, false, ◌∷◌, length, codes, refl, sym, ap, ◌∙◌, subst, inl, inr, arith}
use Rattle.std.specs.Prelude.{IsTrue}
use Rattle.std.proofs.lemmas.Bool.{false≢true}
use Rattle.lois_script.specs.Tree.{ExprD, ExprsD, no_exprs, expr, BindingD, binding, BindingsD, no_bindings, bind, CondD, all, any, CondsD, no_conds, cond}
use Rattle.lois_script.specs.Grammar.{PlacedToken, Spelling, TakesNumber, decimal, AreMany, Enclosed, is_base, is_unit, is_conjunction, WhereClause, SpellsExpr, SpellsExprs, SpellsMoreExprs, SpellsBinding, SpellsBindings, SpellsMoreBindings, SpellsCond, SpellsUnits, SpellsMoreUnits, SpellsConjunctions, SpellsMoreConjunctions}
use Rattle.lois_descent.proofs.Lengths.{Tokens, expr_shrinks, enclosed_shrinks, cond_shrinks, binding_shrinks}
use Rattle.lois_descent.proofs.FirstTokens.{is_word, is_symbol, Avoids, avoids, never_avoids, one_token}

abbrev pub is_comma : PlacedToken → Bool
is_comma = is_symbol (codes ",")

abbrev pub is_and : PlacedToken → Bool
is_and = is_word (codes "and")

abbrev pub is_or : PlacedToken → Bool
is_or = is_word (codes "or")

abbrev pub is_where : PlacedToken → Bool
is_where = is_word (codes "where")

-- no condition goes on here
pub record EndsCond (b : Tokens) : Type 0 where
  pub no_and : Avoids is_and b
  pub no_or : Avoids is_or b

pub ends_before : (t : PlacedToken) (b m : Tokens) → b ≡ t ∷ m → is_and t ≡ false → is_or t ≡ false → EndsCond b
ends_before t b m e no_and no_or = record { no_and = avoids is_and t b m e no_and; no_or = avoids is_or t b m e no_or }

abbrev pub Base : CondD → Spelling
Base c = Enclosed (is_base c) (SpellsCond c)

abbrev pub UnitCond : CondD → Spelling
UnitCond c = Enclosed (is_unit c) (SpellsCond c)

abbrev pub Conjunction : CondD → Spelling
Conjunction c = Enclosed (is_conjunction c) (SpellsCond c)

abbrev pub Condition : CondD → Spelling
Condition c = Enclosed true (SpellsCond c)

pub number_once : (i j : ℕ) (b m n : Tokens) → TakesNumber i b m → TakesNumber j b n → (i ≡ j) × (m ≡ n)
number_once i j b m n (p, ds, e, v) (q, es, f, w) =
    let one = one_token _ _ b m n e f in
    let bytes : ds ≡ es = ap (λ (t : PlacedToken). t.bytes) one.0 in
    (sym v ∙ ap decimal bytes ∙ w, one.1)

-- expressions and conditions are decided at the front of lists shorter than k
pub record Decides (k : ℕ) : Type 0 where
  pub exprs : (e f : ExprD) (b m n : Tokens) → length b < k → SpellsExpr e b m → SpellsExpr f b n → (e ≡ f) × (m ≡ n)
  pub units : (c d : CondD) (b m n : Tokens) → length b < k → UnitCond c b m → UnitCond d b n → (c ≡ d) × (m ≡ n)

pub base_is_unit : (c : CondD) → IsTrue (is_base c) → IsTrue (is_unit c)
base_is_unit (all cs) h = h
base_is_unit (any cs) h = h
base_is_unit c h = refl

unit_form_of : (c : CondD) → IsTrue (is_base c) ⊎ (0 < zero) → IsTrue (is_unit c) ⊎ (0 < zero)
unit_form_of c (inl h) = inl (base_is_unit c h)
unit_form_of c (inr l) = inr l

pub base_as_unit : (c : CondD) (b m : Tokens) → Base c b m → UnitCond c b m
base_as_unit c b m (zero, need, h) = (zero, unit_form_of c need, h)
base_as_unit c b m (suc n, need, h) = (suc n, inr (omega arith), h)

-- A list of conditions with a word between them is one condition.
abbrev pub joined : (CondsD → CondD) → CondsD → CondD
joined f no_conds = f no_conds
joined f (cond c no_conds) = c
joined f (cond c (cond d rest)) = f (cond c (cond d rest))

joined_many : (f : CondsD → CondD) (cs : CondsD) → AreMany cs → f cs ≡ joined f cs
joined_many f no_conds h = absurd h
joined_many f (cond c no_conds) h = absurd h
joined_many f (cond c (cond d rest)) h = refl

pub no_form : IsTrue false ⊎ (0 < zero) → ⊥
no_form (inl h) = false≢true h
no_form (inr l) = absurd (omega arith)

pub conj_units : (c : CondD) (b m : Tokens) → Conjunction c b m → (cs : CondsD) × SpellsUnits cs b m × (c ≡ joined all cs)
conj_units c b m (suc n, need, h) = (cond c no_conds, (m, (suc n, inr (omega arith), h), refl), refl)
conj_units (all cs) b m (zero, need, (many, h)) = (cs, h, joined_many all cs many)
conj_units (any cs) b m (zero, need, h) = absurd (no_form need)
conj_units c b m (zero, need, h) = (cond c no_conds, (m, (zero, inl refl, h), refl), refl)

pub cond_conjs : (c : CondD) (b m : Tokens) → Condition c b m → (cs : CondsD) × SpellsConjunctions cs b m × (c ≡ joined any cs)
cond_conjs c b m (suc n, need, h) = (cond c no_conds, (m, (suc n, inr (omega arith), h), refl), refl)
cond_conjs (any cs) b m (zero, need, (many, h)) = (cs, h, joined_many any cs many)
cond_conjs c b m (zero, need, h) = (cond c no_conds, (m, (zero, inl refl, h), refl), refl)

conjs_follow : (cs : CondsD) (b m : Tokens) → SpellsMoreConjunctions cs b m → Avoids is_and m → Avoids is_and b
conjs_follow no_conds b m e h = subst (Avoids is_and) (sym e) h
conjs_follow (cond c rest) b m (u, (p, e), more) h = avoids is_and _ b u e refl

module _ (k : ℕ) (D : Decides k) where
  pub more_exprs : (es fs : ExprsD) (b m n : Tokens) → length b < k → Avoids is_comma m → Avoids is_comma n → SpellsMoreExprs es b m → SpellsMoreExprs fs b n → (es ≡ fs) × (m ≡ n)
  more_exprs no_exprs no_exprs b m n l p q e f = (refl, sym e ∙ f)
  more_exprs no_exprs (expr f fs) b m n l p q e (d, (y, t), rest) = absurd (never_avoids is_comma _ m d (sym e ∙ t) refl p)
  more_exprs (expr e es) no_exprs b m n l p q (c, (x, s), rest) f = absurd (never_avoids is_comma _ n c (sym f ∙ s) refl q)
  more_exprs (expr e es) (expr f fs) b m n l p q (c, (x, s), (u, one, more)) (d, (y, t), (v, another, most)) =
      let tails : c ≡ d = (one_token _ _ b c d s t).1 in
      let first = D.exprs e f c u v (omega (arith, ap length s)) one (subst (λ z. SpellsExpr f z v) (sym tails) another) in
      let short : length u < k = omega (arith, ap length s, (expr_shrinks e).to c u one) in
      let others = more_exprs es fs u m n short p q more (subst (λ z. SpellsMoreExprs fs z n) (sym first.1) most) in
      (cc, others.1)

  pub exprs : (es fs : ExprsD) (b m n : Tokens) → length b < k → Avoids is_comma m → Avoids is_comma n → SpellsExprs es b m → SpellsExprs fs b n → (es ≡ fs) × (m ≡ n)
  exprs no_exprs fs b m n l p q e f = absurd e
  exprs es no_exprs b m n l p q e f = absurd f
  exprs (expr e es) (expr f fs) b m n l p q (u, one, more) (v, another, most) =
      let first = D.exprs e f b u v l one another in
      let short : length u < k = omega (arith, (expr_shrinks e).to b u one) in
      let others = more_exprs es fs u m n short p q more (subst (λ z. SpellsMoreExprs fs z n) (sym first.1) most) in
      (cc, others.1)

  pub binding_once : (x y : BindingD) (b m n : Tokens) → length b < k → SpellsBinding x b m → SpellsBinding y b n → (x ≡ y) × (m ≡ n)
  binding_once (binding p x e) (binding q y f) b m n l (c, s, (c', (i, s'), one)) (d, t, (d', (j, t'), another)) =
      let name = one_token _ _ b c d s t in
      let place : p ≡ q = ap (λ (t : PlacedToken). t.place) name.0 in
      let bytes : x ≡ y = ap (λ (t : PlacedToken). t.bytes) name.0 in
      let behind : c' ≡ d' = (one_token _ _ c c' d' s' (name.1 ∙ t')).1 in
      let from = D.exprs e f c' m n (omega (arith, ap length s, ap length s')) one (subst (λ z. SpellsExpr f z n) (sym behind) another) in
      (cc, from.1)

  pub more_bindings : (xs ys : BindingsD) (b m n : Tokens) → length b < k → Avoids is_comma m → Avoids is_comma n → SpellsMoreBindings xs b m → SpellsMoreBindings ys b n → (xs ≡ ys) × (m ≡ n)
  more_bindings no_bindings no_bindings b m n l p q e f = (refl, sym e ∙ f)
  more_bindings no_bindings (bind y ys) b m n l p q e (d, (j, t), rest) = absurd (never_avoids is_comma _ m d (sym e ∙ t) refl p)
  more_bindings (bind x xs) no_bindings b m n l p q (c, (i, s), rest) f = absurd (never_avoids is_comma _ n c (sym f ∙ s) refl q)
  more_bindings (bind x xs) (bind y ys) b m n l p q (c, (i, s), (u, one, more)) (d, (j, t), (v, another, most)) =
      let tails : c ≡ d = (one_token _ _ b c d s t).1 in
      let first = binding_once x y c u v (omega (arith, ap length s)) one (subst (λ z. SpellsBinding y z v) (sym tails) another) in
      let short : length u < k = omega (arith, ap length s, (binding_shrinks x).to c u one) in
      let others = more_bindings xs ys u m n short p q more (subst (λ z. SpellsMoreBindings ys z n) (sym first.1) most) in
      (cc, others.1)

  pub bindings : (xs ys : BindingsD) (b m n : Tokens) → length b < k → Avoids is_comma m → Avoids is_comma n → SpellsBindings xs b m → SpellsBindings ys b n → (xs ≡ ys) × (m ≡ n)
  bindings no_bindings ys b m n l p q e f = absurd e
  bindings xs no_bindings b m n l p q e f = absurd f
  bindings (bind x xs) (bind y ys) b m n l p q (u, one, more) (v, another, most) =
      let first = binding_once x y b u v l one another in
      let short : length u < k = omega (arith, (binding_shrinks x).to b u one) in
      let others = more_bindings xs ys u m n short p q more (subst (λ z. SpellsMoreBindings ys z n) (sym first.1) most) in
      (cc, others.1)

  more_units : (cs ds : CondsD) (b m n : Tokens) → length b < k → Avoids is_and m → Avoids is_and n → SpellsMoreUnits cs b m → SpellsMoreUnits ds b n → (cs ≡ ds) × (m ≡ n)
  more_units no_conds no_conds b m n l p q e f = (refl, sym e ∙ f)
  more_units no_conds (cond d ds) b m n l p q e (w, (j, t), rest) = absurd (never_avoids is_and _ m w (sym e ∙ t) refl p)
  more_units (cond c cs) no_conds b m n l p q (w, (i, s), rest) f = absurd (never_avoids is_and _ n w (sym f ∙ s) refl q)
  more_units (cond c cs) (cond d ds) b m n l p q (w, (i, s), (u, one, more)) (z, (j, t), (v, another, most)) =
      let tails : w ≡ z = (one_token _ _ b w z s t).1 in
      let first = D.units c d w u v (omega (arith, ap length s)) one (subst (λ r. UnitCond d r v) (sym tails) another) in
      let short : length u < k = omega (arith, ap length s, (enclosed_shrinks (is_unit c) (cond_shrinks c)).to w u one) in
      let others = more_units cs ds u m n short p q more (subst (λ r. SpellsMoreUnits ds r n) (sym first.1) most) in
      (cc, others.1)

  units : (cs ds : CondsD) (b m n : Tokens) → length b < k → Avoids is_and m → Avoids is_and n → SpellsUnits cs b m → SpellsUnits ds b n → (cs ≡ ds) × (m ≡ n)
  units no_conds ds b m n l p q e f = absurd e
  units cs no_conds b m n l p q e f = absurd f
  units (cond c cs) (cond d ds) b m n l p q (u, one, more) (v, another, most) =
      let first = D.units c d b u v l one another in
      let short : length u < k = omega (arith, (enclosed_shrinks (is_unit c) (cond_shrinks c)).to b u one) in
      let others = more_units cs ds u m n short p q more (subst (λ r. SpellsMoreUnits ds r n) (sym first.1) most) in
      (cc, others.1)

  pub conjunction_once : (c d : CondD) (b m n : Tokens) → length b < k → Avoids is_and m → Avoids is_and n → Conjunction c b m → Conjunction d b n → (c ≡ d) × (m ≡ n)
  conjunction_once c d b m n l p q g h =
      let x = conj_units c b m g in
      let y = conj_units d b n h in
      let one = units x.0 y.0 b m n l p q x.1 y.1 in
      (x.2 ∙ ap (joined all) one.0 ∙ sym y.2, one.1)

  more_conjs : (cs ds : CondsD) (b m n : Tokens) → length b < k → EndsCond m → EndsCond n → SpellsMoreConjunctions cs b m → SpellsMoreConjunctions ds b n → (cs ≡ ds) × (m ≡ n)
  more_conjs no_conds no_conds b m n l p q e f = (refl, sym e ∙ f)
  more_conjs no_conds (cond d ds) b m n l p q e (w, (j, t), rest) = absurd (never_avoids is_or _ m w (sym e ∙ t) refl p.no_or)
  more_conjs (cond c cs) no_conds b m n l p q (w, (i, s), rest) f = absurd (never_avoids is_or _ n w (sym f ∙ s) refl q.no_or)
  more_conjs (cond c cs) (cond d ds) b m n l p q (w, (i, s), (u, one, more)) (z, (j, t), (v, another, most)) =
      let tails : w ≡ z = (one_token _ _ b w z s t).1 in
      let first = conjunction_once c d w u v (omega (arith, ap length s)) (conjs_follow cs u m more p.no_and) (conjs_follow ds v n most q.no_and) one (subst (λ r. Conjunction d r v) (sym tails) another) in
      let short : length u < k = omega (arith, ap length s, (enclosed_shrinks (is_conjunction c) (cond_shrinks c)).to w u one) in
      let others = more_conjs cs ds u m n short p q more (subst (λ r. SpellsMoreConjunctions ds r n) (sym first.1) most) in
      (cc, others.1)

  conjs : (cs ds : CondsD) (b m n : Tokens) → length b < k → EndsCond m → EndsCond n → SpellsConjunctions cs b m → SpellsConjunctions ds b n → (cs ≡ ds) × (m ≡ n)
  conjs no_conds ds b m n l p q e f = absurd e
  conjs cs no_conds b m n l p q e f = absurd f
  conjs (cond c cs) (cond d ds) b m n l p q (u, one, more) (v, another, most) =
      let first = conjunction_once c d b u v l (conjs_follow cs u m more p.no_and) (conjs_follow ds v n most q.no_and) one another in
      let short : length u < k = omega (arith, (enclosed_shrinks (is_conjunction c) (cond_shrinks c)).to b u one) in
      let others = more_conjs cs ds u m n short p q more (subst (λ r. SpellsMoreConjunctions ds r n) (sym first.1) most) in
      (cc, others.1)

  pub condition_once : (c d : CondD) (b m n : Tokens) → length b < k → EndsCond m → EndsCond n → Condition c b m → Condition d b n → (c ≡ d) × (m ≡ n)
  condition_once c d b m n l p q g h =
      let x = cond_conjs c b m g in
      let y = cond_conjs d b n h in
      let one = conjs x.0 y.0 b m n l p q x.1 y.1 in
      (x.2 ∙ ap (joined any) one.0 ∙ sym y.2, one.1)

  pub where_once : (c d : CondD) (b m n : Tokens) → length b < k → Avoids is_where m → Avoids is_where n → EndsCond m → EndsCond n → WhereClause c (SpellsCond c) b m → WhereClause d (SpellsCond d) b n → (c ≡ d) × (m ≡ n)
  where_once c d b m n l i j p q (inl g) (inl h) = (g.0 ∙ sym h.0, sym g.1 ∙ h.1)
  where_once c d b m n l i j p q (inl g) (inr (w, (x, t), h)) = absurd (never_avoids is_where _ m w (sym g.1 ∙ t) refl i)
  where_once c d b m n l i j p q (inr (w, (x, s), g)) (inl h) = absurd (never_avoids is_where _ n w (sym h.1 ∙ s) refl j)
  where_once c d b m n l i j p q (inr (w, (x, s), g)) (inr (z, (y, t), h)) =
      let tails : w ≡ z = (one_token _ _ b w z s t).1 in
      condition_once c d w m n (omega (arith, ap length s)) p q g (subst (λ r. Condition d r n) (sym tails) h)
