-- Where no rule of scope is broken, expressions and conditions stand.
use Rattle.std.proofs.Common.{◌≡◌, ℕ, inl, inr, Bool, true, false, List, [], ◌∷◌, ◌++◌, map, Some, None, if◌then◌else◌, bytes_eq, refl, ap, ◌∙◌, subst}
use Rattle.std.specs.Bool.{IsFalse}
use Rattle.std.proofs.lemmas.List.{map-append}
use Rattle.std.proofs.lemmas.List.Elements.{All-cons, All-nil}
use Rattle.lois_base.proofs.Booleans.{true_if_not_false}
use Rattle.lois_script.specs.Scope.{RuleD, unknown, again, order_in_equality, RoleD, DeclaredD, ScopeD, role_of, bound, with_binder, ExprBreaks, ExprsBreak, BindingsBreak, CondBreaks, CondsBreak}
use Rattle.lois_script.specs.Tree.{ExprD, atoms, var, tag, tuple, listed, each, part, apply, ExprsD, no_exprs, expr, binding, BindingsD, no_bindings, bind, CondD, truth, falsity, same, differ, below, member, included, empty, not, all, any, exists, every, CondsD, no_conds, cond}
use Rattle.lois_eval.specs.WellFormed.{IsNamed, IsUnnamed, names_behind_bindings, IsWellFormed, AreWellFormed, BindersAreWellFormed, CondIsWellFormed, CondsAreWellFormed}
use Rattle.lois_interp.specs.WithinLimits.{IsWithinLimits, AreWithinLimits, BindingsAreWithinLimits, CondIsWithinLimits, CondsAreWithinLimits}
use Rattle.lois_interp.specs.WellScoped.{declared_name, ExprIsWellScoped, CondIsWellScoped}

abbrev names_in : ScopeD → List (List ℕ)
names_in s = map declared_name s.names

pub named_in : (x : List ℕ) (ds : List DeclaredD) → (role_of x ds ≡ None → ⊥) → IsNamed x (map declared_name ds)
named_in x [] h = absurd (h refl)
named_in x (d ∷ ds) h = go (bytes_eq d.name x) refl (named_in x ds) h
  where
    go : (p : Bool) → bytes_eq d.name x ≡ p → ((role_of x ds ≡ None → ⊥) → IsNamed x (map declared_name ds)) → ((if p then (Some d.role) else (role_of x ds)) ≡ None → ⊥) → IsNamed x (map declared_name (d ∷ ds))
    go true e later h = inl e
    go false e later h = inr (later h)

pub unnamed_in : (x : List ℕ) (ds : List DeclaredD) → ((r : RoleD) → role_of x ds ≡ Some r → ⊥) → IsUnnamed x (map declared_name ds)
unnamed_in x [] h = All-nil (λ n. IsFalse (bytes_eq n x))
unnamed_in x (d ∷ ds) h = go (bytes_eq d.name x) refl (unnamed_in x ds) h
  where
    go : (p : Bool) → bytes_eq d.name x ≡ p → (((r : RoleD) → role_of x ds ≡ Some r → ⊥) → IsUnnamed x (map declared_name ds)) → ((r : RoleD) → (if p then (Some d.role) else (role_of x ds)) ≡ Some r → ⊥) → IsUnnamed x (map declared_name (d ∷ ds))
    go true e later h = absurd (h d.role refl)
    go false e later h = All-cons (λ n. IsFalse (bytes_eq n x)) d.name (map declared_name ds) e (later h)

binder_names : (p : ℕ) (x : List ℕ) (e : ExprD) (s : ScopeD) → names_in (with_binder (binding p x e) s) ≡ names_in s ++ x ∷ []
binder_names p x e s = map-append declared_name s.names _

bound_names : (bs : BindingsD) (s : ScopeD) → names_in (bound bs s) ≡ names_behind_bindings bs (names_in s)
bound_names no_bindings s = refl
bound_names (bind (binding p x e) bs) s = bound_names bs (with_binder (binding p x e) s) ∙ ap (names_behind_bindings bs) (binder_names p x e s)

bound_order : (bs : BindingsD) (s : ScopeD) → (bound bs s).ordered ≡ s.ordered
bound_order no_bindings s = refl
bound_order (bind (binding p x e) bs) s = bound_order bs (with_binder (binding p x e) s)

-- no rule is broken
abbrev Unbroken : (ScopeD → RuleD → ℕ → Type 0) → ScopeD → Type 0
Unbroken breaks s = (rule : RuleD) (at : ℕ) → breaks s rule at → ⊥

mutual
  expr_stands : (e : ExprD) (s : ScopeD) → Unbroken (ExprBreaks e) s → IsWithinLimits e → IsWellFormed e s.ordered (names_in s)
  expr_stands (atoms p) s h form = tt
  expr_stands (var p x) s h form = named_in x s.names (λ none. h unknown p (refl, refl, none))
  expr_stands (tag p x) s h form = tt
  expr_stands (tuple p es) s h form = (form.0, form.1, all_stand es s h form.2)
  expr_stands (listed p es) s h form = all_stand es s h form
  expr_stands (each p item bs c) s h form = (
    binders_stand bs s (λ rule at bad. h rule at (inl bad)) form.1,
    subst (λ o. IsWellFormed item o (names_behind_bindings bs (names_in s))) (bound_order bs s) (subst (IsWellFormed item (bound bs s).ordered) (bound_names bs s) (expr_stands item (bound bs s) (λ rule at bad. h rule at (inr (inl bad))) form.0)),
    subst (λ o. CondIsWellFormed c o (names_behind_bindings bs (names_in s))) (bound_order bs s) (subst (CondIsWellFormed c (bound bs s).ordered) (bound_names bs s) (cond_stands c (bound bs s) (λ rule at bad. h rule at (inr (inr bad))) form.2)),
  )
  expr_stands (part p e n) s h form = expr_stands e s h form
  expr_stands (apply p op es) s h form = (form.0, all_stand es s h form.1)

  all_stand : (es : ExprsD) (s : ScopeD) → Unbroken (ExprsBreak es) s → AreWithinLimits es → AreWellFormed es s.ordered (names_in s)
  all_stand no_exprs s h form = tt
  all_stand (expr e es) s h form = (expr_stands e s (λ rule at bad. h rule at (inl bad)) form.0, all_stand es s (λ rule at bad. h rule at (inr bad)) form.1)

  binders_stand : (bs : BindingsD) (s : ScopeD) → Unbroken (BindingsBreak bs) s → BindingsAreWithinLimits bs → BindersAreWellFormed bs s.ordered (names_in s)
  binders_stand no_bindings s h form = tt
  binders_stand (bind (binding p x e) bs) s h form = (
    expr_stands e s (λ rule at bad. h rule at (inl (inr bad))) form.0,
    unnamed_in x s.names (λ r is. h again p (inl (inl (refl, refl, r, is)))),
    subst (BindersAreWellFormed bs s.ordered) (binder_names p x e s) (binders_stand bs (with_binder (binding p x e) s) (λ rule at bad. h rule at (inr bad)) form.1),
  )

  cond_stands : (c : CondD) (s : ScopeD) → Unbroken (CondBreaks c) s → CondIsWithinLimits c → CondIsWellFormed c s.ordered (names_in s)
  cond_stands truth s h form = tt
  cond_stands falsity s h form = tt
  cond_stands (same e f) s h form = (expr_stands e s (λ rule at bad. h rule at (inl bad)) form.0, expr_stands f s (λ rule at bad. h rule at (inr bad)) form.1)
  cond_stands (differ e f) s h form = (expr_stands e s (λ rule at bad. h rule at (inl bad)) form.0, expr_stands f s (λ rule at bad. h rule at (inr bad)) form.1)
  cond_stands (below p e f) s h form = (
    true_if_not_false s.ordered (λ none. h order_in_equality p (inr (inl (refl, refl, none)))),
    expr_stands e s (λ rule at bad. h rule at (inl bad)) form.0,
    expr_stands f s (λ rule at bad. h rule at (inr (inr bad))) form.1,
  )
  cond_stands (member e f) s h form = (expr_stands e s (λ rule at bad. h rule at (inl bad)) form.0, expr_stands f s (λ rule at bad. h rule at (inr bad)) form.1)
  cond_stands (included e f) s h form = (expr_stands e s (λ rule at bad. h rule at (inl bad)) form.0, expr_stands f s (λ rule at bad. h rule at (inr bad)) form.1)
  cond_stands (empty e) s h form = expr_stands e s h form
  cond_stands (not c) s h form = cond_stands c s h form
  cond_stands (all cs) s h form = conds_stand cs s h form
  cond_stands (any cs) s h form = conds_stand cs s h form
  cond_stands (exists (binding p x e) c) s h form = (
    expr_stands e s (λ rule at bad. h rule at (inl (inr bad))) form.0,
    unnamed_in x s.names (λ r is. h again p (inl (inl (refl, refl, r, is)))),
    subst (CondIsWellFormed c s.ordered) (binder_names p x e s) (cond_stands c (with_binder (binding p x e) s) (λ rule at bad. h rule at (inr bad)) form.1),
  )
  cond_stands (every (binding p x e) c) s h form = (
    expr_stands e s (λ rule at bad. h rule at (inl (inr bad))) form.0,
    unnamed_in x s.names (λ r is. h again p (inl (inl (refl, refl, r, is)))),
    subst (CondIsWellFormed c s.ordered) (binder_names p x e s) (cond_stands c (with_binder (binding p x e) s) (λ rule at bad. h rule at (inr bad)) form.1),
  )

  conds_stand : (cs : CondsD) (s : ScopeD) → Unbroken (CondsBreak cs) s → CondsAreWithinLimits cs → CondsAreWellFormed cs s.ordered (names_in s)
  conds_stand no_conds s h form = tt
  conds_stand (cond c cs) s h form = (cond_stands c s (λ rule at bad. h rule at (inl bad)) form.0, conds_stand cs s (λ rule at bad. h rule at (inr bad)) form.1)

pub expr_may : (e : ExprD) (o : Bool) (names : List (List ℕ)) → ExprIsWellScoped e o names → IsWellFormed e o names
expr_may e o names h = subst (λ z. IsWellFormed e z names) h.order (subst (IsWellFormed e h.scope.ordered) h.named (expr_stands e h.scope h.unbroken h.form))

pub cond_may : (c : CondD) (o : Bool) (names : List (List ℕ)) → CondIsWellScoped c o names → CondIsWellFormed c o names
cond_may c o names h = subst (λ z. CondIsWellFormed c z names) h.order (subst (CondIsWellFormed c h.scope.ordered) h.named (cond_stands c h.scope h.unbroken h.form))
