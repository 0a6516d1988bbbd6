-- Scopes with the same names in the same roles are broken alike.
use Rattle.std.proofs.Common.{◌≡◌, ℕ, ◌⊎◌, inl, inr, Bool, true, false, List, [], ◌∷◌, ◌++◌, map, Option, Some, None, refl, sym, ap, ◌∙◌, if◌then◌else◌, bytes_eq}
use Rattle.std.specs.Option.{option_map}
use Rattle.lois_script.specs.Tree.{ExprD, atoms, var, tag, tuple, listed, each, part, apply, ExprsD, no_exprs, expr, BindingD, binding, BindingsD, no_bindings, bind, CondD, truth, falsity, same, differ, below, member, included, empty, not, all, any, exists, every, CondsD, no_conds, cond, StmtD, «let», assign, add, for, if, while, assert, print, StmtsD, no_stmts, stmt}
use Rattle.lois_script.specs.Tree.{ParamD}
use Rattle.lois_script.specs.Scope.{ParametersBreak, with_parameters, RoleD, inner, fixed, DeclaredD, ScopeD, RuleD, role_of, declare, farther, entered, with_binder, bound, scope_behind, UseBreaks, DeclarationBreaks, AssignBreaks, AddBreaks, ExprBreaks, ExprsBreak, BindingsBreak, BindingBreaks, CondBreaks, CondsBreak, StmtBreaks, StmtsBreak}
use Rattle.lois_scope.specs.Walks.{IsAlike, ComparisonBreaks}

pub alike_self : (s : ScopeD) → IsAlike s s
alike_self s = record { names = λ x. refl; in_loop = refl; ordered = refl }

pub alike_turned : (s t : ScopeD) → IsAlike s t → IsAlike t s
alike_turned s t h = record { names = λ x. sym (h.names x); in_loop = sym h.in_loop; ordered = sym h.ordered }

pub alike_trans : (s t u : ScopeD) → IsAlike s t → IsAlike t u → IsAlike s u
alike_trans s t u h g = record { names = λ x. h.names x ∙ g.names x; in_loop = h.in_loop ∙ g.in_loop; ordered = h.ordered ∙ g.ordered }

abbrev pub or_role : Option RoleD → Option RoleD → Option RoleD
or_role None o = o
or_role (Some r) o = Some r

append_step : (b : Bool) (r : RoleD) (a o d : Option RoleD) → a ≡ or_role o d → (if b then (Some r) else a) ≡ or_role (if b then (Some r) else o) d
append_step true r a o d e = refl
append_step false r a o d e = e

pub role_of-append : (x : List ℕ) (ds es : List DeclaredD) → role_of x (ds ++ es) ≡ or_role (role_of x ds) (role_of x es)
role_of-append x [] es = refl
role_of-append x (d ∷ ds) es = append_step (bytes_eq d.name x) d.role _ (role_of x ds) (role_of x es) (role_of-append x ds es)

pub alike_declared : (x : List ℕ) (role : RoleD) (s t : ScopeD) → IsAlike s t → IsAlike (declare x role s) (declare x role t)
alike_declared x role s t h = record {
  names = λ y. role_of-append y s.names (record { name = x; role = role } ∷ []) ∙ ap (λ (o : Option RoleD). or_role o (role_of y (record { name = x; role = role } ∷ []))) (h.names y) ∙ sym (role_of-append y t.names (record { name = x; role = role } ∷ []));
  in_loop = h.in_loop;
  ordered = h.ordered;
}

abbrev farther_role : RoleD → RoleD
farther_role r = (farther (record { name = []; role = r })).role

farther_step : (b : Bool) (r : RoleD) (a o : Option RoleD) → a ≡ option_map farther_role o → (if b then (Some (farther_role r)) else a) ≡ option_map farther_role (if b then (Some r) else o)
farther_step true r a o e = refl
farther_step false r a o e = e

role_of-farther : (x : List ℕ) (ds : List DeclaredD) → role_of x (map farther ds) ≡ option_map farther_role (role_of x ds)
role_of-farther x [] = refl
role_of-farther x (d ∷ ds) = farther_step (bytes_eq d.name x) d.role _ (role_of x ds) (role_of-farther x ds)

pub alike_entered : (s t : ScopeD) → IsAlike s t → IsAlike (entered s) (entered t)
alike_entered s t h = record {
  names = λ x. role_of-farther x s.names ∙ ap (option_map farther_role) (h.names x) ∙ sym (role_of-farther x t.names);
  in_loop = refl;
  ordered = h.ordered;
}

pub alike_with : (b : BindingD) (s t : ScopeD) → IsAlike s t → IsAlike (with_binder b s) (with_binder b t)
alike_with (binding p x e) s t h = alike_declared x fixed s t h

pub alike_bound : (bs : BindingsD) (s t : ScopeD) → IsAlike s t → IsAlike (bound bs s) (bound bs t)
alike_bound no_bindings s t h = h
alike_bound (bind b bs) s t h = alike_bound bs (with_binder b s) (with_binder b t) (alike_with b s t h)

pub alike_behind : (a : StmtD) (s t : ScopeD) → IsAlike s t → IsAlike (scope_behind a s) (scope_behind a t)
alike_behind («let» p x e) s t h = alike_declared x inner s t h
alike_behind (assign p x e) s t h = h
alike_behind (add e p x) s t h = h
alike_behind (for b c body) s t h = h
alike_behind ((if) c l m) s t h = h
alike_behind (while p c n body) s t h = h
alike_behind (assert p c) s t h = h
alike_behind (print p q x) s t h = h

abbrev pub Part : Type 1
Part = ScopeD → RuleD → ℕ → Type 0

-- a part is broken alike in scopes that are alike
abbrev pub IsSteady : Part → Type 0
IsSteady P = (s t : ScopeD) → IsAlike s t → (rule : RuleD) (at : ℕ) → P s rule at → P t rule at

pub either_steady : (P Q : Part) → IsSteady P → IsSteady Q → IsSteady (λ s rule at. P s rule at ⊎ Q s rule at)
either_steady P Q p q s t h rule at b =
    elim b as (λ x. P t rule at ⊎ Q t rule at) [ inl y ↦ inl (p s t h rule at y) | inr z ↦ inr (q s t h rule at z) ]

pub use_steady : (x : List ℕ) (p : ℕ) → IsSteady (UseBreaks x p)
use_steady x p s t h rule at b = (b.0, b.1, sym (h.names x) ∙ b.2)

pub declaration_steady : (x : List ℕ) (p : ℕ) → IsSteady (DeclarationBreaks x p)
declaration_steady x p s t h rule at b = (b.0, b.1, b.2, sym (h.names x) ∙ b.3)

pub assign_steady : (x : List ℕ) (p : ℕ) → IsSteady (AssignBreaks x p)
assign_steady x p s t h rule at b =
    elim b as (λ y. AssignBreaks x p t rule at) [
      | inl u ↦ inl (use_steady x p s t h rule at u)
      | inr o ↦ inr (o.0, o.1, o.2, sym (h.names x) ∙ o.3, o.4)
    ]

pub add_steady : (x : List ℕ) (p : ℕ) → IsSteady (AddBreaks x p)
add_steady x p s t h rule at b =
    elim b as (λ y. AddBreaks x p t rule at) [
      | inl u ↦ inl (use_steady x p s t h rule at u)
      | inr o ↦ inr (o.0, o.1, sym (h.names x) ∙ o.2)
    ]

mutual
  pub expr_steady : (e : ExprD) → IsSteady (ExprBreaks e)
  expr_steady (atoms p) s t h rule at b = b
  expr_steady (var p x) s t h rule at b = use_steady x p s t h rule at b
  expr_steady (tag p x) s t h rule at b = b
  expr_steady (tuple p es) s t h rule at b = exprs_steady es s t h rule at b
  expr_steady (listed p es) s t h rule at b = exprs_steady es s t h rule at b
  expr_steady (each p e bs c) s t h rule at b =
      elim b as (λ y. ExprBreaks (each p e bs c) t rule at) [
        | inl y ↦ inl (bindings_steady bs s t h rule at y)
        | inr z ↦ inr (elim z as (λ y. ExprBreaks e (bound bs t) rule at ⊎ CondBreaks c (bound bs t) rule at) [
          | inl u ↦ inl (expr_steady e (bound bs s) (bound bs t) (alike_bound bs s t h) rule at u)
          | inr v ↦ inr (cond_steady c (bound bs s) (bound bs t) (alike_bound bs s t h) rule at v)
        ])
      ]
  expr_steady (part p e n) s t h rule at b = expr_steady e s t h rule at b
  expr_steady (apply p op es) s t h rule at b = exprs_steady es s t h rule at b

  pub exprs_steady : (es : ExprsD) → IsSteady (ExprsBreak es)
  exprs_steady no_exprs s t h rule at b = b
  exprs_steady (expr e es) s t h rule at b =
      elim b as (λ y. ExprsBreak (expr e es) t rule at) [ inl y ↦ inl (expr_steady e s t h rule at y) | inr z ↦ inr (exprs_steady es s t h rule at z) ]

  pub bindings_steady : (bs : BindingsD) → IsSteady (BindingsBreak bs)
  bindings_steady no_bindings s t h rule at b = b
  bindings_steady (bind d bs) s t h rule at b =
      elim b as (λ y. BindingsBreak (bind d bs) t rule at) [
        | inl y ↦ inl (binding_steady d s t h rule at y)
        | inr z ↦ inr (bindings_steady bs (with_binder d s) (with_binder d t) (alike_with d s t h) rule at z)
      ]

  pub binding_steady : (d : BindingD) → IsSteady (BindingBreaks d)
  binding_steady (binding p x e) s t h rule at b =
      elim b as (λ y. BindingBreaks (binding p x e) t rule at) [
        | inl y ↦ inl (declaration_steady x p s t h rule at y)
        | inr z ↦ inr (expr_steady e s t h rule at z)
      ]

  pub cond_steady : (c : CondD) → IsSteady (CondBreaks c)
  cond_steady truth s t h rule at b = b
  cond_steady falsity s t h rule at b = b
  cond_steady (same e f) s t h rule at b = elim b as (λ y. ExprBreaks e t rule at ⊎ ExprBreaks f t rule at) [ inl y ↦ inl (expr_steady e s t h rule at y) | inr z ↦ inr (expr_steady f s t h rule at z) ]
  cond_steady (differ e f) s t h rule at b = elim b as (λ y. ExprBreaks e t rule at ⊎ ExprBreaks f t rule at) [ inl y ↦ inl (expr_steady e s t h rule at y) | inr z ↦ inr (expr_steady f s t h rule at z) ]
  cond_steady (below p e f) s t h rule at b =
      elim b as (λ y. CondBreaks (below p e f) t rule at) [
        | inl y ↦ inl (expr_steady e s t h rule at y)
        | inr z ↦ inr (elim z as (λ y. ComparisonBreaks p t rule at ⊎ ExprBreaks f t rule at) [
          | inl o ↦ inl (o.0, o.1, sym h.ordered ∙ o.2)
          | inr v ↦ inr (expr_steady f s t h rule at v)
        ])
      ]
  cond_steady (member e f) s t h rule at b = elim b as (λ y. ExprBreaks e t rule at ⊎ ExprBreaks f t rule at) [ inl y ↦ inl (expr_steady e s t h rule at y) | inr z ↦ inr (expr_steady f s t h rule at z) ]
  cond_steady (included e f) s t h rule at b = elim b as (λ y. ExprBreaks e t rule at ⊎ ExprBreaks f t rule at) [ inl y ↦ inl (expr_steady e s t h rule at y) | inr z ↦ inr (expr_steady f s t h rule at z) ]
  cond_steady (empty e) s t h rule at b = expr_steady e s t h rule at b
  cond_steady (not c) s t h rule at b = cond_steady c s t h rule at b
  cond_steady (all cs) s t h rule at b = conds_steady cs s t h rule at b
  cond_steady (any cs) s t h rule at b = conds_steady cs s t h rule at b
  cond_steady (exists d c) s t h rule at b =
      elim b as (λ y. BindingBreaks d t rule at ⊎ CondBreaks c (with_binder d t) rule at) [
        | inl y ↦ inl (binding_steady d s t h rule at y)
        | inr z ↦ inr (cond_steady c (with_binder d s) (with_binder d t) (alike_with d s t h) rule at z)
      ]
  cond_steady (every d c) s t h rule at b =
      elim b as (λ y. BindingBreaks d t rule at ⊎ CondBreaks c (with_binder d t) rule at) [
        | inl y ↦ inl (binding_steady d s t h rule at y)
        | inr z ↦ inr (cond_steady c (with_binder d s) (with_binder d t) (alike_with d s t h) rule at z)
      ]

  pub conds_steady : (cs : CondsD) → IsSteady (CondsBreak cs)
  conds_steady no_conds s t h rule at b = b
  conds_steady (cond c cs) s t h rule at b =
      elim b as (λ y. CondsBreak (cond c cs) t rule at) [ inl y ↦ inl (cond_steady c s t h rule at y) | inr z ↦ inr (conds_steady cs s t h rule at z) ]

mutual
  pub stmt_steady : (a : StmtD) → IsSteady (StmtBreaks a)
  stmt_steady («let» p x e) s t h rule at b =
      elim b as (λ y. StmtBreaks («let» p x e) t rule at) [ inl y ↦ inl (declaration_steady x p s t h rule at y) | inr z ↦ inr (expr_steady e s t h rule at z) ]
  stmt_steady (assign p x e) s t h rule at b =
      elim b as (λ y. StmtBreaks (assign p x e) t rule at) [ inl y ↦ inl (assign_steady x p s t h rule at y) | inr z ↦ inr (expr_steady e s t h rule at z) ]
  stmt_steady (add e p x) s t h rule at b =
      elim b as (λ y. StmtBreaks (add e p x) t rule at) [ inl y ↦ inl (expr_steady e s t h rule at y) | inr z ↦ inr (add_steady x p s t h rule at z) ]
  stmt_steady (for d c body) s t h rule at b =
      elim b as (λ y. StmtBreaks (for d c body) t rule at) [
        | inl y ↦ inl (binding_steady d s t h rule at y)
        | inr z ↦ inr (elim z as (λ y. CondBreaks c (with_binder d (entered t)) rule at ⊎ StmtsBreak body (with_binder d (entered t)) rule at) [
          | inl u ↦ inl (cond_steady c (with_binder d (entered s)) (with_binder d (entered t)) (alike_with d (entered s) (entered t) (alike_entered s t h)) rule at u)
          | inr v ↦ inr (stmts_steady body (with_binder d (entered s)) (with_binder d (entered t)) (alike_with d (entered s) (entered t) (alike_entered s t h)) rule at v)
        ])
      ]
  stmt_steady ((if) c l m) s t h rule at b =
      elim b as (λ y. StmtBreaks ((if) c l m) t rule at) [
        | inl y ↦ inl (cond_steady c s t h rule at y)
        | inr z ↦ inr (elim z as (λ y. StmtsBreak l t rule at ⊎ StmtsBreak m t rule at) [
          | inl u ↦ inl (stmts_steady l s t h rule at u)
          | inr v ↦ inr (stmts_steady m s t h rule at v)
        ])
      ]
  stmt_steady (while p c n body) s t h rule at b =
      elim b as (λ y. StmtBreaks (while p c n body) t rule at) [ inl y ↦ inl (cond_steady c s t h rule at y) | inr z ↦ inr (stmts_steady body s t h rule at z) ]
  stmt_steady (assert p c) s t h rule at b = cond_steady c s t h rule at b
  stmt_steady (print p q x) s t h rule at b =
      elim b as (λ y. StmtBreaks (print p q x) t rule at) [
        | inl y ↦ inl (y.0, y.1, sym h.in_loop ∙ y.2)
        | inr z ↦ inr (use_steady x q s t h rule at z)
      ]

  pub stmts_steady : (l : StmtsD) → IsSteady (StmtsBreak l)
  stmts_steady no_stmts s t h rule at b = b
  stmts_steady (stmt a l) s t h rule at b =
      elim b as (λ y. StmtsBreak (stmt a l) t rule at) [
        | inl y ↦ inl (stmt_steady a s t h rule at y)
        | inr z ↦ inr (stmts_steady l (scope_behind a s) (scope_behind a t) (alike_behind a s t h) rule at z)
      ]

pub alike_parameters : (ps : List ParamD) (s t : ScopeD) → IsAlike s t → IsAlike (with_parameters ps s) (with_parameters ps t)
alike_parameters [] s t h = h
alike_parameters (p ∷ ps) s t h = alike_parameters ps (declare p.name fixed s) (declare p.name fixed t) (alike_declared p.name fixed s t h)

pub parameters_steady : (ps : List ParamD) → IsSteady (ParametersBreak ps)
parameters_steady [] s t h rule at b = b
parameters_steady (p ∷ ps) s t h rule at b =
    elim b as (λ y. ParametersBreak (p ∷ ps) t rule at) [
      | inl y ↦ inl (declaration_steady p.name p.place s t h rule at y)
      | inr z ↦ inr (parameters_steady ps (declare p.name fixed s) (declare p.name fixed t) (alike_declared p.name fixed s t h) rule at z)
    ]
