-- In a loop's body no name from outside is assigned.
use Rattle.std.proofs.Common.{◌≡◌, ℕ, ◌⊎◌, inl, inr, Bool, true, false, List, [], ◌∷◌, ◌++◌, map, Some, refl, sym, subst, if◌then◌else◌, bytes_eq, arith}
use Rattle.std.proofs.lemmas.Slice.Eq.{bytes_eq-Decides}
use Rattle.std.specs.List.{Contains}
use Rattle.lois_context.proofs.Later.{first_or_later}
use Rattle.lois_interp.specs.WellScoped.{declared_name}
use Rattle.lois_interp.specs.Assigned.{StmtAssigns, ListAssigns}
use Rattle.lois_script.specs.Scope.{RoleD, inner, outer, fixed, RuleD, outer_assign, DeclaredD, ScopeD, role_of, farther, entered, with_binder, scope_behind, StmtBreaks, StmtsBreak}
use Rattle.lois_script.specs.Tree.{BindingD, binding, StmtD, «let», assign, add, for, if, while, assert, print, StmtsD, no_stmts, stmt}

-- the name is in scope, and was made outside of the innermost loop
abbrev pub IsOuter : List ℕ → List DeclaredD → Type 0
IsOuter y ds = (r : RoleD) × (role_of y ds ≡ Some r) × (r ≡ inner → ⊥)

outer_append : (y : List ℕ) (ds es : List DeclaredD) → IsOuter y ds → IsOuter y (ds ++ es)
outer_append y [] es (r, e, n) = absurd (cc)
outer_append y (d ∷ ds) es (r, e, n) = go (bytes_eq d.name y) (λ k. outer_append y ds es (r, k, n)) e
  where
    go : (p : Bool) → (role_of y ds ≡ Some r → IsOuter y (ds ++ es)) → (if p then (Some d.role) else (role_of y ds)) ≡ Some r → (q : RoleD) × ((if p then (Some d.role) else (role_of y (ds ++ es))) ≡ Some q) × (q ≡ inner → ⊥)
    go true later k = (r, k, n)
    go false later k = later k

farther_role : (d : DeclaredD) → (farther d).role ≡ inner → ⊥
farther_role d e = go d.role e
  where
    go : (r : RoleD) → elim r as (λ r. RoleD) [ inner ↦ outer | outer ↦ outer | fixed ↦ fixed ] ≡ inner → ⊥
    go inner e = cc
    go outer e = cc
    go fixed e = cc

-- what is in scope outside of a loop is outer inside
pub outer_inside : (y : List ℕ) (ds : List DeclaredD) → Contains (map declared_name ds) y → IsOuter y (map farther ds)
outer_inside y [] h = absurd (omega (arith, h.1))
outer_inside y (d ∷ ds) h = go (bytes_eq d.name y) refl (outer_inside y ds) (first_or_later d.name (map declared_name ds) y h)
  where
    go : (p : Bool) → bytes_eq d.name y ≡ p → (Contains (map declared_name ds) y → IsOuter y (map farther ds)) → (d.name ≡ y) ⊎ Contains (map declared_name ds) y → (q : RoleD) × ((if p then (Some (farther d).role) else (role_of y (map farther ds))) ≡ Some q) × (q ≡ inner → ⊥)
    go true e rest k = ((farther d).role, refl, farther_role d)
    go false e rest (inl same) =
        let is : bytes_eq d.name y ≡ true = (bytes_eq-Decides d.name y).1 same in
        absurd (cc)
    go false e rest (inr later) = rest later

farther_outer : (y : List ℕ) (ds : List DeclaredD) → IsOuter y ds → IsOuter y (map farther ds)
farther_outer y [] (r, e, n) = absurd (cc)
farther_outer y (d ∷ ds) (r, e, n) = go (bytes_eq d.name y) (λ k. farther_outer y ds (r, k, n)) e
  where
    go : (p : Bool) → (role_of y ds ≡ Some r → IsOuter y (map farther ds)) → (if p then (Some d.role) else (role_of y ds)) ≡ Some r → (q : RoleD) × ((if p then (Some (farther d).role) else (role_of y (map farther ds))) ≡ Some q) × (q ≡ inner → ⊥)
    go true later k = ((farther d).role, refl, farther_role d)
    go false later k = later k

outer_in_loop : (y : List ℕ) (b : BindingD) (s : ScopeD) → IsOuter y s.names → IsOuter y (with_binder b (entered s)).names
outer_in_loop y (binding p x e) s h = outer_append y (map farther s.names) _ (farther_outer y s.names h)

outer_behind : (y : List ℕ) (a : StmtD) (s : ScopeD) → IsOuter y s.names → IsOuter y (scope_behind a s).names
outer_behind y («let» p x e) s h = outer_append y s.names _ h
outer_behind y (assign p x e) s h = h
outer_behind y (add e p x) s h = h
outer_behind y (for b c body) s h = h
outer_behind y ((if) c yes_block no_block) s h = h
outer_behind y (while p c n body) s h = h
outer_behind y (assert p c) s h = h
outer_behind y (print p q x) s h = h

mutual
  pub stmt_unassigned : (a : StmtD) (s : ScopeD) (y : List ℕ) → IsOuter y s.names → ((rule : RuleD) (at : ℕ) → StmtBreaks a s rule at → ⊥) → StmtAssigns a y → ⊥
  stmt_unassigned («let» p x e) s y h fine bad = bad
  stmt_unassigned (assign p x e) s y (r, is, n) fine bad =
      fine outer_assign p (inl (inr (refl, refl, r, subst (λ z. role_of z s.names ≡ Some r) (sym bad) is, n)))
  stmt_unassigned (add e p x) s y h fine bad = bad
  stmt_unassigned (for b c body) s y h fine bad =
      list_unassigned body (with_binder b (entered s)) y (outer_in_loop y b s h) (λ rule at k. fine rule at (inr (inr k))) bad
  stmt_unassigned ((if) c yes_block no_block) s y h fine (inl bad) = list_unassigned yes_block s y h (λ rule at k. fine rule at (inr (inl k))) bad
  stmt_unassigned ((if) c yes_block no_block) s y h fine (inr bad) = list_unassigned no_block s y h (λ rule at k. fine rule at (inr (inr k))) bad
  stmt_unassigned (while p c n body) s y h fine bad = list_unassigned body s y h (λ rule at k. fine rule at (inr k)) bad
  stmt_unassigned (assert p c) s y h fine bad = bad
  stmt_unassigned (print p q x) s y h fine bad = bad

  pub list_unassigned : (body : StmtsD) (s : ScopeD) (y : List ℕ) → IsOuter y s.names → ((rule : RuleD) (at : ℕ) → StmtsBreak body s rule at → ⊥) → ListAssigns body y → ⊥
  list_unassigned no_stmts s y h fine bad = bad
  list_unassigned (stmt a rest) s y h fine (inl bad) = stmt_unassigned a s y h (λ rule at k. fine rule at (inl k)) bad
  list_unassigned (stmt a rest) s y h fine (inr bad) = list_unassigned rest (scope_behind a s) y (outer_behind y a s h) (λ rule at k. fine rule at (inr k)) bad

-- in the body of a loop no name from before it is assigned
pub body_unassigned : (b : BindingD) (body : StmtsD) (s : ScopeD) (y : List ℕ) → Contains (map declared_name s.names) y → ((rule : RuleD) (at : ℕ) → StmtsBreak body (with_binder b (entered s)) rule at → ⊥) → ListAssigns body y → ⊥
body_unassigned b body s y h fine = list_unassigned body (with_binder b (entered s)) y (start b) fine
  where
    start : (b : BindingD) → IsOuter y (with_binder b (entered s)).names
    start (binding p x e) = outer_append y (map farther s.names) _ (outer_inside y s.names h)
