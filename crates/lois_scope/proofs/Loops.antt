-- The walk over `let` and `for`.
use Rattle.std.proofs.Common.{◌≡◌, ℕ, suc, ◌+◌, ◌⊎◌, inl, inr, true, List, [], ◌∷◌, take, length, sym, ap, subst, ◌∙◌, nat_lt, arith}
use Rattle.std.proofs.lemmas.List.Elements.{All-head, All-tail, All-cons, All-nil}
use Rattle.std.specs.List.{All}
use Rattle.lois_script.specs.Scope.{RuleD, ScopeD, inner, fixed, declare, entered, with_binder, scope_behind, DeclarationBreaks, ExprBreaks, BindingBreaks, CondBreaks, StmtBreaks, StmtsBreak}
use Rattle.lois_script.specs.Tree.{ExprD, BindingD, CondD, StmtsD, «let», for}
use Rattle.lois_script.specs.View.{binding_tree}
use Rattle.lois_script.specs.declared.syntax.Binding.{Binding}
use Rattle.lois_scope.specs.Breaks.{KeepsLeast}
use Rattle.lois_scope.specs.InScope.{MadeD, role_inside, with_name}
use Rattle.lois_scope.specs.Walks.{StateD, SeenD, scope_of, IsMadeWithin, IsWithin, IsAlike, Walks, AdvancesScope, Enters}
use Rattle.lois_scope.specs.declared.names.Made.{Made}
use Rattle.lois_scope.specs.declared.names.Made.TheVariants.{Variable, Fixed}
use Rattle.lois_scope.proofs.Kept.{keeps_both, keeps_as}
use Rattle.lois_scope.proofs.Alike.{Part, cond_steady, stmts_steady}
use Rattle.lois_scope.proofs.Declared.{declared_state, declared_alike, declared_prefix, declared_within, walked_and_declared, made_here, farther_out}
use Rattle.lois_script.proofs.Views.{binding_is}
use Rattle.lois_scope.proofs.Walked.{walks_both, keeps_alike}

pub let_behind : (p : ℕ) (x : List ℕ) (e : ExprD) (a w k z : SeenD) → Walks (DeclarationBreaks x p) a w → Walks (ExprBreaks e) w k
    → z.state.made ≡ with_name k.state.made x (Variable k.state.loops) → z.state.loops ≡ k.state.loops → z.state.ordered ≡ k.state.ordered → z.kept ≡ k.kept
    → AdvancesScope (StmtBreaks («let» p x e)) (scope_behind («let» p x e)) a z
let_behind p x e a w k z h g made loops ordered kept =
    let P : Part = λ s rule at. DeclarationBreaks x p s rule at ⊎ ExprBreaks e s rule at in
    let both : Walks P a k = walks_both (DeclarationBreaks x p) (ExprBreaks e) a w k h g in
    let same : k.state.loops ≡ a.state.loops = ap (λ (s : StateD). s.loops) both.state in
    let led = walked_and_declared P x (Variable k.state.loops) a k z both made loops ordered kept (omega (arith, same)) in
    let role : role_inside a.state.loops (Variable k.state.loops) ≡ inner = ap (λ (n : ℕ). role_inside a.state.loops (Variable n)) same ∙ made_here a.state.loops in
    subst (λ r. AdvancesScope P (declare x r) a z) role led

within_more : (loops : ℕ) (made : List MadeD) → All (λ d. IsMadeWithin loops d.made) made → All (λ d. IsMadeWithin (suc loops) d.made) made
within_more loops [] h = All-nil (λ d. IsMadeWithin (suc loops) d.made)
within_more loops (d ∷ ds) h =
    All-cons (λ d. IsMadeWithin (suc loops) d.made) d ds (one d.made (All-head (λ d. IsMadeWithin loops d.made) d ds h)) (within_more loops ds (All-tail (λ d. IsMadeWithin loops d.made) d ds h))
  where
    one : (m : Made) → IsMadeWithin loops m → IsMadeWithin (suc loops) m
    one (Variable own) h = omega arith
    one Fixed h = tt

abbrev entered_state : StateD → StateD
entered_state s = record { made = s.made; loops = suc s.loops; ordered = s.ordered }

entered_scope : (s : StateD) → IsWithin s → scope_of (entered_state s) ≡ entered (scope_of s)
entered_scope s w =
    let names = farther_out s.loops s.made w in
    let inside : nat_lt 0 (suc s.loops) ≡ true = grind arith in
    λ i. record { names = names i; in_loop = inside i; ordered = s.ordered }

pub enters : (b : Binding) (c : CondD) (a w d k : SeenD) → IsWithin a.state → Walks (BindingBreaks (binding_tree b)) a w
    → d.state.made ≡ with_name w.state.made b.name Fixed → d.state.loops ≡ suc w.state.loops → d.state.ordered ≡ w.state.ordered → d.kept ≡ w.kept
    → Walks (CondBreaks c) d k → Enters (binding_tree b) c a k
enters b c a w d k within h made loops ordered kept g =
    let x = b.name in
    let start : StateD = entered_state a.state in
    let inside : ScopeD = with_binder (binding_tree b) (entered (scope_of a.state)) in
    let e : k.state ≡ declared_state start x Fixed =
    g.state ∙ (λ i. record { made = (made ∙ ap (λ (s : StateD). with_name s.made x Fixed) h.state) i; loops = (loops ∙ ap (λ (s : StateD). suc s.loops) h.state) i; ordered = (ordered ∙ ap (λ (s : StateD). s.ordered) h.state) i }) in
    let alike : IsAlike (scope_of (declared_state start x Fixed)) inside =
    rw (binding_is b) (subst (λ (s : ScopeD). IsAlike (scope_of (declared_state start x Fixed)) (declare x fixed s)) (entered_scope a.state within) (declared_alike start x Fixed)) in
    let scope : IsAlike (scope_of k.state) inside = subst (λ (s : StateD). IsAlike (scope_of s) inside) (sym e) alike in
    let behind : IsAlike (scope_of d.state) inside = subst (λ (s : StateD). IsAlike (scope_of s) inside) g.state scope in
    record {
      made = ap (λ (s : StateD). take (length a.state.made) s.made) e ∙ declared_prefix x Fixed a.state.made;
      loops = ap (λ (s : StateD). s.loops) e;
      ordered = ap (λ (s : StateD). s.ordered) e;
      within = subst IsWithin (sym e) (declared_within (suc a.state.loops) x Fixed a.state.made tt (within_more a.state.loops a.state.made within));
      scope = scope;
      first = keeps_both (BindingBreaks (binding_tree b) (scope_of a.state)) (CondBreaks c inside) a.kept w.kept k.kept h.first
          (subst (λ m. KeepsLeast (CondBreaks c inside) m k.kept) kept (keeps_alike (CondBreaks c) (cond_steady c) (scope_of d.state) inside d.kept k.kept behind g.first));
    }

to_right : (B C D : RuleD → ℕ → Type 0) (rule : RuleD) (at : ℕ) → (B rule at ⊎ C rule at) ⊎ D rule at → B rule at ⊎ (C rule at ⊎ D rule at)
to_right B C D rule at (inl (inl x)) = inl x
to_right B C D rule at (inl (inr y)) = inr (inl y)
to_right B C D rule at (inr z) = inr (inr z)

to_left : (B C D : RuleD → ℕ → Type 0) (rule : RuleD) (at : ℕ) → B rule at ⊎ (C rule at ⊎ D rule at) → (B rule at ⊎ C rule at) ⊎ D rule at
to_left B C D rule at (inl x) = inl (inl x)
to_left B C D rule at (inr (inl y)) = inl (inr y)
to_left B C D rule at (inr (inr z)) = inr z

pub loop_behind : (b : BindingD) (c : CondD) (body : StmtsD) (a m k z : SeenD) → Enters b c a m → Walks (StmtsBreak body) m k
    → z.state.made ≡ take (length a.state.made) k.state.made → z.state.loops + 1 ≡ k.state.loops → z.state.ordered ≡ k.state.ordered → z.kept ≡ k.kept
    → Walks (StmtBreaks (for b c body)) a z
loop_behind b c body a m k z h g made loops ordered kept =
    let inside : ScopeD = with_binder b (entered (scope_of a.state)) in
    let B : RuleD → ℕ → Type 0 = BindingBreaks b (scope_of a.state) in
    let C : RuleD → ℕ → Type 0 = CondBreaks c inside in
    let D : RuleD → ℕ → Type 0 = StmtsBreak body inside in
    let within : z.state.loops ≡ a.state.loops = omega (arith, loops, ap (λ (s : StateD). s.loops) g.state, h.loops) in
    let names : z.state.made ≡ a.state.made = made ∙ ap (λ (s : StateD). take (length a.state.made) s.made) g.state ∙ h.made in
    let order : z.state.ordered ≡ a.state.ordered = ordered ∙ ap (λ (s : StateD). s.ordered) g.state ∙ h.ordered in
    let both : KeepsLeast (λ rule at. (B rule at ⊎ C rule at) ⊎ D rule at) a.kept k.kept =
    keeps_both (λ rule at. B rule at ⊎ C rule at) D a.kept m.kept k.kept h.first
    (keeps_alike (StmtsBreak body) (stmts_steady body) (scope_of m.state) inside m.kept k.kept h.scope g.first) in
    record {
      state = λ i. record { made = names i; loops = within i; ordered = order i };
      first = subst (KeepsLeast (StmtBreaks (for b c body) (scope_of a.state)) a.kept) (sym kept)
          (keeps_as (λ rule at. (B rule at ⊎ C rule at) ⊎ D rule at) (λ rule at. B rule at ⊎ (C rule at ⊎ D rule at)) a.kept k.kept (λ rule at. to_right B C D rule at) (λ rule at. to_left B C D rule at) both);
    }
