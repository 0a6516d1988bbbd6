-- The walk over a node, from the walks over its parts.
use Rattle.std.proofs.Common.{◌≡◌, ◌⊎◌, inl, inr, List, take, length, Result, Ok, Err, OnOk}
use Rattle.lois_script.specs.Scope.{with_binder, bound, ExprBreaks, BindingBreaks, BindingsBreak, CondBreaks}
use Rattle.lois_script.specs.Tree.{ExprD, BindingD, BindingsD, CondD, exists, every}
use Rattle.lois_script.specs.View.{tree, binding_tree, cond_tree}
use Rattle.lois_script.specs.declared.syntax.Expr.{Expr}
use Rattle.lois_script.specs.declared.syntax.Cond.{Cond}
use Rattle.lois_script.specs.declared.syntax.Cond.TheVariants.{Same, Differ, Member, Included}
use Rattle.lois_script.specs.declared.syntax.Binding.{Binding}
use Rattle.lois_script.proofs.Views.{binding_is, cond_Same, cond_Differ, cond_Member, cond_Included}
use Rattle.lois_scope.specs.InScope.{with_name}
use Rattle.lois_scope.specs.Walks.{SeenD, Walks, AdvancesScope}
use Rattle.lois_scope.specs.declared.names.Made.TheVariants.{Fixed}
use Rattle.lois_scope.proofs.Alike.{Part, either_steady, expr_steady, cond_steady}
use Rattle.lois_scope.proofs.Declared.{walked_and_declared}
use Rattle.lois_scope.proofs.Walked.{stay, walks_both, leads_walked, leads_both, walks_cut}

pub on_ok : {A E P Q : Type 0} (r : Result A E) → (P → Q) → OnOk r P → OnOk r Q
on_ok (Ok x) to h = to h
on_ok (Err e) to h = h

pub bound_behind : (P : Part) (b : Binding) (a w d : SeenD) → Walks P a w → d.state.made ≡ with_name w.state.made b.name Fixed
    → d.state.loops ≡ w.state.loops → d.state.ordered ≡ w.state.ordered → d.kept ≡ w.kept → AdvancesScope P (with_binder (binding_tree b)) a d
bound_behind P b a w d h made loops ordered kept = rw (binding_is b) (walked_and_declared P b.name Fixed a w d h made loops ordered kept tt)

pub comparison : (x : Cond) (l r : Expr) (a b : SeenD) → (x ≡ Same l r) ⊎ ((x ≡ Differ l r) ⊎ ((x ≡ Member l r) ⊎ (x ≡ Included l r)))
    → Walks (λ s rule at. ExprBreaks (tree l) s rule at ⊎ ExprBreaks (tree r) s rule at) a b → Walks (CondBreaks (cond_tree x)) a b
comparison x l r a b is h =
    elim is as (λ y. Walks (CondBreaks (cond_tree x)) a b) [
      | inl e ↦ rw (e, cond_Same l r) h
      | inr more ↦ elim more as (λ y. Walks (CondBreaks (cond_tree x)) a b) [
        | inl e ↦ rw (e, cond_Differ l r) h
        | inr most ↦ elim most as (λ y. Walks (CondBreaks (cond_tree x)) a b) [
          | inl e ↦ rw (e, cond_Member l r) h
          | inr e ↦ rw (e, cond_Included l r) h
        ]
      ]
    ]

pub quantifier : (x : CondD) (b : BindingD) (c : CondD) (a d k z : SeenD) → (x ≡ exists b c) ⊎ (x ≡ every b c)
    → AdvancesScope (BindingBreaks b) (with_binder b) a d → Walks (CondBreaks c) d k → z.state.made ≡ take (length a.state.made) k.state.made
    → z.state.loops ≡ k.state.loops → z.state.ordered ≡ k.state.ordered → z.kept ≡ k.kept → Walks (CondBreaks x) a z
quantifier x b c a d k z is h g made loops ordered kept =
    let all : Walks (λ s rule at. BindingBreaks b s rule at ⊎ CondBreaks c (with_binder b s) rule at) a z =
    walks_cut (λ s rule at. BindingBreaks b s rule at ⊎ CondBreaks c (with_binder b s) rule at) (with_binder b) a k z
    (leads_both (BindingBreaks b) (CondBreaks c) (with_binder b) stay (cond_steady c) (λ s t l. l) a d k h (leads_walked (CondBreaks c) d k g))
    made loops ordered kept in
    elim is as (λ y. Walks (CondBreaks x) a z) [ inl e ↦ rw e all | inr e ↦ rw e all ]

pub comprehension : (e : ExprD) (bs : BindingsD) (c : CondD) (a d k m z : SeenD) → AdvancesScope (BindingsBreak bs) (bound bs) a d → Walks (ExprBreaks e) d k → Walks (CondBreaks c) k m
    → z.state.made ≡ take (length a.state.made) m.state.made → z.state.loops ≡ m.state.loops → z.state.ordered ≡ m.state.ordered → z.kept ≡ m.kept
    → Walks (λ s rule at. BindingsBreak bs s rule at ⊎ (ExprBreaks e (bound bs s) rule at ⊎ CondBreaks c (bound bs s) rule at)) a z
comprehension e bs c a d k m z h g w made loops ordered kept =
    let both = walks_both (ExprBreaks e) (CondBreaks c) d k m g w in
    let steady = either_steady (ExprBreaks e) (CondBreaks c) (expr_steady e) (cond_steady c) in
    walks_cut (λ s rule at. BindingsBreak bs s rule at ⊎ (ExprBreaks e (bound bs s) rule at ⊎ CondBreaks c (bound bs s) rule at)) (bound bs) a m z
    (leads_both (BindingsBreak bs) (λ s rule at. ExprBreaks e s rule at ⊎ CondBreaks c s rule at) (bound bs) stay steady (λ s t l. l) a d m h
    (leads_walked (λ s rule at. ExprBreaks e s rule at ⊎ CondBreaks c s rule at) d m both))
    made loops ordered kept
