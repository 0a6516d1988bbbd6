-- Operands that are unfit for an operation.
use Rattle.std.proofs.Common.{◌≡◌, ℕ, ◌⊎◌, Bool, inl, inr, List, [], ◌∷◌, sym, subst, ◌∙◌}
use Rattle.lois_base.specs.Atom.{Atom}
use Rattle.lois_base.specs.Data.{TermD, terms_of}
use Rattle.lois_base.specs.Values.{point}
use Rattle.lois_meaning.specs.Expressions.{IsValidOperand}
use Rattle.lois_meaning.specs.Faults.{IsNoSet, IsInvalidOperand}
use Rattle.lois_meaning.specs.Kinds.{IsSet}
use Rattle.lois_meaning.specs.declared.faults.Fault.{Fault}
use Rattle.lois_answers.specs.declared.faults.FaultKind.{FaultKind}
use Rattle.lois_script.specs.Tree.{ExprD, pos}
use Rattle.lois_script.specs.View.{exprs_of}
use Rattle.lois_script.specs.declared.syntax.Operation.{Operation}
use Rattle.lois_script.specs.declared.syntax.Operation.TheVariants.{Union, Inter, Minus, Flatten, Reach, Product, Complement, Minimise}
use Rattle.lois_context.specs.declared.contexts.Context.{Context}
use Rattle.lois_terms.specs.Collections.{IsColl}
use Rattle.lois_eval.specs.Checks.{IsSetFault}
use Rattle.lois_eval.specs.Operands.{IsOfTwoSets, IsUnfitFault, IsMemberFault}
use Rattle.lois_eval.proofs.TermKinds.{set_at, no_set_at}

unfit_set : (op : Operation) → IsOfTwoSets op → (v : _) (kind : FaultKind) → IsNoSet v kind → IsInvalidOperand op v kind
unfit_set Union o v kind h = h
unfit_set Inter o v kind h = h
unfit_set Minus o v kind h = h
unfit_set Flatten o v kind h = absurd o
unfit_set Reach o v kind h = absurd o
unfit_set Product o v kind h = absurd o
unfit_set Complement o v kind h = absurd o
unfit_set Minimise o v kind h = absurd o

valid_set : (op : Operation) → IsOfTwoSets op → (v : _) → IsSet v → IsValidOperand v op
valid_set Union o v h = h
valid_set Inter o v h = h
valid_set Minus o v h = h
valid_set Flatten o v h = absurd o
valid_set Reach o v h = absurd o
valid_set Product o v h = absurd o
valid_set Complement o v h = absurd o
valid_set Minimise o v h = absurd o

module _ (ordered : Bool) (k : Context) (x : Fault) where
  no_set : (t : TermD) (at : ℕ) → IsSetFault k t at x → (c : List Atom) → IsNoSet (point t c) x.kind
  no_set t at h c = (h.kind, no_set_at t c h.no_set)

  pub left_unfit : (op : Operation) → IsOfTwoSets op → (e f : ExprD) (s t : TermD) (es : List ExprD) (ts : List TermD) (at : ℕ) → es ≡ e ∷ f ∷ [] → ts ≡ s ∷ t ∷ [] → at ≡ pos e → IsSetFault k s at x → IsUnfitFault ordered k op (exprs_of es) (terms_of ts) x
  left_unfit op o e f s t es ts at operands values place h = subst (λ z. IsUnfitFault ordered k op (exprs_of es) (terms_of z) x) (sym values) (subst (λ z. IsUnfitFault ordered k op (exprs_of z) (terms_of (s ∷ t ∷ [])) x) (sym operands) (record {
    admitted = h.fault.admitted;
    first = inl (h.fault.place ∙ place, λ c stand. unfit_set op o (point s c) x.kind (no_set s at h c));
    elements = h.fault.elements;
  }))

  pub right_unfit : (op : Operation) → IsOfTwoSets op → (e f : ExprD) (s t : TermD) (es : List ExprD) (ts : List TermD) (at : ℕ) → es ≡ e ∷ f ∷ [] → ts ≡ s ∷ t ∷ [] → at ≡ pos f → IsColl s → IsSetFault k t at x → IsUnfitFault ordered k op (exprs_of es) (terms_of ts) x
  right_unfit op o e f s t es ts at operands values place left h = subst (λ z. IsUnfitFault ordered k op (exprs_of es) (terms_of z) x) (sym values) (subst (λ z. IsUnfitFault ordered k op (exprs_of z) (terms_of (s ∷ t ∷ [])) x) (sym operands) (record {
    admitted = h.fault.admitted;
    first = inr (λ c a. valid_set op o (point s c) (set_at s c left), inl (h.fault.place ∙ place, λ c stand. unfit_set op o (point t c) x.kind (no_set t at h c)));
    elements = h.fault.elements;
  }))

  pub flatten_unfit : (e : ExprD) (s : TermD) (op : Operation) (es : List ExprD) (ts : List TermD) (at : ℕ) → op ≡ Flatten → es ≡ e ∷ [] → ts ≡ s ∷ [] → at ≡ pos e → IsSetFault k s at x ⊎ IsMemberFault ordered k s at x → IsUnfitFault ordered k op (exprs_of es) (terms_of ts) x
  flatten_unfit e s op es ts at is operands values place h = subst (λ z. IsUnfitFault ordered k z (exprs_of es) (terms_of ts) x) (sym is) (subst (λ z. IsUnfitFault ordered k Flatten (exprs_of es) (terms_of z) x) (sym values) (subst (λ z. IsUnfitFault ordered k Flatten (exprs_of z) (terms_of (s ∷ [])) x) (sym operands) (of h)))
    where
      of : IsSetFault k s at x ⊎ IsMemberFault ordered k s at x → IsUnfitFault ordered k Flatten (exprs_of (e ∷ [])) (terms_of (s ∷ [])) x
      of (inl h) = record {
        admitted = h.fault.admitted;
        first = inl (h.fault.place ∙ place, λ c stand. inl (no_set s at h c));
        elements = h.fault.elements;
      }
      of (inr h) = record {
        admitted = h.fault.admitted;
        first = inl (h.fault.place ∙ place, λ c stand. let (u, m, none) = h.no_set c stand in inr (h.kind, u, m, none));
        elements = h.fault.elements;
      }
