-- A comprehension in two parts has the members of the whole.
use Rattle.std.proofs.Common.{◌≡◌, ℕ, ◌+◌, ◌⊎◌, inl, inr, Bool, true, false, not, ◌&&◌, List, [], ◌∷◌, ◌++◌, refl, sym, ap, ◌∙◌, subst, append_assoc, arith}
use Rattle.std.proofs.lemmas.Bool.{and_parts, and_from}
use Rattle.std.proofs.lemmas.List.Elements.{All-nil, All-cons}
use Rattle.lois_base.specs.Atom.{Atom}
use Rattle.lois_base.specs.Data.{TermD, CompD, comp, comps_of}
use Rattle.lois_base.specs.Fits.{LitFits, CubeFits, ConstraintFits}
use Rattle.lois_base.specs.Truth.{holds}
use Rattle.lois_base.specs.Validity.{AdmitsLit, AdmitsCube, AdmitsConstraint, AdmitsComp}
use Rattle.lois_base.specs.Values.{MakesAt, MemberAt, InAt}
use Rattle.lois_base.specs.declared.guards.Lit.{Lit}
use Rattle.lois_readable.specs.Parts.{PutsParts}
use Rattle.lois_simplify.specs.Simplification.{IsSameWhere, IsSimplification, set_of}
use Rattle.lois_simplify.proofs.Kept.{kept-append}
use Rattle.lois_simplify.proofs.Members.{member_in, sets_same}

module _ (m : ℕ) (g d p q : List (List Lit)) (t : TermD) (inside : (e : List Atom) → holds e p ≡ (holds e g && holds e d)) (outside : (e : List Atom) → holds e q ≡ (holds e g && not (holds e d))) where
  parts_same : (u : List (List Lit)) (n : ℕ) → IsSameWhere u n (set_of (comp m g t ∷ [])) (set_of (comp m p t ∷ comp m q t ∷ []))
  parts_same u n c l o = sets_same (comp m g t ∷ []) (comp m p t ∷ comp m q t ∷ []) c c there back
    where
      there : (w : TermD) (x : List Atom) → MakesAt w x (comp m g t) c ⊎ ⊥ → InAt w x (comps_of (comp m p t ∷ comp m q t ∷ [])) c
      there w x (inr f) = absurd f
      there w x (inl (e, i, a, b)) =
          member_in (comp m p t ∷ comp m q t ∷ []) w x c (side (holds (c ++ e) d) refl)
        where
          side : (y : Bool) → holds (c ++ e) d ≡ y → MemberAt w x (comps_of (comp m p t ∷ comp m q t ∷ [])) c
          side true is =
              inl (e, record { count = i.count; guard = inside (c ++ e) ∙ and_from (holds (c ++ e) g) (holds (c ++ e) d) i.guard is }, a, b)
          side false is =
              inr (inl (e, record { count = i.count; guard = outside (c ++ e) ∙ and_from (holds (c ++ e) g) (not (holds (c ++ e) d)) i.guard (ap not is) }, a, b))

      back : (w : TermD) (x : List Atom) → MakesAt w x (comp m p t) c ⊎ (MakesAt w x (comp m q t) c ⊎ ⊥) → InAt w x (comps_of (comp m g t ∷ [])) c
      back w x (inl (e, i, a, b)) =
          member_in (comp m g t ∷ []) w x c (inl (e, record { count = i.count; guard = (and_parts (holds (c ++ e) g) (holds (c ++ e) d) (sym (inside (c ++ e)) ∙ i.guard)).0 }, a, b))
      back w x (inr (inl (e, i, a, b))) =
          member_in (comp m g t ∷ []) w x c (inl (e, record { count = i.count; guard = (and_parts (holds (c ++ e) g) (not (holds (c ++ e) d)) (sym (outside (c ++ e)) ∙ i.guard)).0 }, a, b))
      back w x (inr (inr f)) = absurd f

  pub parts_kept : (u : List (List Lit)) (n : ℕ) → (ConstraintFits (n + m) g → ConstraintFits (n + m) p) → (ConstraintFits (n + m) g → ConstraintFits (n + m) q) → ((o : Bool) → AdmitsComp o (comp m g t) → AdmitsConstraint o p) → ((o : Bool) → AdmitsComp o (comp m g t) → AdmitsConstraint o q) → IsSimplification u n (set_of (comp m g t ∷ [])) (set_of (comp m p t ∷ comp m q t ∷ []))
  parts_kept u n fp fq op oq = record {
    value = parts_same u n;
    levels = λ f. (((f.0).0, fp (f.0).1, (f.0).2), (((f.0).0, fq (f.0).1, (f.0).2), tt));
    operators = λ o f. ((op o f.0, (f.0).1), ((oq o f.0, (f.0).1), tt));
    widths = λ f. (f.0, (f.0, tt));
    depth = omega arith;
  }

-- ---- the constraint of one literal
pub only_fits : (n : ℕ) (l : Lit) (r : List (List Lit)) → r ≡ (l ∷ []) ∷ [] → LitFits n l → ConstraintFits n r
only_fits n l r e f =
    subst (ConstraintFits n) (sym e) (All-cons (CubeFits n) (l ∷ []) [] (All-cons (LitFits n) l [] f (All-nil (LitFits n))) (All-nil (CubeFits n)))

pub only_admitted : (o : Bool) (l : Lit) (r : List (List Lit)) → r ≡ (l ∷ []) ∷ [] → AdmitsLit o l → AdmitsConstraint o r
only_admitted o l r e f =
    subst (AdmitsConstraint o) (sym e) (All-cons (AdmitsCube o) (l ∷ []) [] (All-cons (AdmitsLit o) l [] f (All-nil (AdmitsLit o))) (All-nil (AdmitsCube o)))

-- ---- what is put behind others
module _ (u : List (List Lit)) (n : ℕ) where
  pub put_one : (before after : List CompD) (k r : CompD) → after ≡ before ++ r ∷ [] → IsSimplification u n (set_of (k ∷ [])) (set_of (r ∷ [])) → PutsParts u n before after k
  put_one before after k r e kept =
      record { parts = r ∷ []; appended = e; kept = kept }

  pub put_both : (before middle after : List CompD) (k r s : CompD) → middle ≡ before ++ r ∷ [] → after ≡ middle ++ s ∷ [] → IsSimplification u n (set_of (k ∷ [])) (set_of (r ∷ s ∷ [])) → PutsParts u n before after k
  put_both before middle after k r s e f kept =
      record { parts = r ∷ s ∷ []; appended = f ∙ (ap (λ z. z ++ s ∷ []) e ∙ append_assoc before (r ∷ []) (s ∷ [])); kept = kept }

  -- those that are done, and one more
  pub done_more : (done more before after : List CompD) (k : CompD) → more ≡ done ++ k ∷ [] → IsSimplification u n (set_of done) (set_of before) → PutsParts u n before after k → IsSimplification u n (set_of more) (set_of after)
  done_more done more before after k e kept put =
      subst (λ z. IsSimplification u n (set_of z) (set_of after)) (sym e)
      (subst (λ z. IsSimplification u n (set_of (done ++ k ∷ [])) (set_of z)) (sym put.appended) (kept-append u n done before (k ∷ []) put.parts kept put.kept))
