-- Contexts with other lines that have the values of their own.
use Rattle.std.proofs.Common.{◌≡◌, ℕ, inl, inr, Bool, true, false, not, List, [], ◌∷◌, ◌++◌, Some, slice_get, bytes_eq, refl, sym, ◌∙◌, subst}
use Rattle.std.specs.List.{All, AllZip, Contains}
use Rattle.std.proofs.lemmas.List.Elements.{All-nil, All-contains, All-push, AllZip-push, Contains-append_left, Contains-get_or, Contains-push}
use Rattle.std.proofs.lemmas.Option.{slice_get_cases, get_or_from_slice_get}
use Rattle.std.proofs.lemmas.Slice.Eq.{bytes_eq-Decides}
use Rattle.lois_base.specs.Validity.{AdmitsConstraint, AdmitsTerm, HasBoundedWidths}
use Rattle.lois_base.specs.Values.{point, IsSame}
use Rattle.lois_base.specs.declared.guards.Lit.{Lit}
use Rattle.lois_base.proofs.Members.{same_refl}
use Rattle.lois_base.proofs.Validity.{all_that_are}
use Rattle.lois_answers.specs.ResultsData.{LineD}
use Rattle.lois_context.specs.Choices.{AdmitsContext, ContextHasBoundedWidths}
use Rattle.lois_context.specs.Kept.{LinesFit}
use Rattle.lois_context.specs.declared.contexts.Context.{Context}
use Rattle.lois_interp.specs.Retold.{IsRetoldLine, AreRetoldLines, IsToldBy, IsRetold, AreRetold, HasConditionLike, AreJoined}
use Rattle.lois_interp.proofs.OneCase.{zip_from}

-- ---- what is as it was
lines_as_they_are : (n : ℕ) (u : List (List Lit)) (ls : List LineD) → AllZip (IsRetoldLine n u) ls ls
lines_as_they_are n u [] = tt
lines_as_they_are n u (l ∷ ls) = (record { name = refl; value = λ c k m. same_refl (point l.term c) }, lines_as_they_are n u ls)

own_lines : (k : Context) → AreRetoldLines k k.lines
own_lines k = lines_as_they_are k.size k.«when» k.lines

pub line_as_it_is : (n : ℕ) (u : List (List Lit)) (l r : LineD) → r.name ≡ l.name → r.term ≡ l.term → IsRetoldLine n u l r
line_as_it_is n u l r name term = record { name = name; value = λ c k m. subst (λ z. IsSame (point l.term c) (point z c)) (sym term) (same_refl (point l.term c)) }

each_as_it_is : (ks : List Context) → AllZip IsRetold ks ks
each_as_it_is [] = tt
each_as_it_is (k ∷ ks) = (record { size = refl; «when» = refl; lines = own_lines k }, each_as_it_is ks)

pub all_as_they_are : (ks : List Context) → AreRetold ks ks
all_as_they_are ks = record { each = each_as_it_is ks; operators = λ o h. h; widths = λ h. h }

pub conditions_as_they_are : (ks : List Context) → AllZip HasConditionLike ks ks
conditions_as_they_are [] = tt
conditions_as_they_are (k ∷ ks) = (record { size = refl; truth = λ e. refl; operators = λ o h. h; store = refl; lines = refl }, conditions_as_they_are ks)

-- ---- the lines of another context
pub told_by_another : (ds : List Context) (k d : Context) (ls : List LineD) → Contains ds d → d.size ≡ k.size → AreRetoldLines k d.lines → ls ≡ d.lines → IsToldBy (ds ++ k ∷ []) k ls
told_by_another ds k d ls there size same is = record { by = d; among = Contains-append_left ds (k ∷ []) d there; is = is; size = size; same = subst (AreRetoldLines k) (sym is) same }

pub told_by_itself : (ds : List Context) (k : Context) (ls : List LineD) → ls ≡ k.lines → IsToldBy (ds ++ k ∷ []) k ls
told_by_itself ds k ls is = record { by = k; among = Contains-push ds k; is = is; size = refl; same = subst (AreRetoldLines k) (sym is) (own_lines k) }

pub told_fit : (ks : List Context) (k : Context) (ls : List LineD) → IsToldBy ks k ls → LinesFit k.size ls
told_fit ks k ls told = subst (LinesFit k.size) (sym told.is) (subst (λ n. LinesFit n told.by.lines) told.size told.by.fitting)

admits_retold : (o : Bool) (k d e : Context) → d.«when» ≡ k.«when» → d.store ≡ [] → d.lines ≡ e.lines → AdmitsContext o k → AdmitsContext o e → AdmitsContext o d
admits_retold o k d e condition empty lines own other = record {
  «when» = subst (AdmitsConstraint o) (sym condition) own.«when»;
  store = subst (All (λ x. AdmitsTerm o x.term)) (sym empty) (All-nil (λ x. AdmitsTerm o x.term));
  lines = subst (All (λ x. AdmitsTerm o x.term)) (sym lines) other.lines;
}

widths_retold : (d e : Context) → d.store ≡ [] → d.lines ≡ e.lines → ContextHasBoundedWidths e → ContextHasBoundedWidths d
widths_retold d e empty lines other = record {
  store = subst (All (λ x. HasBoundedWidths x.term)) (sym empty) (All-nil (λ x. HasBoundedWidths x.term));
  lines = subst (All (λ x. HasBoundedWidths x.term)) (sym lines) other.lines;
}

-- ---- what is read of lists and names
pub got_there : {X : Type 0} (xs : List X) (i : ℕ) (x : X) → Some x ≡ slice_get xs i → Contains xs x
got_there xs i x e = elim (slice_get_cases xs i).1 [
  | inl a ↦ subst (Contains xs) (get_or_from_slice_get xs i x x (sym e)) (Contains-get_or xs i x a.1)
  | inr b ↦ let none = b.1 in absurd (cc)
]

not_false : (b : Bool) → not b ≡ false → b ≡ true
not_false true e = refl
not_false false e = cc

pub named_alike : (x y : List ℕ) → not (bytes_eq x y) ≡ false → x ≡ y
named_alike x y e = (bytes_eq-Decides x y).0 (not_false (bytes_eq x y) e)

-- ---- one context more
module _ (ks ds : List Context) (k d : Context) (ls : List LineD) (told : IsToldBy (ds ++ k ∷ []) k ls) (size : d.size ≡ k.size) (condition : d.«when» ≡ k.«when») (empty : d.store ≡ []) (lines : d.lines ≡ ls) where
  pub one_admits : (o : Bool) → All (AdmitsContext o) ds → AdmitsContext o k → All (AdmitsContext o) (ds ++ d ∷ [])
  one_admits o all own =
      let by = All-contains (AdmitsContext o) (ds ++ k ∷ []) told.by (All-push (AdmitsContext o) ds k all own) told.among in
      All-push (AdmitsContext o) ds d all (admits_retold o k d told.by condition empty (lines ∙ told.is) own by)

  one_wide : All ContextHasBoundedWidths ds → ContextHasBoundedWidths k → All ContextHasBoundedWidths (ds ++ d ∷ [])
  one_wide all own =
      let by = All-contains ContextHasBoundedWidths (ds ++ k ∷ []) told.by (All-push ContextHasBoundedWidths ds k all own) told.among in
      All-push ContextHasBoundedWidths ds d all (widths_retold d told.by empty (lines ∙ told.is) by)

  front : (P : Context → Type 0) → All P (ks ++ k ∷ []) → All P ks
  front P h = all_that_are P ks (λ x there. All-contains P (ks ++ k ∷ []) x h (Contains-append_left ks (k ∷ []) x there))

  back : (P : Context → Type 0) → All P (ks ++ k ∷ []) → P k
  back P h = All-contains P (ks ++ k ∷ []) k h (Contains-push ks k)

  pub one_more_retold : AreRetold ks ds → AreRetold (ks ++ k ∷ []) (ds ++ d ∷ [])
  one_more_retold so_far = record {
    each = AllZip-push IsRetold ks ds k d so_far.each (record { size = size; «when» = condition; lines = subst (AreRetoldLines k) (sym lines) told.same });
    operators = λ o h. one_admits o (so_far.operators o (front (AdmitsContext o) h)) (back (AdmitsContext o) h);
    widths = λ h. one_wide (so_far.widths (front ContextHasBoundedWidths h)) (back ContextHasBoundedWidths h);
  }

-- ---- other conditions that hold at the same choices
condition_admits : (o : Bool) (k d : Context) → HasConditionLike k d → AdmitsContext o k → AdmitsContext o d
condition_admits o k d like h = record {
  «when» = like.operators o h.«when»;
  store = subst (All (λ x. AdmitsTerm o x.term)) (sym like.store) h.store;
  lines = subst (All (λ x. AdmitsTerm o x.term)) (sym like.lines) h.lines;
}

condition_widths : (k d : Context) → HasConditionLike k d → ContextHasBoundedWidths k → ContextHasBoundedWidths d
condition_widths k d like h = record {
  store = subst (All (λ x. HasBoundedWidths x.term)) (sym like.store) h.store;
  lines = subst (All (λ x. HasBoundedWidths x.term)) (sym like.lines) h.lines;
}

module _ (ks ds : List Context) (like : AllZip HasConditionLike ks ds) where
  pub conditions_admit : (o : Bool) → All (AdmitsContext o) ks → All (AdmitsContext o) ds
  conditions_admit o h = all_that_are (AdmitsContext o) ds (λ d there.
      let k = zip_from HasConditionLike ks ds like d there in
      condition_admits o k.0 d k.2 (All-contains (AdmitsContext o) ks k.0 h k.1))

  pub conditions_widths : All ContextHasBoundedWidths ks → All ContextHasBoundedWidths ds
  conditions_widths h = all_that_are ContextHasBoundedWidths ds (λ d there.
      let k = zip_from HasConditionLike ks ds like d there in
      condition_widths k.0 d k.2 (All-contains ContextHasBoundedWidths ks k.0 h k.1))

pub joined_admit : (ks ds : List Context) → AreJoined ks ds → (o : Bool) → All (AdmitsContext o) ks → All (AdmitsContext o) ds
joined_admit ks ds joined o h = conditions_admit joined.between ds joined.conditions o (joined.merged.operators o h)
