-- The orbits of a set that a script prints.
use Rattle.std.proofs.Common.{◌≡◌, ℕ, suc, Bool, true, false, List, [], ◌∷◌, ◌++◌, length, cond, filter, Some, option_map, refl, sym, ap, ◌∙◌, subst}
use Rattle.std.specs.List.{AllZip}
use Rattle.std.specs.Bool.{IsTrue}
use Rattle.std.proofs.lemmas.List.Elements.{All-weaker, All-tail, All-head}
use Rattle.lois_base.specs.Data.{TermD}
use Rattle.lois_base.specs.Truth.{holds}
use Rattle.lois_base.specs.Values.{point, IsIn, IsMember}
use Rattle.lois_base.proofs.Members.{same_sym, same_refl, same_in}
use Rattle.lois_answers.specs.ResultsData.{LineD, CaseD}
use Rattle.lois_census.specs.Censuses.{HasSet, NumberedD, numbered, is_met, IsCensusOf}
use Rattle.lois_census.specs.Orbits.{value_of}
use Rattle.lois_meaning.proofs.Alike.{is_set_same}
use Rattle.lois_meaning.specs.Kinds.{IsSet, IsSetTerm as IsSetTermOf}
use Rattle.lois_terms.specs.Collections.{IsColl}
use Rattle.lois_interp.specs.Interpreted.{IsChoiceOf, IsRightAt}
use Rattle.lois_laws.specs.Laws.{CensusIsOfTheRun}
use Rattle.lois_laws.proofs.CaseHere.{HoldNowhere, as_choice, said_here}
use Rattle.lois_laws.proofs.PrintedLines.{found}

unmet : (b : Bool) → (IsTrue b → ⊥) → b ≡ false
unmet true h = absurd (h refl)
unmet false h = refl

none_met : (n : ℕ) (cs : List CaseD) → HoldNowhere [] cs → filter is_met (numbered n cs) ≡ []
none_met n [] h = refl
none_met n (c ∷ cs) h =
    ap (λ b. cond b (record { number = n; case = c } ∷ filter is_met (numbered (suc n) cs)) (filter is_met (numbered (suc n) cs))) (unmet (holds [] c.«when») (All-head (λ o. IsTrue (holds [] o.«when») → ⊥) c cs h))
    ∙ none_met (suc n) cs (All-tail (λ o. IsTrue (holds [] o.«when») → ⊥) c cs h)

one_met : (n : ℕ) (before behind : List CaseD) (k : CaseD) → HoldNowhere [] before → IsTrue (holds [] k.«when») → HoldNowhere [] behind → (m : ℕ) × (filter is_met (numbered n (before ++ k ∷ behind)) ≡ record { number = m; case = k } ∷ [])
one_met n [] behind k h here none = (
  n,
  ap (λ b. cond b (record { number = n; case = k } ∷ filter is_met (numbered (suc n) behind)) (filter is_met (numbered (suc n) behind))) here
      ∙ ap (λ (xs : List NumberedD). record { number = n; case = k } ∷ xs) (none_met (suc n) behind none),
)
one_met n (c ∷ before) behind k h here none =
    let rest = one_met (suc n) before behind k (All-tail (λ o. IsTrue (holds [] o.«when») → ⊥) c before h) here none in (
      rest.0,
      ap (λ b. cond b (record { number = n; case = c } ∷ filter is_met (numbered (suc n) (before ++ k ∷ behind))) (filter is_met (numbered (suc n) (before ++ k ∷ behind)))) (unmet (holds [] c.«when») (All-head (λ o. IsTrue (holds [] o.«when») → ⊥) c before h)) ∙ rest.1,
    )

single : {A B : Type 0} (R : A → B → Type 0) (x : A) (ys : List B) → AllZip R (x ∷ []) ys → (y : B) × (ys ≡ y ∷ []) × R x y
single R x [] h = absurd h
single R x (y ∷ []) h = (y, refl, h.0)
single R x (y ∷ z ∷ ys) h = absurd h.1

pub census_is_of_the_run : CensusIsOfTheRun
census_is_of_the_run s r a es results listed =
    let choice : IsChoiceOf s [] = as_choice s r results [] (sym (ap length listed.parameters)) in
    let right : IsRightAt s r.cases [] = results.choices [] choice in
    let picked = one_met 1 right.before right.behind right.one right.none_before right.here right.none_behind in
    let zipped : AllZip (IsCensusOf r.order a) (record { number = picked.0; case = right.one } ∷ []) es =
    subst (λ z. AllZip (IsCensusOf r.order a) z es) (ap (λ z. filter is_met (numbered 1 z)) right.among ∙ picked.1) listed.censuses in
    let e = single (IsCensusOf r.order a) (record { number = picked.0; case = right.one }) es zipped in
    let own = e.2.1 in
    let t : TermD = own.0.term in
    let v = found [] a right.one right.lines.printed t (ap (option_map (λ l. l.term)) own.1) right.lines.values in
    let set : HasSet a right.one = said_here s r results (HasSet a) [] right listed.sets in
    let line : set.0 ≡ own.0 = (let both : Some set.0 ≡ Some own.0 = sym set.1 ∙ own.1 in cc) in
    let is_set : IsSet (point t []) = set_of t (subst (λ (l : LineD). IsColl l.term) line set.2) in (
      v.0,
      e.0,
      (right.lines.printed, right.lines.ends, v.1),
      is_set_same (point t []) v.0 v.2 is_set,
      e.1,
      λ x h. own.2.each x (same_in x v.0 (point t []) (same_sym (point t []) v.0 v.2) h),
      All-weaker (λ k. IsMember (value_of k) (point t [])) (λ k. IsIn (value_of k) v.0) (λ k h. same_in (value_of k) (point t []) v.0 v.2 (value_of k, h, same_refl (value_of k))) e.0.orbits own.2.members,
      own.2.once,
    )
  where
    set_of : (t : TermD) → IsColl t → IsSet (point t [])
    set_of t h = subst IsSetTermOf (sym h.1) tt
