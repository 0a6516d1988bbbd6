-- Cases one after another.
use Rattle.std.proofs.Common.{◌≡◌, ℕ, suc, ◌+◌, ◌<◌, ◌≤◌, Bool, true, cond, List, [], ◌∷◌, ◌++◌, length, get_or, take, drop, map, filter, add-zero, Some, refl, sym, ap, ◌∙◌, subst, arith}
use Rattle.std.proofs.lemmas.List.{map-append, length-map, length-take-le, take-append-drop}
use Rattle.std.proofs.lemmas.List.Elements.{All-nil, All-cons, All-head, All-tail, All-filter, filter-append}
use Rattle.std.specs.List.{All, AllZip}
use Rattle.lois_base.proofs.Viewed.{rest_is}
use Rattle.lois_answers.specs.CaseView.{case_of}
use Rattle.lois_answers.specs.LastNamed.{last_line, last_named}
use Rattle.lois_answers.specs.ResultsData.{LineD, CaseD}
use Rattle.lois_answers.specs.declared.results.Case.{Case}
use Rattle.std.specs.Prelude.{bytes_eq}
use Rattle.lois_base.proofs.Lists.{zip_push}
use Rattle.lois_census.specs.CensusData.{CensusD}
use Rattle.lois_census.specs.Censuses.{NumberedD, numbered, is_met, IsCensusOf, AreCensusesOf, HaveText}
use Rattle.lois_census.specs.Orbits.{FitsSample}
use Rattle.lois_census.specs.Refusals.{IsFirstWithout}

-- the first of the cases that lacks something
pub first_without : (Has : CaseD → Type 0) (items : List Case) (cs : List CaseD) (i : ℕ) (x : Case) (n : ℕ) → map case_of items ≡ cs → i < length items → x ≡ get_or items i x → All Has (map case_of (take i items)) → (Has (case_of x) → ⊥) → n ≡ i + 1 → IsFirstWithout Has cs n
first_without Has items cs i x n viewed l is have lacks counted = record {
  before = map case_of (take i items);
  case = case_of x;
  after = map case_of (drop (i + 1) items);
  parted = sym viewed ∙ (ap (map case_of) (sym (take-append-drop i items) ∙ ap (λ z. take i items ++ z) (rest_is items i x l is)) ∙ map-append case_of (take i items) (x ∷ drop (i + 1) items));
  counted = counted ∙ ap (λ k. k + 1) (sym (length-map (take i items) case_of ∙ length-take-le i items (omega arith)));
  have = have;
  lacks = lacks;
}

-- ---- the last line of a name is one of the lines
last_has : (P : LineD → Type 0) (lines : List LineD) (l : LineD) → Some l ≡ last_line lines → All P lines → P l
last_has P [] l e h = absurd (cc)
last_has P (a ∷ []) l e h =
    let same : a ≡ l = cc in
    subst P same (All-head P a [] h)
last_has P (a ∷ b ∷ lines) l e h = last_has P (b ∷ lines) l e (All-tail P a (b ∷ lines) h)

pub last_named_has : (P : LineD → Type 0) (name : List ℕ) (lines : List LineD) (l : LineD) → Some l ≡ last_named name lines → All P lines → P l
last_named_has P name lines l e h =
    last_has P (filter (λ k. bytes_eq k.name name) lines) l e (All-filter (λ k. bytes_eq k.name name) P lines h)

numbered_more : (n : ℕ) (cs : List CaseD) (c : CaseD) → numbered n (cs ++ c ∷ []) ≡ numbered n cs ++ record { number = n + length cs; case = c } ∷ []
numbered_more n [] c =
    let k : (m : ℕ) → NumberedD = λ (m : ℕ). record { number = m; case = c } in
    ap (λ m. k m ∷ []) (sym (add-zero n))
numbered_more n (d ∷ cs) c =
    let k : (m : ℕ) → NumberedD = λ (m : ℕ). record { number = m; case = c } in
    let next : suc n + length cs ≡ n + suc (length cs) = omega arith in
    ap (λ z. record { number = n; case = d } ∷ z) (numbered_more (suc n) cs c ∙ ap (λ m. numbered (suc n) cs ++ k m ∷ []) next)

pub numbered_next : (items : List Case) (i : ℕ) (x : Case) (n : ℕ) → map case_of (take (i + 1) items) ≡ map case_of (take i items) ++ case_of x ∷ [] → i < length items → n ≡ i + 1 → numbered 1 (map case_of (take (i + 1) items)) ≡ numbered 1 (map case_of (take i items)) ++ record { number = n; case = case_of x } ∷ []
numbered_next items i x n more l counted =
    let k : (m : ℕ) → NumberedD = λ (m : ℕ). record { number = m; case = case_of x } in
    let before = map case_of (take i items) in
    let long : 1 + length before ≡ n = omega (arith, length-map (take i items) case_of, length-take-le i items (omega arith), counted) in
    ap (numbered 1) more ∙ (numbered_more 1 before (case_of x) ∙ ap (λ m. numbered 1 before ++ k m ∷ []) long)

module _ (ordered : Bool) (name : List ℕ) (k : NumberedD) (ks : List NumberedD) (es : List CensusD) (so_far : AreCensusesOf ordered name ks es) where
  pub census_put : (e : CensusD) → is_met k ≡ true → IsCensusOf ordered name k e → AreCensusesOf ordered name (ks ++ k ∷ []) (es ++ e ∷ [])
  census_put e met is =
      let one : filter is_met (ks ++ k ∷ []) ≡ filter is_met ks ++ k ∷ [] =
      filter-append is_met ks (k ∷ []) ∙ ap (λ b. filter is_met ks ++ cond b (k ∷ []) []) met in
      subst (λ z. AllZip (IsCensusOf ordered name) z (es ++ e ∷ [])) (sym one) (zip_push (IsCensusOf ordered name) (filter is_met ks) es k e so_far is)

-- ---- the text of what is listed
module _ (ordered : Bool) (name : List ℕ) where
  zipped_text : (ks : List NumberedD) (es : List CensusD) → AllZip (IsCensusOf ordered name) ks es → HaveText es
  zipped_text [] [] h = All-nil (λ e. All FitsSample e.orbits)
  zipped_text [] (e ∷ es) h = absurd h
  zipped_text (k ∷ ks) [] h = absurd h
  zipped_text (k ∷ ks) (e ∷ es) h =
      All-cons (λ f. All FitsSample f.orbits) e es h.0.1.2.levels (zipped_text ks es h.1)

  pub censuses_text_of : (ks : List NumberedD) (es : List CensusD) → AreCensusesOf ordered name ks es → HaveText es
  censuses_text_of ks es h = zipped_text (filter is_met ks) es h

pub none_of : {X : Type 0} (xs : List X) → length xs ≤ 0 → xs ≡ []
none_of [] l = refl
none_of (x ∷ xs) l = absurd (omega arith)
