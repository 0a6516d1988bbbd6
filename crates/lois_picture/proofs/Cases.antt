-- The case that holds, and its line.
use Rattle.std.proofs.Common.{◌≡◌, ℕ, ◌-◌, Bool, List, [], ◌∷◌, ◌++◌, length, refl, sym, ap, ◌∙◌, subst, arith}
use Rattle.std.specs.Prelude.{Some, slice_get}
use Rattle.std.specs.List.{All}
use Rattle.std.proofs.lemmas.List.Elements.{All-weaker, All-head, All-tail}
use Rattle.lois_answers.specs.LastNamed.{last_named}
use Rattle.lois_answers.specs.ResultsData.{LineD, CaseD}
use Rattle.lois_answers.specs.Sound.{IsSoundLine, IsSoundCase, IsSoundTerm}
use Rattle.lois_cases.specs.Cases.{CaseFits, IsCase, IsTheCaseAt}
use Rattle.lois_census.proofs.Numbering.{last_named_has}
use Rattle.lois_picture.specs.Pictures.{IsTheLine}

pub all_fit : (ordered : Bool) (ps : List (List ℕ)) (cases : List CaseD) → ps ≡ [] → All (IsSoundCase ordered (length ps)) cases → All (CaseFits 0) cases
all_fit ordered ps cases none sound =
    All-weaker (IsSoundCase ordered 0) (CaseFits 0) (λ k h. h.levels) cases (subst (λ n. All (IsSoundCase ordered n) cases) (ap length none) sound)

got : (before behind : List CaseD) (k : CaseD) → slice_get (before ++ k ∷ behind) (length before) ≡ Some k
got [] behind k = refl
got (b ∷ before) behind k = got before behind k

case_at : (cases : List CaseD) (i : ℕ) (k : CaseD) → IsCase cases i k → slice_get cases (i - 1) ≡ Some k
case_at cases i k is =
    let index : i - 1 ≡ length is.before = omega (arith, is.number) in
    ap (λ z. slice_get z (i - 1)) is.among ∙ (ap (slice_get (is.before ++ k ∷ is.behind)) index ∙ got is.before is.behind k)

-- the case that was got by the number
pub at_case : (cases : List CaseD) (i : ℕ) (a : CaseD) → ((k : CaseD) × IsTheCaseAt [] cases i k) → Some a ≡ slice_get cases (i - 1) → IsTheCaseAt [] cases i a
at_case cases i a (k, is) e =
    let both : Some a ≡ Some k = e ∙ case_at cases i k is.case in
    let same : k ≡ a = cc in
    subst (IsTheCaseAt [] cases i) same is

pub the_line : (name : List ℕ) (cases : List CaseD) (i : ℕ) (a : CaseD) (l : LineD) → IsTheCaseAt [] cases i a → Some l ≡ last_named name a.lines → IsTheLine name cases i l
the_line name cases i a l is found = record { case = a; holding = is; line = sym found }

in_list : (P : CaseD → Type 0) (before behind : List CaseD) (k : CaseD) → All P (before ++ k ∷ behind) → P k
in_list P [] behind k h = All-head P k behind h
in_list P (b ∷ before) behind k h = in_list P before behind k (All-tail P b (before ++ k ∷ behind) h)

-- the term of the line is sound, among no levels
pub line_sound : (ordered : Bool) (ps : List (List ℕ)) (cases : List CaseD) (i : ℕ) (k : CaseD) (name : List ℕ) (l : LineD) → ps ≡ [] → All (IsSoundCase ordered (length ps)) cases → IsCase cases i k → Some l ≡ last_named name k.lines → IsSoundTerm ordered 0 l.term
line_sound ordered ps cases i k name l none sound is found =
    let all : All (IsSoundCase ordered 0) (is.before ++ k ∷ is.behind) = subst (All (IsSoundCase ordered 0)) is.among (subst (λ n. All (IsSoundCase ordered n) cases) (ap length none) sound) in
    (last_named_has (IsSoundLine ordered 0) name k.lines l found (in_list (IsSoundCase ordered 0) is.before is.behind k all).lines).term
