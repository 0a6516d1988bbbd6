-- Cases that exclude each other, and partitions.
use Rattle.std.proofs.Common.{◌≡◌, ℕ, suc, ◌+◌, ◌<◌, ◌≤◌, Bool, true, false, List, [], ◌∷◌, ◌++◌, length, map, take, drop, get_or, refl, sym, ap, subst, ◌∙◌, arith}
use Rattle.std.specs.Prelude.{IsTrue, Option, Some, None, IfSome, IsNone, Result, Ok, Err, IfOk, not, ◌&&◌, ◌↔◌}
use Rattle.std.specs.List.{All}
use Rattle.std.proofs.lemmas.List.{take_more, take_all}
use Rattle.std.proofs.lemmas.List.Elements.{All-head, All-nil, All-cons, All-append, All-weaker}
use Rattle.lois_base.specs.Atom.{Atom}
use Rattle.lois_base.specs.Truth.{holds, sampled}
use Rattle.lois_base.specs.declared.guards.Lit.{Lit}
use Rattle.lois_base.proofs.Booleans.{and_true, and_first, and_second}
use Rattle.lois_base.proofs.Lists.{all_right, all_before, all_last}
use Rattle.lois_answers.specs.CaseView.{case_of}
use Rattle.lois_answers.specs.ResultsData.{CaseD}
use Rattle.lois_answers.specs.declared.results.Case.{Case}
use Rattle.lois_deciders.specs.Conjunction.{AreInconsistent}
use Rattle.lois_deciders.specs.Satisfaction.{IsConstraintSample}
use Rattle.lois_deciders.specs.Satisfiability.{ConstraintIsSatisfiable}
use Rattle.lois_cases.specs.Cases.{HoldsAt, NoneHoldsAt}
use Rattle.lois_cases.specs.Holding.{IsFirstAt}
use Rattle.lois_cases.specs.Partitions.{ArePartition, NeverOverlap, ExcludeEachOther, AllExclude, IsCommonSample, IsMeeting, IsOverlap, HoldsWhereNone, IsGapOrNone}
use Rattle.lois_cases.specs.declared.partitions.Meeting.{Meeting}
use Rattle.lois_cases.proofs.OneCase.{both_hold}
use Rattle.lois_cases.proofs.Parted.{each, of_all}

-- ---- cases of which each excludes those behind it
-- case by case
pub all_exclude : (n : ℕ) (xs : List Case) → ((i : ℕ) (x : Case) → i < length xs → All (ExcludeEachOther n (get_or xs i x).when) (map case_of (drop (i + 1) xs))) → AllExclude n (map case_of xs)
all_exclude n [] each = tt
all_exclude n (x ∷ xs) each = (
  each 0 x (omega arith),
  all_exclude n xs (λ i y l.
      let next : suc i + 1 ≡ suc (i + 1) = omega arith in
      subst (λ k. All (ExcludeEachOther n (get_or xs i y).when) (map case_of (drop k (x ∷ xs)))) next (each (suc i) y (omega (arith, l)))),
)

behind_excluded : (n : ℕ) (before behind : List CaseD) (k : CaseD) → AllExclude n (before ++ k ∷ behind) → All (ExcludeEachOther n k.«when») behind
behind_excluded n [] behind k h = h.0
behind_excluded n (x ∷ before) behind k h = behind_excluded n before behind k h.1

-- two cases in a list: the later one stands behind the earlier one
later_excluded : (n : ℕ) (before before' behind behind' : List CaseD) (k l : CaseD) → before ++ k ∷ behind ≡ before' ++ l ∷ behind' → length before < length before' → AllExclude n (before ++ k ∷ behind) → ExcludeEachOther n k.«when» l
later_excluded n before [] behind behind' k l e less h = absurd (omega (arith, less))
later_excluded n [] (y ∷ before') behind behind' k l e less h =
    let rest : behind ≡ before' ++ l ∷ behind' = cc in
    All-head (ExcludeEachOther n k.«when») l behind' (all_right (ExcludeEachOther n k.«when») before' (l ∷ behind') (subst (All (ExcludeEachOther n k.«when»)) rest h.0))
later_excluded n (x ∷ before) (y ∷ before') behind behind' k l e less h =
    let rest : before ++ k ∷ behind ≡ before' ++ l ∷ behind' = cc in
    later_excluded n before before' behind behind' k l rest (omega (arith, less)) h.1

pub never_overlap : (n : ℕ) (cases : List CaseD) → AllExclude n cases → NeverOverlap n cases
never_overlap n cases h c count i j (k, l, less, first, second, here, there) =
    later_excluded n first.before second.before first.behind second.behind k l (sym first.among ∙ second.among) (omega (arith, less, first.number, second.number)) (subst (AllExclude n) first.among h) c count here there

-- ---- partitions
first_at : (c : List Atom) (cases : List CaseD) → (NoneHoldsAt c cases → ⊥) → (i : ℕ) × IsFirstAt c cases i
first_at c [] some = absurd (some (All-nil (λ k. HoldsAt c k → ⊥)))
first_at c (x ∷ cases) some = by_test (holds c x.«when») refl (λ not_here. first_at c cases (λ none. some (All-cons (λ k. HoldsAt c k → ⊥) x cases not_here none)))
  where
    by_test : (b : Bool) → holds c x.«when» ≡ b → ((HoldsAt c x → ⊥) → (i : ℕ) × IsFirstAt c cases i) → (i : ℕ) × IsFirstAt c (x ∷ cases) i
    by_test true e later = (0, record { before = []; here = x; behind = cases; among = refl; index = refl; none_before = All-nil (λ k. HoldsAt c k → ⊥); holds_here = e })
    by_test false e later =
        let not_here : HoldsAt c x → ⊥ = λ here. cc in
        let rest = later not_here in
        let first = rest.1 in (
          suc rest.0,
          record {
            before = x ∷ first.before;
            here = first.here;
            behind = first.behind;
            among = ap (λ z. x ∷ z) first.among;
            index = ap suc first.index;
            none_before = All-cons (λ k. HoldsAt c k → ⊥) x first.before not_here first.none_before;
            holds_here = first.holds_here;
          },
        )

pub is_partition : (n : ℕ) (cases : List CaseD) → AllExclude n cases → ((c : List Atom) → length c ≡ n → NoneHoldsAt c cases → ⊥) → ArePartition n cases
is_partition n cases apart some c count =
    let found = first_at c cases (some c count) in
    let first = found.1 in
    let excluded = behind_excluded n first.before first.behind first.here (subst (AllExclude n) first.among apart) in (
      found.0 + 1,
      first.here,
      record {
        case = record { before = first.before; behind = first.behind; among = first.among; number = ap (λ z. z + 1) first.index };
        here = first.holds_here;
        none_before = first.none_before;
        none_behind = All-weaker (ExcludeEachOther n first.here.«when») (λ k. HoldsAt c k → ⊥) (λ k apart. apart c count first.holds_here) first.behind excluded;
      },
    )

-- ---- a case, and one behind it that holds with it
pub overlap_at : (n : ℕ) (cases before later : List CaseD) (k : CaseD) (i : ℕ) (m : Meeting) → cases ≡ before ++ k ∷ later → i ≡ length before → IsMeeting n k.«when» later m → IsOverlap n cases (record { first = i + 1; second = i + m.index + 2; sample = m.sample })
overlap_at n cases before later k i m e index is = (
  is.sample.count,
  both_hold (sampled m.sample) cases before is.before is.behind k is.here i m.index (e ∙ ap (λ z. before ++ k ∷ z) is.among) index is.index is.sample.first is.sample.second,
)

-- ---- samples at which two constraints hold
pub common_of : (n : ℕ) (a b r : List (List Lit)) (s : List ℕ) → ((c : List Atom) → holds c r ≡ (holds c a && holds c b)) → IsConstraintSample n r s → IsCommonSample n a b s
common_of n a b r s truth (small, h) =
    let both = sym (truth (sampled s)) ∙ h in
    record { count = small.count; first = and_first (holds (sampled s) a) (holds (sampled s) b) both; second = and_second (holds (sampled s) a) (holds (sampled s) b) both }

pub none_common : (n : ℕ) (a b r : List (List Lit)) → ((c : List Atom) → holds c r ≡ (holds c a && holds c b)) → (ConstraintIsSatisfiable n r → ⊥) → AreInconsistent n a b
none_common n a b r truth none c count first second = none (c, count, truth c ∙ and_true (holds c a) (holds c b) first second)

-- ---- where no case holds
-- what is left by the cases so far, without one more
pub left_by_more : (xs : List Case) (i : ℕ) (x : Case) (g r : List (List Lit)) → i < length xs → x ≡ get_or xs i x → ((c : List Atom) → IsTrue (holds c g) ↔ All (λ y. HoldsAt c (case_of y) → ⊥) (take i xs)) → ((c : List Atom) → holds c r ≡ (holds c g && not (holds c x.when))) →
    (c : List Atom) → IsTrue (holds c r) ↔ All (λ y. HoldsAt c (case_of y) → ⊥) (take (i + 1) xs)
left_by_more xs i x g r l is before truth c = (forth, back)
  where
    more : take (i + 1) xs ≡ take i xs ++ x ∷ []
    more = take_more xs i x l ∙ ap (λ z. take i xs ++ z ∷ []) (sym is)

    P : Case → Type 0
    P = λ y. HoldsAt c (case_of y) → ⊥

    both : (p q : Bool) → IsTrue (p && not q) → IsTrue p × (IsTrue q → ⊥)
    both true false h = (h, λ k. cc)
    both true true h = absurd cc
    both false q h = absurd cc

    joined : (p q : Bool) → IsTrue p → (IsTrue q → ⊥) → IsTrue (p && not q)
    joined true false h k = h
    joined true true h k = absurd (k h)
    joined false q h k = h

    forth : IsTrue (holds c r) → All P (take (i + 1) xs)
    forth h =
        let parts = both (holds c g) (holds c x.when) (subst IsTrue (truth c) h) in
        subst (All P) (sym more) (All-append P (take i xs) (x ∷ []) ((before c).0 parts.0) (All-cons P x [] parts.1 (All-nil P)))

    back : All P (take (i + 1) xs) → IsTrue (holds c r)
    back h =
        let parts = subst (All P) more h in
        subst IsTrue (sym (truth c)) (joined (holds c g) (holds c x.when) ((before c).1 (all_before P (take i xs) x parts)) (all_last P (take i xs) x parts))

pub left_by_all : (xs : List Case) (i : ℕ) (r : List (List Lit)) → length xs ≤ i → ((c : List Atom) → IsTrue (holds c r) ↔ All (λ y. HoldsAt c (case_of y) → ⊥) (take i xs)) → HoldsWhereNone (map case_of xs) r
left_by_all xs i r l truth c = (
  λ h. of_all case_of (λ k. HoldsAt c k → ⊥) xs i l ((truth c).0 h),
  λ none. (truth c).1 (subst (All (λ y. HoldsAt c (case_of y) → ⊥)) (sym (take_all i xs l)) (each case_of (λ k. HoldsAt c k → ⊥) xs none)),
)

gap_of : (n : ℕ) (cases : List CaseD) (r : List (List Lit)) (o : Option (List ℕ)) → HoldsWhereNone cases r → IfSome o (IsConstraintSample n r) → (IsNone o → ConstraintIsSatisfiable n r → ⊥) → IsGapOrNone n cases o
gap_of n cases r None truth is none = λ c count h. none refl (c, count, (truth c).1 h)
gap_of n cases r (Some s) truth is none = (is.0.count, (truth (sampled s)).0 is.1)

pub gap_ok : {E : Type 0} (n : ℕ) (cases : List CaseD) (r : List (List Lit)) (found : Result (Option (List ℕ)) E) → HoldsWhereNone cases r → IfOk found (λ o. IfSome o (IsConstraintSample n r)) → IfOk found (λ o. IsNone o → ConstraintIsSatisfiable n r → ⊥) → IfOk found (IsGapOrNone n cases)
gap_ok n cases r (Ok o) truth is none = gap_of n cases r o truth is none
gap_ok n cases r (Err e) truth is none = is
