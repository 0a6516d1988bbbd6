-- Cases and their lines, one after the other.
use Rattle.std.proofs.Common.{◌≡◌, ℕ, suc, ◌+◌, ◌<◌, ◌≤◌, Bool, List, [], ◌∷◌, ◌++◌, length, map, take, drop, get_or, Option, Some, None, option_map, refl, sym, ap, subst, ◌∙◌, arith, drop-cons}
use Rattle.std.specs.Prelude.{IfSome, IfOk, Result, Ok, Err, ◌↔◌}
use Rattle.std.specs.List.{All}
use Rattle.std.proofs.lemmas.List.{length-map, length-take, take-append-drop, take_all}
use Rattle.std.proofs.lemmas.List.Elements.{All-head, All-tail, All-more, All-map, All-filter}
use Rattle.lois_base.specs.Atom.{whole}
use Rattle.lois_base.specs.Data.{TermD}
use Rattle.lois_base.specs.Truth.{sampled}
use Rattle.lois_base.specs.Validity.{AdmitsTerm, HasBoundedWidths, IsStrictTerm}
use Rattle.lois_base.specs.declared.guards.Lit.{Lit}
use Rattle.lois_answers.specs.LastNamed.{last_line, last_named, lines_named}
use Rattle.lois_answers.specs.ResultsData.{LineD, CaseD}
use Rattle.lois_answers.specs.Sound.{IsSoundTerm, IsSoundLine, IsSoundCase}
use Rattle.lois_automata.specs.Machines.{IsAutomatonAt}
use Rattle.lois_automata.specs.Deterministic.{IsDeterministicAt}
use Rattle.lois_automata.specs.Throughout.{HoldsThroughout}
use Rattle.lois_automata.specs.Verdicts.{IsBreak}
use Rattle.lois_equal.specs.Differing.{HaveSameLanguage, IsDistinguishingWord}
use Rattle.lois_equal.specs.Differences.{IfDiffers, IsSameAnswer, AreBounded}
use Rattle.lois_equal.specs.declared.differing.Equality.{Equality}
use Rattle.lois_equal.specs.declared.differing.Equality.TheVariants.{Same, Differs}
use Rattle.lois_equal.specs.Comparing.{HasTerm, HasLine, IsComparable, IsSomewhereNotDeterministic, AreComparable, LinesHaveSameLanguage, LinesDiffer, IsReason, number_of, IsFirst, IsComparison, side_name}
use Rattle.lois_equal.specs.ComparedCases.{IsReasonOrNone, HasFaultNumber, IsFirstReason, IsFirstDifference, LinesAgreeOrDiffer}
use Rattle.lois_equal.specs.declared.comparing.Comparison.{Comparison}
use Rattle.lois_equal.specs.declared.comparing.Comparison.TheVariants.{Alike, Differ, Refused}
use Rattle.lois_equal.specs.declared.comparing.ComparisonFault.{ComparisonFault}
use Rattle.lois_equal.specs.declared.differing.Difference.{Difference}

-- ---- the last line of a name
last_has : (P : LineD → Type 0) (lines : List LineD) → All P lines → IfSome (last_line lines) P
last_has P [] h = tt
last_has P (l ∷ []) h = All-head P l [] h
last_has P (l ∷ next ∷ lines) h = last_has P (next ∷ lines) (All-tail P l (next ∷ lines) h)

named_has : (P : LineD → Type 0) (name : List ℕ) (lines : List LineD) → All P lines → IfSome (last_named name lines) P
named_has P name lines h = last_has P (lines_named name lines) (All-filter _ P lines h)

-- what is found of a name: a line that is sound, or that there is none
pub found_term : (name : List ℕ) (c : CaseD) (l : LineD) → Some l ≡ last_named name c.lines → HasTerm name c l.term
found_term name c l e = ap (option_map (λ z. z.term)) (sym e)

pub found_line : (name : List ℕ) (c : CaseD) (l : LineD) → Some l ≡ last_named name c.lines → HasLine name c
found_line name c l e = (l.term, found_term name c l e)

pub found_sound : (o : Bool) (n : ℕ) (name : List ℕ) (c : CaseD) (l : LineD) → IsSoundCase o n c → Some l ≡ last_named name c.lines → IsSoundTerm o n l.term
found_sound o n name c l sound e =
    let line : IsSoundLine o n l = subst (λ z. IfSome z (IsSoundLine o n)) (sym e) (named_has (IsSoundLine o n) name c.lines sound.lines) in
    line.term

-- two terms of one line are the same
pub one_term : (name : List ℕ) (c : CaseD) (t s : TermD) → HasTerm name c t → HasTerm name c s → t ≡ s
one_term name c t s h k =
    let e : Some t ≡ Some s = sym h ∙ k in
    cc

-- ---- verdicts
pub unfit_automaton : (n : ℕ) (u : List (List Lit)) (t : TermD) (s : List ℕ) → IsBreak n u (IsAutomatonAt t) s → IsSomewhereNotDeterministic n u t
unfit_automaton n u t s h = (sampled s, length-map s whole ∙ h.count, h.admitted, λ only. h.broken (only.0, only.1))

pub unfit_deterministic : (n : ℕ) (u : List (List Lit)) (t : TermD) (s : List ℕ) → IsBreak n u (IsDeterministicAt t) s → IsSomewhereNotDeterministic n u t
unfit_deterministic n u t s h = (sampled s, length-map s whole ∙ h.count, h.admitted, h.broken)

-- ---- the lines of one case
pub lines_equal : (n : ℕ) (a b : List ℕ) (c : CaseD) (t s : TermD) (r : Equality) → HasTerm a c t → HasTerm b c s → IfDiffers (IsDistinguishingWord n c.«when» t s) r → (IsSameAnswer r → HaveSameLanguage n c.«when» t s) → LinesAgreeOrDiffer n a b c r
lines_equal n a b c t s Same first second is never = (t, s, first, second, never tt)
lines_equal n a b c t s (Differs d) first second is never = record { first = t; second = s; first_line = first; second_line = second; difference = is; accepts = refl }

-- ---- the first case of which something holds
module _ {X : Type 0} (P : CaseD → Type 0) (f : X → CaseD) where
  split_at : (xs : List X) (i : ℕ) (x : X) → i < length xs → x ≡ get_or xs i x → xs ≡ take i xs ++ x ∷ drop (suc i) xs
  split_at xs i x l e = sym (take-append-drop i xs) ∙ ap (λ z. take i xs ++ z) (drop-cons xs i x l ∙ ap (λ z. z ∷ drop (suc i) xs) (sym e))

  pub holds_so_far : (xs : List X) (i : ℕ) (x : X) → i < length xs → x ≡ get_or xs i x → All (λ y. P (f y)) (take i xs) → P (f x) → All (λ y. P (f y)) (take (i + 1) xs)
  holds_so_far xs i x l e before own = All-more (λ y. P (f y)) xs i x l before (subst (λ z. P (f z)) e own)

  pub holds_of_all : (cs : List CaseD) (xs : List X) (i : ℕ) → map f xs ≡ cs → length xs ≤ i → All (λ y. P (f y)) (take i xs) → All P cs
  holds_of_all cs xs i m l before = subst (All P) m (All-map P f xs (subst (All (λ y. P (f y))) (take_all i xs l) before))

  pub first_here : (Q : CaseD → Type 0) (cs : List CaseD) (xs : List X) (i k : ℕ) (x : X) → map f xs ≡ cs → i < length xs → x ≡ get_or xs i x → k ≡ i + 1 → All (λ y. P (f y)) (take i xs) → Q (f x) → IsFirst P Q k cs
  first_here Q cs xs i k x m l e number before own = record {
    before = map f (take i xs);
    here = f x;
    after = map f (drop (suc i) xs);
    whole = sym m ∙ (ap (map f) (split_at xs i x l e) ∙ map_both (take i xs) (drop (suc i) xs));
    number = number ∙ ap (λ z. z + 1) (sym (length-map (take i xs) f ∙ (length-take i xs ∙ omega arith)));
    earlier = All-map P f (take i xs) before;
    own = own;
  }
    where
      map_both : (ys zs : List X) → map f (ys ++ x ∷ zs) ≡ map f ys ++ f x ∷ map f zs
      map_both [] zs = refl
      map_both (y ∷ ys) zs = ap (λ z. f y ∷ z) (map_both ys zs)

-- ---- answers of a case, where they are known
pub number_at : (i : ℕ) (found : Option ComparisonFault) (r : ComparisonFault) → found ≡ Some r → HasFaultNumber (i + 1) found → number_of r ≡ i + 1
number_at i found r e h = subst (HasFaultNumber (i + 1)) e h

pub reason_at : (n : ℕ) (a b : List ℕ) (c : CaseD) (found : Option ComparisonFault) (r : ComparisonFault) → found ≡ Some r → IsReasonOrNone n a b c found → IsReason n a b r c
reason_at n a b c found r e h = subst (IsReasonOrNone n a b c) e h

pub fit_at : (n : ℕ) (a b : List ℕ) (c : CaseD) (found : Option ComparisonFault) → found ≡ None → IsReasonOrNone n a b c found → AreComparable n a b c
fit_at n a b c found e h = subst (IsReasonOrNone n a b c) e h

pub apart_at : (n : ℕ) (a b : List ℕ) (c : CaseD) (found : Equality) (d : Difference) → found ≡ Differs d → LinesAgreeOrDiffer n a b c found → LinesDiffer n a b d (side_name d.left a b) c
apart_at n a b c found d e h = subst (LinesAgreeOrDiffer n a b c) e h

pub alike_at : (n : ℕ) (a b : List ℕ) (c : CaseD) (found : Equality) → found ≡ Same → LinesAgreeOrDiffer n a b c found → LinesHaveSameLanguage n a b c
alike_at n a b c found e h = subst (LinesAgreeOrDiffer n a b c) e h

-- the lines that are compared are fit
pub fit_term : (n : ℕ) (name : List ℕ) (c : CaseD) (t : TermD) → IsComparable n name c → HasTerm name c t → HoldsThroughout n c.«when» (IsDeterministicAt t)
fit_term n name c t (s, has, only) h = subst (λ z. HoldsThroughout n c.«when» (IsDeterministicAt z)) (one_term name c s t has h) only

pub lines_ok : {E : Type 0} (n : ℕ) (a b : List ℕ) (c : CaseD) (t s : TermD) (r : Result Equality E) → HasTerm a c t → HasTerm b c s → IfOk r (λ e. IsSameAnswer e ↔ HaveSameLanguage n c.«when» t s) → IfOk r (IfDiffers (IsDistinguishingWord n c.«when» t s)) → IfOk r (LinesAgreeOrDiffer n a b c)
lines_ok n a b c t s (Ok e) first second same is = lines_equal n a b c t s e first second is same.0
lines_ok n a b c t s (Err e) first second same is = is

-- ---- the terms of a difference
pub usual_ok : {E : Type 0} (o : Bool) (n : ℕ) (t s : TermD) (r : Result Equality E) → IsSoundTerm o n t → IsSoundTerm o n s → IfOk r (IfDiffers (λ d. (p : Bool) → AdmitsTerm p t → AdmitsTerm p s → All (AdmitsTerm p) d.word)) → IfOk r (IfDiffers (λ d. HasBoundedWidths t → HasBoundedWidths s → All HasBoundedWidths d.word)) → IfOk r (IfDiffers (λ d. All IsStrictTerm d.word)) → IfOk r (IfDiffers (λ d. AreBounded o d.word))
usual_ok o n t s (Ok Same) first second operators widths strict = tt
usual_ok o n t s (Ok (Differs d)) first second operators widths strict = record { operators = operators o first.operators second.operators; strict = strict; widths = widths first.widths second.widths }
usual_ok o n t s (Err e) first second operators widths strict = operators

pub usual_at : (o : Bool) (found : Equality) (d : Difference) → found ≡ Differs d → IfDiffers (λ z. AreBounded o z.word) found → AreBounded o d.word
usual_at o found d e h = subst (IfDiffers (λ z. AreBounded o z.word)) e h

-- ---- all cases
pub comparison_of : (n : ℕ) (a b : List ℕ) (cs : List CaseD) → All (AreComparable n a b) cs → (r : Comparison) → IsFirstDifference n a b cs r → IsComparison n a b cs r
comparison_of n a b cs fit Alike h = (fit, h)
comparison_of n a b cs fit (Differ k d name) h = (fit, h)
comparison_of n a b cs fit (Refused r) h = absurd h

pub refused_at : (n m : ℕ) (a b : List ℕ) (cs : List CaseD) (found : Option ComparisonFault) (r : ComparisonFault) → n ≡ m → found ≡ Some r → IsFirstReason n a b cs found → IsFirstReason m a b cs (Some r)
refused_at n m a b cs found r e f h = subst (λ k. IsFirstReason k a b cs (Some r)) e (subst (IsFirstReason n a b cs) f h)

pub all_fit : (n : ℕ) (a b : List ℕ) (cs : List CaseD) (found : Option ComparisonFault) → found ≡ None → IsFirstReason n a b cs found → All (AreComparable n a b) cs
all_fit n a b cs found e h = subst (IsFirstReason n a b cs) e h

pub sound_cases : (o p : Bool) (n m : ℕ) (cs : List CaseD) → p ≡ o → m ≡ n → All (IsSoundCase o n) cs → All (IsSoundCase p m) cs
sound_cases o p n m cs e f h = subst (λ k. All (IsSoundCase p k) cs) (sym f) (subst (λ z. All (IsSoundCase z n) cs) (sym e) h)
