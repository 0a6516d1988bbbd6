-- Cases whose lines are compared, one after the other.
use Rattle.std.proofs.Common.{◌≡◌, ℕ, Bool, List, Option, Some, None, refl, subst}
use Rattle.std.specs.Prelude.{IfSome, IfOk, Result, Ok, Err}
use Rattle.std.specs.List.{All}
use Rattle.lois_base.specs.Data.{TermD}
use Rattle.lois_base.specs.Truth.{sampled}
use Rattle.lois_base.specs.Validity.{AdmitsTerm, HasBoundedWidths, IsStrictTerm}
use Rattle.lois_base.specs.Values.{IsIn}
use Rattle.lois_base.specs.declared.guards.Lit.{Lit}
use Rattle.lois_answers.specs.ResultsData.{CaseD}
use Rattle.lois_answers.specs.Sound.{IsSoundTerm}
use Rattle.lois_shortest_word.specs.Words.{first_sampled, values_at}
use Rattle.lois_shortest_word.specs.declared.words.Word.{Word}
use Rattle.lois_equal.specs.Differences.{IsShortestDifference, AreBounded}
use Rattle.lois_equal.proofs.Differences.{all_letters, are_letters, letter_of}
use Rattle.lois_languages.specs.Inclusions.{AreSuited, IsExcess, IsExcessWord, IsBeyond, IsFirstWithinReason, IsFirstBeyond, IsInclusion, excess_of}
use Rattle.lois_languages.specs.declared.faults.LineFault.{LineFault}
use Rattle.lois_languages.specs.declared.inclusions.Inclusion.{Inclusion}
use Rattle.lois_languages.specs.declared.inclusions.Inclusion.TheVariants.{Within, Beyond, Refused}

-- ---- the word of one case
-- an accepted word is over the letters
pub excess_word : (n : ℕ) (u : List (List Lit)) (t s : TermD) (w : Word) → IsShortestDifference n u t s w → IsExcess n u t s (excess_of w)
excess_word n u t s w is =
    let c = first_sampled n w.sample in
    let values = values_at (sampled w.sample) w.letters in
    let accepts = is.accepted.0 in
    let a = accepts.0 in
    record {
      side = refl;
      word = is;
      letters = (a, accepts.1, are_letters a values (all_letters t c (λ x. IsIn x a.letters) (λ x h. letter_of t c a accepts.1 x h) values accepts));
    }

pub beyond_here : (n : ℕ) (a b : List ℕ) (w : Word) (c : CaseD) → IsExcessWord n a b w c → IsBeyond n a b (excess_of w) a c
beyond_here n a b w c (t, s, first, second, is) = (t, s, first, second, is, refl)

pub bounded_excess : {E : Type 0} (o : Bool) (n : ℕ) (t s : TermD) (r : Result (Option Word) E) → IsSoundTerm o n t → IsSoundTerm o n s → IfOk r (λ x. IfSome x (λ w. (p : Bool) → AdmitsTerm p t → AdmitsTerm p s → All (AdmitsTerm p) w.letters)) → IfOk r (λ x. IfSome x (λ w. HasBoundedWidths t → HasBoundedWidths s → All HasBoundedWidths w.letters)) → IfOk r (λ x. IfSome x (λ w. All IsStrictTerm w.letters)) → IfOk r (λ x. IfSome x (λ w. AreBounded o w.letters))
bounded_excess o n t s (Ok None) first second operators widths strict = tt
bounded_excess o n t s (Ok (Some w)) first second operators widths strict = record { operators = operators o first.operators second.operators; strict = strict; widths = widths first.widths second.widths }
bounded_excess o n t s (Err e) first second operators widths strict = operators

-- ---- all cases
pub inclusion_of_cases : (n : ℕ) (a b : List ℕ) (cs : List CaseD) → All (AreSuited n a b) cs → (r : Inclusion) → IsFirstBeyond n a b cs r → IsInclusion n a b cs r
inclusion_of_cases n a b cs suited Within h = (suited, h)
inclusion_of_cases n a b cs suited (Beyond k d name) h = (suited, h)
inclusion_of_cases n a b cs suited (Refused r) h = absurd h

pub refused_at : (n m : ℕ) (a b : List ℕ) (cs : List CaseD) (found : Option LineFault) (r : LineFault) → n ≡ m → found ≡ Some r → IsFirstWithinReason n a b cs found → IsFirstWithinReason m a b cs (Some r)
refused_at n m a b cs found r e f h = subst (λ k. IsFirstWithinReason k a b cs (Some r)) e (subst (IsFirstWithinReason n a b cs) f h)
