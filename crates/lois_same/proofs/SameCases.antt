-- The cases of two results, one by one.
use Rattle.std.proofs.Common.{◌≡◌, ℕ, suc, ◌+◌, ◌<◌, ◌≤◌, Bool, List, ◌∷◌, length, map, take, drop, get_or, refl, sym, ap, subst, ◌∙◌, arith}
use Rattle.std.specs.Prelude.{Option, Some, None}
use Rattle.std.specs.List.{All}
use Rattle.std.proofs.lemmas.List.{length-append}
use Rattle.std.proofs.lemmas.List.Elements.{All-head, All-weaker}
use Rattle.lois_base.specs.Atom.{Atom}
use Rattle.lois_base.specs.Truth.{holds}
use Rattle.lois_base.proofs.Booleans.{and_true, and_first, and_second}
use Rattle.lois_base.proofs.Lists.{all_right}
use Rattle.lois_answers.specs.CaseView.{case_of}
use Rattle.lois_answers.specs.ResultsData.{CaseD}
use Rattle.lois_answers.specs.Sound.{IsSoundCase}
use Rattle.lois_answers.specs.declared.results.Case.{Case}
use Rattle.lois_answers.specs.declared.results.Results.{Results}
use Rattle.lois_cases.specs.Cases.{CaseFits, IsCase}
use Rattle.lois_cases.specs.Holding.{IsHolding}
use Rattle.lois_cases.specs.Partitions.{IsPartitioned}
use Rattle.lois_cases.specs.declared.holding.Holding.TheVariants.{Once}
use Rattle.lois_cases.specs.declared.partitions.Partition.{Partition}
use Rattle.lois_cases.specs.declared.partitions.Partition.TheVariants.{Whole, Overlap, Gap}
use Rattle.lois_cases.proofs.OneCase.{the_case}
use Rattle.lois_cases.proofs.Parted.{parted_at, count_before}
use Rattle.lois_deciders.specs.Conjunction.{IsSampledConjunction}
use Rattle.lois_deciders.specs.Satisfaction.{IsEntailed}
use Rattle.lois_deciders.specs.declared.chosen.SampledConstraint.{SampledConstraint}
use Rattle.lois_shortest_word.specs.Words.{first_sampled}
use Rattle.lois_same.specs.Same.{HaveSameLinesAt, AreSameResults}
use Rattle.lois_same.specs.Likenesses.{IsPartition, IsFlaw}
use Rattle.lois_same.specs.Rows.{AreLinesContrastOrNone, HaveSameLines, IsPairContrastOrNone, HasSameLinesAsCases}
use Rattle.lois_same.specs.declared.lines.LinesContrast.{LinesContrast}

-- ---- two cases
-- what is found under what both say
pub pair_of : (n : ℕ) (k l : CaseD) (m : SampledConstraint) (found : Option LinesContrast) → IsSampledConjunction n k.«when» l.«when» m.constraint m.sample → AreLinesContrastOrNone n m.constraint k.lines l.lines found → IsPairContrastOrNone n k l found
pair_of n k l m None both same = λ c count here there. same c count (both.truth c ∙ and_true (holds c k.«when») (holds c l.«when») here there)
pair_of n k l m (Some d) both is =
    let c = first_sampled n d.sample in
    let admitted = sym (both.truth c) ∙ is.sample.admitted in
    record {
      count = is.sample.count;
      first_holds = and_first (holds c k.«when») (holds c l.«when») admitted;
      second_holds = and_second (holds c k.«when») (holds c l.«when») admitted;
      detail = is.detail;
    }

-- ---- a case in a list
pub is_case_at : (cs : List CaseD) (xs : List Case) (i : ℕ) (x : Case) → map case_of xs ≡ cs → i < length xs → x ≡ get_or xs i x → IsCase cs (i + 1) (case_of x)
is_case_at cs xs i x items l is = record {
  before = map case_of (take i xs);
  behind = map case_of (drop (i + 1) xs);
  among = sym items ∙ parted_at case_of xs i x l is;
  number = ap (λ k. k + 1) (count_before case_of xs i l);
}

-- what holds of all cases holds of one
pub of_case : (P : CaseD → Type 0) (cs : List CaseD) (i : ℕ) (k : CaseD) → IsCase cs i k → All P cs → P k
of_case P cs i k case h = All-head P k case.behind (all_right P case.before (k ∷ case.behind) (subst (All P) case.among h))

pub cases_fit : (o : Bool) (n : ℕ) (cs : List CaseD) → All (IsSoundCase o n) cs → All (CaseFits n) cs
cases_fit o n cs h = All-weaker (IsSoundCase o n) (CaseFits n) (λ k sound. sound.levels) cs h

pub sound_cases : (o p : Bool) (n m : ℕ) (cs : List CaseD) → o ≡ p → n ≡ m → All (IsSoundCase o n) cs → All (IsSoundCase p m) cs
sound_cases o p n m cs e f h = subst (λ k. All (IsSoundCase p k) cs) f (subst (λ z. All (IsSoundCase z n) cs) e h)

-- the number of the one that holds
pub number_within : (c : List Atom) (cs : List CaseD) (i : ℕ) → IsHolding c cs (Once i) → (0 < i) × (i ≤ length cs)
number_within c cs i (k, one) =
    let whole : length cs ≡ length one.case.before + suc (length one.case.behind) = ap length one.case.among ∙ length-append one.case.before (k ∷ one.case.behind) in
    (omega (arith, one.case.number), omega (arith, one.case.number, whole))

-- ---- one case, and all of the other results
-- one that holds wherever it does is the one that holds there
pub same_as_one : (n : ℕ) (cs : List CaseD) (i : ℕ) (k l : CaseD) → IsCase cs i l → IsEntailed n k.«when» l.«when» → HaveSameLines n k l → HasSameLinesAsCases n cs k
same_as_one n cs i k l case entailed same c count here j m one =
    let there = entailed c count here in
    subst (HaveSameLinesAt c k) (sym (the_case c cs j i m l one case there).1) (same c count here there)

pub same_as_all : (n : ℕ) (cs : List CaseD) (k : CaseD) → All (HaveSameLines n k) cs → HasSameLinesAsCases n cs k
same_as_all n cs k same c count here j m one = of_case (HaveSameLines n k) cs j m one.case same c count here one.here

-- ---- all cases
pub same_results : (r q : Results) → r.order ≡ q.order → r.parameters ≡ q.parameters → All (HasSameLinesAsCases (length r.parameters) q.cases) r.cases → AreSameResults r q
same_results r q order parameters same = record {
  structure = order;
  parameters = parameters;
  lines = λ c count i j k l one other. of_case (HasSameLinesAsCases (length r.parameters) q.cases) r.cases i k one.case same c count one.here j l other;
}

pub flaw_of : (r : Results) (n : ℕ) (p : Partition) → n ≡ length r.parameters → (p ≡ Whole → ⊥) → IsPartitioned n r.cases p → IsFlaw r p
flaw_of r n Whole e flawed h = absurd (flawed refl)
flaw_of r n (Overlap i j s) e flawed h = subst (λ k. IsPartitioned k r.cases (Overlap i j s)) e h
flaw_of r n (Gap s) e flawed h = subst (λ k. IsPartitioned k r.cases (Gap s)) e h

pub partition_of : (r : Results) (n : ℕ) (p : Partition) → n ≡ length r.parameters → p ≡ Whole → IsPartitioned n r.cases p → IsPartition r
partition_of r n p e whole h = subst (λ k. IsPartitioned k r.cases Whole) e (subst (IsPartitioned n r.cases) whole h)
