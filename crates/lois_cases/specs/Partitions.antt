-- Whether exactly one case holds at each choice.
use Rattle.std.specs.Prelude.{◌≡◌, ℕ, List, [], ◌∷◌, ◌++◌, length, Option, Some, None, IsTrue, ◌↔◌}
use Rattle.std.specs.List.{All}
use Rattle.lois_base.specs.Atom.{Atom}
use Rattle.lois_base.specs.Truth.{holds, sampled}
use Rattle.lois_base.specs.declared.guards.Lit.{Lit}
use Rattle.lois_answers.specs.ResultsData.{CaseD}
use Rattle.lois_deciders.specs.Conjunction.{AreInconsistent}
use Rattle.lois_cases.specs.Cases.{NoneHoldsAt, IsTheCaseAt, BothHoldAt}
use Rattle.lois_cases.specs.declared.partitions.Partition.{Partition}
use Rattle.lois_cases.specs.declared.partitions.Partition.TheVariants.{Whole, Overlap, Gap}
use Rattle.lois_cases.specs.declared.partitions.Meeting.{Meeting}
use Rattle.lois_cases.specs.declared.partitions.MeetingPair.{MeetingPair}

-- at each choice of n atoms exactly one case holds
abbrev pub ArePartition : ℕ → List CaseD → Type 0
ArePartition n cases = (c : List Atom) → length c ≡ n → (i : ℕ) × (k : CaseD) × IsTheCaseAt c cases i k

-- at no choice of n atoms two cases hold
abbrev pub NeverOverlap : ℕ → List CaseD → Type 0
NeverOverlap n cases = (c : List Atom) → length c ≡ n → (i j : ℕ) → BothHoldAt c cases i j → ⊥

-- the cases are a partition; or two of them hold at a sample of n numbers; or no two ever do, and none holds at the sample
abbrev pub IsPartitioned : ℕ → List CaseD → Partition → Type 0
IsPartitioned n cases Whole = ArePartition n cases
IsPartitioned n cases (Overlap i j s) = (length s ≡ n) × BothHoldAt (sampled s) cases i j
IsPartitioned n cases (Gap s) = (length s ≡ n) × NeverOverlap n cases × NoneHoldsAt (sampled s) cases

-- ---- what private contracts say
-- at no choice of n atoms both hold
abbrev pub ExcludeEachOther : ℕ → List (List Lit) → CaseD → Type 0
ExcludeEachOther n u k = AreInconsistent n u k.«when»

-- each case excludes all later ones
abbrev pub AllExclude : ℕ → List CaseD → Type 0
AllExclude n [] = Unit {0}
AllExclude n (k ∷ ks) = All (ExcludeEachOther n k.«when») ks × AllExclude n ks

-- at the sample both hold
pub record IsCommonSample (n : ℕ) (u v : List (List Lit)) (s : List ℕ) : Type 0 where
  pub count : length s ≡ n
  pub first : IsTrue (holds (sampled s) u)
  pub second : IsTrue (holds (sampled s) v)

-- counted from 0, the case at this index and u hold at the sample
pub record IsMeeting (n : ℕ) (u : List (List Lit)) (cases : List CaseD) (m : Meeting) : Type 0 where
  pub before : List CaseD
  pub here : CaseD
  pub behind : List CaseD
  pub among : cases ≡ before ++ here ∷ behind
  pub index : m.index ≡ length before
  pub sample : IsCommonSample n u here.«when» m.sample

abbrev pub IsMeetingOrNone : ℕ → List (List Lit) → List CaseD → Option Meeting → Type 0
IsMeetingOrNone n u cases None = All (ExcludeEachOther n u) cases
IsMeetingOrNone n u cases (Some m) = IsMeeting n u cases m

-- two cases, by their numbers, from 1, hold at the sample
abbrev pub IsOverlap : ℕ → List CaseD → MeetingPair → Type 0
IsOverlap n cases p = (length p.sample ≡ n) × BothHoldAt (sampled p.sample) cases p.first p.second

abbrev pub IsOverlapOrNone : ℕ → List CaseD → Option MeetingPair → Type 0
IsOverlapOrNone n cases None = AllExclude n cases
IsOverlapOrNone n cases (Some p) = IsOverlap n cases p

-- the constraint holds exactly where no case does
abbrev pub HoldsWhereNone : List CaseD → List (List Lit) → Type 0
HoldsWhereNone cases r = (c : List Atom) → IsTrue (holds c r) ↔ NoneHoldsAt c cases

-- no case holds at the sample; or at each choice of n atoms one does
abbrev pub IsGapOrNone : ℕ → List CaseD → Option (List ℕ) → Type 0
IsGapOrNone n cases None = (c : List Atom) → length c ≡ n → NoneHoldsAt c cases → ⊥
IsGapOrNone n cases (Some s) = (length s ≡ n) × NoneHoldsAt (sampled s) cases
