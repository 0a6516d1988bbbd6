-- Cases of results, and where they hold.
use Rattle.std.specs.Prelude.{◌≡◌, ℕ, ◌+◌, ◌<◌, List, ◌∷◌, ◌++◌, length, IsTrue}
use Rattle.std.specs.List.{All}
use Rattle.lois_base.specs.Atom.{Atom}
use Rattle.lois_base.specs.Fits.{ConstraintFits}
use Rattle.lois_base.specs.Truth.{holds}
use Rattle.lois_answers.specs.ResultsData.{CaseD}

-- the constraint's levels are below n
abbrev pub CaseFits : ℕ → CaseD → Type 0
CaseFits n k = ConstraintFits n k.«when»

abbrev pub HoldsAt : List Atom → CaseD → Type 0
HoldsAt c k = IsTrue (holds c k.«when»)

abbrev pub NoneHoldsAt : List Atom → List CaseD → Type 0
NoneHoldsAt c = All (λ k. HoldsAt c k → ⊥)

-- counted from 1, the case at i is k
pub record IsCase (cases : List CaseD) (i : ℕ) (k : CaseD) : Type 0 where
  pub before : List CaseD
  pub behind : List CaseD
  pub among : cases ≡ before ++ k ∷ behind
  pub number : i ≡ length before + 1

-- at the choice c the case at i holds, and no other does
pub record IsTheCaseAt (c : List Atom) (cases : List CaseD) (i : ℕ) (k : CaseD) : Type 0 where
  pub case : IsCase cases i k
  pub here : HoldsAt c k
  pub none_before : NoneHoldsAt c case.before
  pub none_behind : NoneHoldsAt c case.behind

-- at the choice c the cases at i and at j hold, and i is the earlier one
abbrev pub BothHoldAt : List Atom → List CaseD → ℕ → ℕ → Type 0
BothHoldAt c cases i j = (k l : CaseD) × (i < j) × IsCase cases i k × IsCase cases j l × HoldsAt c k × HoldsAt c l
