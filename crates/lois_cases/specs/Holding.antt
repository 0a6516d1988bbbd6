-- Which case holds at a choice.
use Rattle.std.specs.Prelude.{◌≡◌, ℕ, List, ◌∷◌, ◌++◌, length, Option, Some, None}
use Rattle.lois_base.specs.Atom.{Atom}
use Rattle.lois_answers.specs.ResultsData.{CaseD}
use Rattle.lois_cases.specs.Cases.{HoldsAt, NoneHoldsAt, IsTheCaseAt, BothHoldAt}
use Rattle.lois_cases.specs.declared.holding.Holding.{Holding}
use Rattle.lois_cases.specs.declared.holding.Holding.TheVariants.{Once, Nowhere, Twice}

-- exactly one case holds at the choice c, or none, or two of them do
abbrev pub IsHolding : List Atom → List CaseD → Holding → Type 0
IsHolding c cases (Once i) = (k : CaseD) × IsTheCaseAt c cases i k
IsHolding c cases Nowhere = NoneHoldsAt c cases
IsHolding c cases (Twice i j) = BothHoldAt c cases i j

-- ---- what private contracts say
-- counted from 0, the case at i is the first that holds at the choice
pub record IsFirstAt (c : List Atom) (cases : List CaseD) (i : ℕ) : Type 0 where
  pub before : List CaseD
  pub here : CaseD
  pub behind : List CaseD
  pub among : cases ≡ before ++ here ∷ behind
  pub index : i ≡ length before
  pub none_before : NoneHoldsAt c before
  pub holds_here : HoldsAt c here

abbrev pub IsFirstHolding : List Atom → List CaseD → Option ℕ → Type 0
IsFirstHolding c cases None = NoneHoldsAt c cases
IsFirstHolding c cases (Some i) = IsFirstAt c cases i
