-- The orbits of a set in each case of results without parameters.
use Rattle.std.specs.Prelude.{◌≡◌, ℕ, suc, Bool, List, [], ◌∷◌, filter, Some}
use Rattle.std.specs.List.{All, AllPairs, AllZip}
use Rattle.lois_base.specs.Data.{TermD}
use Rattle.lois_base.specs.Truth.{holds}
use Rattle.lois_base.specs.Validity.{AdmitsTerm, HasBoundedWidths, IsStrictTerm}
use Rattle.lois_base.specs.Values.{PointValue, point, IsMember, IsIn}
use Rattle.lois_answers.specs.LastNamed.{last_named}
use Rattle.lois_answers.specs.ResultsData.{LineD, CaseD}
use Rattle.lois_terms.specs.Collections.{IsColl}
use Rattle.lois_census.specs.CensusData.{CensusD}
use Rattle.lois_census.specs.OrbitData.{OrbitD}
use Rattle.lois_census.specs.Orbits.{value_of, IsInListedOrbit, AreDisjointOrbits, FitsSample, AreTakenFrom}

-- each orbit is that of a member of the set t, and each member of it is in exactly one; comprehensions give items, in their order
pub record AreOrbitsOf (ordered : Bool) (t : TermD) (os : List OrbitD) : Type 0 where
  pub levels : All FitsSample os
  pub members : All (λ o. IsMember (value_of o) (point t [])) os
  pub each : (v : PointValue) → IsIn v (point t []) → IsInListedOrbit ordered os v
  pub once : AllPairs (AreDisjointOrbits ordered) os
  pub taken : AreTakenFrom ordered t os
  pub operators : (o : Bool) → AdmitsTerm o t → All (λ k. AdmitsTerm o k.item) os
  pub widths : HasBoundedWidths t → All (λ k. HasBoundedWidths k.item) os
  pub strict : IsStrictTerm t → All (λ k. IsStrictTerm k.item) os

-- a line of the name, of which the last counts
abbrev pub HasNamedLine : List ℕ → CaseD → Type 0
HasNamedLine name c = (l : LineD) × (last_named name c.lines ≡ Some l)

-- and its term is a set
abbrev pub HasSet : List ℕ → CaseD → Type 0
HasSet name c = (l : LineD) × (last_named name c.lines ≡ Some l) × IsColl l.term

-- a case with its number
pub record NumberedD : Type 0 where
  pub number : ℕ
  pub case : CaseD

-- numbered from n on
abbrev pub numbered : ℕ → List CaseD → List NumberedD
numbered n [] = []
numbered n (c ∷ cs) = record { number = n; case = c } ∷ numbered (suc n) cs

-- the constraint is true: without parameters there is one choice
abbrev pub is_met : NumberedD → Bool
is_met k = holds [] k.case.«when»

-- the orbits of the set of that name
abbrev pub AreOrbitsIn : Bool → List ℕ → CaseD → List OrbitD → Type 0
AreOrbitsIn ordered name c os =
    (l : LineD) × (last_named name c.lines ≡ Some l) × AreOrbitsOf ordered l.term os

-- the number of the case, and the orbits of its set
abbrev pub IsCensusOf : Bool → List ℕ → NumberedD → CensusD → Type 0
IsCensusOf ordered name k e = (e.case ≡ k.number) × AreOrbitsIn ordered name k.case e.orbits

-- an entry for each of the cases whose constraint holds, in order
abbrev pub AreCensusesOf : Bool → List ℕ → List NumberedD → List CensusD → Type 0
AreCensusesOf ordered name ks es = AllZip (IsCensusOf ordered name) (filter is_met ks) es

-- each item can be spelled among as many levels as its sample has numbers
abbrev pub HaveText : List CensusD → Type 0
HaveText = All (λ e. All FitsSample e.orbits)
