-- Pairs of states of two automata, and steps of both with the same letter.
use Rattle.std.specs.Prelude.{◌≡◌, ℕ, Bool, List, length, ◌↔◌, ◌⊎◌}
use Rattle.lois_base.specs.Atom.{Atom}
use Rattle.lois_base.specs.Data.{TermD, coll, CompD, CompsD}
use Rattle.lois_base.specs.Fits.{CompFits, ItemsFit}
use Rattle.lois_base.specs.Validity.{AdmitsTerm, AdmitsComp, AdmitsItems, CompHasBoundedWidths, ItemsHaveBoundedWidths}
use Rattle.lois_base.specs.Values.{PointValue, point, IsIn, IsSame}
use Rattle.lois_algebra.specs.Gathered.{IsAmong, IsCompMember}
use Rattle.lois_meaning.specs.Automata.{IsPair, IsTriple}
use Rattle.lois_automata.specs.Adding.{Adds, IsMadeOfOne}
use Rattle.lois_automata.specs.Projections.{HasStepIn}

-- both automata have a step with the same letter: w is their step from the pair x to a pair
abbrev pub IsJointStep : PointValue → PointValue → PointValue → PointValue → Type 0
IsJointStep one other x w =
    (p l p' q q' x' : PointValue) × HasStepIn one p l p' × HasStepIn other q l q' × IsPair x p q × IsPair x' p' q' × IsTriple w x l x'

-- r has exactly the steps of both from the members of a set
abbrev pub AreJointSteps : ℕ → TermD → TermD → TermD → TermD → Type 0
AreJointSteps n pairs one other r =
    (c : List Atom) → length c ≡ n → (w : PointValue) → IsIn w (point r c) ↔ ((x : PointValue) × IsIn x (point pairs c) × IsJointStep (point one c) (point other c) x w)

-- w is a pair of a member of s and a member of t
abbrev pub IsPairIn : TermD → TermD → List Atom → PointValue → Type 0
IsPairIn s t c w = (p q : PointValue) × IsPair w p q × IsIn p (point s c) × IsIn q (point t c)

-- r has exactly the pairs among the members of a set whose parts are in s and in t
abbrev pub AreCommon : ℕ → TermD → TermD → TermD → TermD → Type 0
AreCommon n pairs s t r =
    (c : List Atom) → length c ≡ n → (w : PointValue) → IsIn w (point r c) ↔ (IsIn w (point pairs c) × IsPairIn s t c w)

-- ---- what private contracts say
-- w is the step x, whose source is in the set t
abbrev pub IsStepFrom : TermD → List Atom → PointValue → PointValue → Type 0
IsStepFrom t c x w = IsSame w x × ((p l q : PointValue) × IsTriple x p l q × IsIn p (point t c))

-- the steps of a comprehension that begin in the set t are added; of a list
abbrev pub AddsStepFrom : ℕ → CompD → TermD → CompsD → CompsD → Type 0
AddsStepFrom n k t = Adds n (λ c. IsMadeOfOne (IsStepFrom t c) (IsCompMember k c)) (CompFits n k) (λ o. AdmitsComp o k × AdmitsTerm o t) (CompHasBoundedWidths k)

abbrev pub AddsStepsFrom : ℕ → TermD → CompsD → CompsD → CompsD → Type 0
AddsStepsFrom n t ks = Adds n (λ c. IsMadeOfOne (IsStepFrom t c) (IsAmong ks c)) (ItemsFit n ks) (λ o. AdmitsItems o ks × AdmitsTerm o t) (ItemsHaveBoundedWidths ks)

-- the steps of both from the members of a comprehension are added
abbrev pub AddsJointSteps : ℕ → CompD → CompsD → CompsD → CompsD → CompsD → Type 0
AddsJointSteps n k one other =
    Adds n (λ c. IsMadeOfOne (IsJointStep (point (coll one) c) (point (coll other) c)) (IsCompMember k c)) (CompFits n k) (λ o. AdmitsComp o k × (AdmitsItems o one × AdmitsItems o other)) (ItemsHaveBoundedWidths one × ItemsHaveBoundedWidths other)

-- w is x, a pair of a member of s and a member of t
abbrev pub IsCommon : TermD → TermD → List Atom → PointValue → PointValue → Type 0
IsCommon s t c x w = IsSame w x × IsPairIn s t c x

abbrev pub AddsCommon : ℕ → CompD → TermD → TermD → CompsD → CompsD → Type 0
AddsCommon n k s t = Adds n (λ c. IsMadeOfOne (IsCommon s t c) (IsCompMember k c)) (CompFits n k) (λ o. AdmitsComp o k × (AdmitsTerm o s × AdmitsTerm o t)) (CompHasBoundedWidths k)

-- what a comprehension has and `seen` doesn't is put into both lists
pub record AddsFresh (n : ℕ) (k : CompD) (seen fresh seen' fresh' : CompsD) : Type 0 where
  pub all : (c : List Atom) → length c ≡ n → (w : PointValue) → IsAmong seen' c w ↔ (IsAmong seen c w ⊎ IsCompMember k c w)
  pub kept : (c : List Atom) → length c ≡ n → (w : PointValue) → IsAmong fresh c w → IsAmong fresh' c w
  pub only : (c : List Atom) → length c ≡ n → (w : PointValue) → IsAmong fresh' c w → IsAmong fresh c w ⊎ IsCompMember k c w
  pub new : (c : List Atom) → length c ≡ n → (w : PointValue) → IsAmong seen' c w → IsAmong seen c w ⊎ IsAmong fresh' c w
  pub levels : ItemsFit n seen → ItemsFit n fresh → ItemsFit n seen' × ItemsFit n fresh'
  pub operators : (o : Bool) → AdmitsComp o k → AdmitsItems o seen → AdmitsItems o fresh → AdmitsItems o seen' × AdmitsItems o fresh'

-- `fresh` has what the list ks has and `seen` doesn't, and it is put into `seen`
pub record AreFresh (n : ℕ) (ks seen seen' fresh : CompsD) : Type 0 where
  pub all : (c : List Atom) → length c ≡ n → (w : PointValue) → IsAmong seen' c w ↔ (IsAmong seen c w ⊎ IsAmong ks c w)
  pub only : (c : List Atom) → length c ≡ n → (w : PointValue) → IsAmong fresh c w → IsAmong ks c w
  pub new : (c : List Atom) → length c ≡ n → (w : PointValue) → IsAmong seen' c w → IsAmong seen c w ⊎ IsAmong fresh c w
  pub levels : ItemsFit n seen' × ItemsFit n fresh
  pub operators : (o : Bool) → AdmitsItems o ks → AdmitsItems o seen → AdmitsItems o seen' × AdmitsItems o fresh
