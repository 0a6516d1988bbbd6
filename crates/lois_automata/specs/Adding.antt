-- Lists of comprehensions to which members are added.
use Rattle.std.specs.Prelude.{◌≡◌, ℕ, Bool, List, length, ◌⊎◌, ◌↔◌}
use Rattle.lois_base.specs.Atom.{Atom}
use Rattle.lois_base.specs.Data.{CompD, CompsD}
use Rattle.lois_base.specs.Fits.{CompFits, ItemsFit}
use Rattle.lois_base.specs.Validity.{AdmitsComp, AdmitsItems, CompHasBoundedWidths, ItemsHaveBoundedWidths}
use Rattle.lois_base.specs.Values.{PointValue}
use Rattle.lois_algebra.specs.Gathered.{IsAmong, IsCompMember}
use Rattle.lois_meaning.specs.Automata.{IsPair, IsTriple}

-- At choices of n atoms the list `after` has the members of `before` and those that W names. Its levels fit where F says, its
-- operators are admitted where A says, and its tuples have usual widths where U says, if those of `before` do.
pub record Adds (n : ℕ) (W : List Atom → PointValue → Type 0) (F : Type 0) (A : Bool → Type 0) (U : Type 0) (before after : CompsD) : Type 0 where
  pub members : (c : List Atom) → length c ≡ n → (w : PointValue) → IsAmong after c w ↔ (IsAmong before c w ⊎ W c w)
  pub levels : F → ItemsFit n before → ItemsFit n after
  pub operators : (o : Bool) → A o → AdmitsItems o before → AdmitsItems o after
  pub widths : U → ItemsHaveBoundedWidths before → ItemsHaveBoundedWidths after

-- some value x of a kind makes w
abbrev pub IsMadeOfOne : (PointValue → PointValue → Type 0) → (PointValue → Type 0) → PointValue → Type 0
IsMadeOfOne R P w = (x : PointValue) × P x × R x w

-- some value x of the one kind and some y of the other make w
abbrev pub IsMadeOfTwo : (PointValue → PointValue → PointValue → Type 0) → (PointValue → Type 0) → (PointValue → Type 0) → PointValue → Type 0
IsMadeOfTwo R P Q w = (x y : PointValue) × P x × Q y × R x y w

-- w is the pair of x and y
abbrev pub IsPairOf : PointValue → PointValue → PointValue → Type 0
IsPairOf x y w = IsPair w x y

-- x and y are steps with the same letter, and w is the step with it from the pair of the sources to the pair of the targets
abbrev pub IsStepOf : PointValue → PointValue → PointValue → Type 0
IsStepOf x y w =
    (p l p' q q' s s' : PointValue) × IsTriple x p l p' × IsTriple y q l q' × IsPair s p q × IsPair s' p' q' × IsTriple w s l s'

-- what R makes of a member of the one comprehension and a member of the other is added
abbrev pub AddsOfTwo : (PointValue → PointValue → PointValue → Type 0) → ℕ → CompD → CompD → CompsD → CompsD → Type 0
AddsOfTwo R n k q =
    Adds n (λ c. IsMadeOfTwo R (IsCompMember k c) (IsCompMember q c)) (CompFits n k × CompFits n q) (λ o. AdmitsComp o k × AdmitsComp o q) (CompHasBoundedWidths k × CompHasBoundedWidths q)

-- what R makes of a member of the comprehension and a member of the list is added
abbrev pub AddsWithEach : (PointValue → PointValue → PointValue → Type 0) → ℕ → CompD → CompsD → CompsD → CompsD → Type 0
AddsWithEach R n k qs =
    Adds n (λ c. IsMadeOfTwo R (IsCompMember k c) (IsAmong qs c)) (CompFits n k × ItemsFit n qs) (λ o. AdmitsComp o k × AdmitsItems o qs) (CompHasBoundedWidths k × ItemsHaveBoundedWidths qs)
