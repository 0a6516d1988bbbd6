-- What the private contracts say: of constraints that stand for memberships, and of comprehensions beside one another.
use Rattle.std.specs.Prelude.{◌≡◌, ℕ, ◌+◌, List, [], ◌∷◌, ◌++◌, length, IsTrue, ◌↔◌, ◌⊎◌}
use Rattle.lois_base.specs.Atom.{Atom}
use Rattle.lois_base.specs.Data.{TermD, CompD, comp, CompsD, no_comps, more}
use Rattle.lois_base.specs.Fits.{CompFits}
use Rattle.lois_base.specs.Validity.{AdmitsTerm, AdmitsComp, CompHasBoundedWidths}
use Rattle.lois_base.specs.Truth.{holds}
use Rattle.lois_base.specs.Values.{PointValue, point, IsIn, IsSame, IsExtension}
use Rattle.lois_base.specs.declared.guards.Lit.{Lit}
use Rattle.lois_algebra.specs.Gathered.{IsCompMember}
use Rattle.lois_constraint.specs.Entailment.{IsPruned}
use Rattle.lois_meaning.specs.Automata.{IsPair}
use Rattle.lois_rounds.specs.Families.{MemberD, FamilyD}
use Rattle.lois_automata.specs.Adding.{Adds, IsMadeOfOne}
use Rattle.lois_automata.specs.Reachability.{LeadsTo}

-- with m further atoms, r holds exactly where the item is in the set t, whose levels are the first n
abbrev pub HoldsWhereMember : ℕ → ℕ → TermD → TermD → List (List Lit) → Type 0
HoldsWhereMember n m item t r =
    (c e : List Atom) → length c ≡ n → length e ≡ m → IsTrue (holds (c ++ e) r) ↔ IsIn (point item (c ++ e)) (point t c)

-- r holds exactly where u and g do and the item is in the set t; the levels of u and t are the first n
abbrev pub HoldsWhereAdmittedIn : ℕ → ℕ → List (List Lit) → List (List Lit) → TermD → TermD → List (List Lit) → Type 0
HoldsWhereAdmittedIn n m u g item t r =
    (c e : List Atom) → length c ≡ n → length e ≡ m → IsTrue (holds (c ++ e) r) ↔ (IsTrue (holds c u) × IsTrue (holds (c ++ e) g) × IsIn (point item (c ++ e)) (point t c))

-- r has exactly what a move leads to from a member of s
abbrev pub AreTargets : ℕ → TermD → TermD → TermD → Type 0
AreTargets n moves s r =
    (c : List Atom) → length c ≡ n → (w : PointValue) → IsIn w (point r c) ↔ ((p : PointValue) × IsIn p (point s c) × LeadsTo (point moves c) p w)

-- a member of a family over a comprehension: at each choice it holds where u and g do and the item is in the set t
abbrev pub IsFirstMember : ℕ → List (List Lit) → TermD → CompD → MemberD → Type 0
IsFirstMember n u t (comp m g item) r = (r.0 ≡ n + m) × HoldsWhereAdmittedIn n m u g item t r.1

abbrev pub AreFirstMembers : ℕ → List (List Lit) → TermD → CompsD → FamilyD → Type 0
AreFirstMembers n u t no_comps [] = Unit {0}
AreFirstMembers n u t (more k ks) (r ∷ f) = IsFirstMember n u t k r × AreFirstMembers n u t ks f
AreFirstMembers n u t _ _ = ⊥

-- what is new: it holds where u and g do, the item is in the set t, and the member doesn't hold yet; no cube of it is idle
pub record IsFreshMember (n : ℕ) (u : List (List Lit)) (t : TermD) (m : ℕ) (g : List (List Lit)) (item : TermD) (b r : MemberD) : Type 0 where
  pub size : r.0 ≡ b.0
  pub truth : (c e : List Atom) → length c ≡ n → length e ≡ m →
      IsTrue (holds (c ++ e) r.1) ↔ (IsTrue (holds c u) × IsTrue (holds (c ++ e) g) × IsIn (point item (c ++ e)) (point t c) × (IsTrue (holds (c ++ e) b.1) → ⊥))
  pub pruned : IsPruned r.1

abbrev pub AreFreshMembers : ℕ → List (List Lit) → TermD → CompsD → FamilyD → FamilyD → Type 0
AreFreshMembers n u t no_comps [] [] = Unit {0}
AreFreshMembers n u t (more (comp m g item) ks) (b ∷ f) (r ∷ fresh) = IsFreshMember n u t m g item b r × AreFreshMembers n u t ks f fresh
AreFreshMembers n u t _ _ _ = ⊥

-- the same size, and r holds where one of the two does: it has the cubes of both
pub record IsJoinedMember (a b r : MemberD) : Type 0 where
  pub size : r.0 ≡ a.0
  pub cubes : r.1 ≡ a.1 ++ b.1
  pub truth : (c : List Atom) → IsTrue (holds c r.1) ↔ (IsTrue (holds c a.1) ⊎ IsTrue (holds c b.1))

abbrev pub AreJoinedMembers : FamilyD → FamilyD → FamilyD → Type 0
AreJoinedMembers [] [] [] = Unit {0}
AreJoinedMembers (a ∷ f) (b ∷ g) (r ∷ h) = IsJoinedMember a b r × AreJoinedMembers f g h
AreJoinedMembers _ _ _ = ⊥

-- no member has a cube
abbrev pub IsEmptyFamily : FamilyD → Type 0
IsEmptyFamily [] = Unit {0}
IsEmptyFamily (r ∷ f) = (r.1 ≡ []) × IsEmptyFamily f

-- two comprehensions one behind the other: guard g of m binders and then those of the second, and the two items at the same choices
pub record AreBeside (n : ℕ) (k q : CompD) (m : ℕ) (g : List (List Lit)) (one two : TermD) : Type 0 where
  pub made : (c : List Atom) → length c ≡ n → (v w : PointValue) →
      (IsCompMember k c v × IsCompMember q c w) ↔ ((e : List Atom) × IsExtension c m g e × IsSame (point one (c ++ e)) v × IsSame (point two (c ++ e)) w)

-- r has exactly the pairs of a member of s and one of t
abbrev pub ArePairs : ℕ → TermD → TermD → TermD → Type 0
ArePairs n s t r =
    (c : List Atom) → length c ≡ n → (w : PointValue) → IsIn w (point r c) ↔ ((p q : PointValue) × IsIn p (point s c) × IsIn q (point t c) × IsPair w p q)

-- the move x leads to w from a member of s
abbrev pub IsLedFrom : TermD → List Atom → PointValue → PointValue → Type 0
IsLedFrom s c x w = (p : PointValue) × IsPair x p w × IsIn p (point s c)

-- what the moves of k lead to from members of s is added
abbrev pub AddsTarget : ℕ → CompD → TermD → CompsD → CompsD → Type 0
AddsTarget n k s = Adds n (λ c. IsMadeOfOne (IsLedFrom s c) (IsCompMember k c)) (CompFits n k) (λ o. AdmitsComp o k × AdmitsTerm o s) (CompHasBoundedWidths k)
