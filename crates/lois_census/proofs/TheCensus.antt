-- From the orbits of each comprehension to those of the set.
use Rattle.std.proofs.Common.{ℕ, zero, suc, ◌<◌, inl, inr, Bool, List, [], ◌∷◌, ◌++◌, length, get_or, append-nil, append_assoc, zero-add, refl, sym, ap, ◌∙◌, subst, arith}
use Rattle.std.proofs.lemmas.List.Elements.{All-append, All-weaker, All-head, All-tail}
use Rattle.std.specs.List.{All, Contains}
use Rattle.lois_base.proofs.Members.{same_trans}
use Rattle.lois_base.specs.Atom.{Atom}
use Rattle.lois_base.specs.Data.{TermD, coll, CompD, comp, CompsD, more, comps_of}
use Rattle.lois_base.specs.Fits.{Fits, CompFits, ItemsFit}
use Rattle.lois_base.specs.Truth.{sampled}
use Rattle.lois_base.specs.Validity.{AdmitsTerm, AdmitsComp, AdmitsItems, HasBoundedWidths, CompHasBoundedWidths, ItemsHaveBoundedWidths, IsStrictTerm, CompIsStrict, ItemsAreStrict}
use Rattle.lois_base.specs.Values.{PointValue, point, MakesAt, MemberAt, IsMember, IsIn}
use Rattle.lois_census.specs.Left.{IsTakenFromSome, IsCoveredByOrbits, AddsOnly, IsUsable}
use Rattle.lois_census.specs.OrbitData.{OrbitD}
use Rattle.lois_census.specs.Orbits.{value_of, IsInOrbit, IsInListedOrbit, FitsSample, IsTakenFrom, AreTakenInOrder}
use Rattle.lois_census.proofs.Lists.{Any-kept, Any-weaker}
use Rattle.std.proofs.lemmas.List.{length-map}
use Rattle.lois_base.specs.Atom.{whole}

-- ---- an orbit that is taken from a comprehension
pub taken_fits : (ordered : Bool) (k : CompD) (o : OrbitD) → CompFits 0 k → IsTakenFrom ordered k o → FitsSample o
taken_fits ordered (comp m g t) o fits h =
    subst (λ u. Fits (length o.sample) u) (sym h.0) (subst (λ n. Fits n t) (zero-add m ∙ sym h.1.0.count) fits.2)

pub taken_admits : (ordered admits : Bool) (k : CompD) (o : OrbitD) → AdmitsComp admits k → IsTakenFrom ordered k o → AdmitsTerm admits o.item
taken_admits ordered admits (comp m g t) o a h = subst (AdmitsTerm admits) (sym h.0) a.1

taken_widths : (ordered : Bool) (k : CompD) (o : OrbitD) → CompHasBoundedWidths k → IsTakenFrom ordered k o → HasBoundedWidths o.item
taken_widths ordered (comp m g t) o widths h = subst HasBoundedWidths (sym h.0) widths

taken_strict : (ordered : Bool) (k : CompD) (o : OrbitD) → CompIsStrict k → IsTakenFrom ordered k o → IsStrictTerm o.item
taken_strict ordered (comp m g t) o strict h = subst IsStrictTerm (sym h.0) strict.1

pub taken_usable : (ordered : Bool) (k : CompD) (o : OrbitD) → CompFits 0 k → AdmitsComp ordered k → IsTakenFrom ordered k o → IsUsable ordered o
taken_usable ordered k o fits admits h =
    record { levels = taken_fits ordered k o fits h; operators = taken_admits ordered ordered k o admits h }

taken_made : (ordered : Bool) (k : CompD) (o : OrbitD) → IsTakenFrom ordered k o → MakesAt o.item (sampled o.sample) k []
taken_made ordered (comp m g t) o h = (
  sampled o.sample,
  record { count = length-map o.sample whole ∙ h.1.0.count; guard = h.1.1 },
  h.0,
  refl,
)

-- ---- the comprehensions of a set
module _ (ordered : Bool) (P : CompD → Type 0) (Each : CompsD → Type 0) (split : (k : CompD) (ks : CompsD) → Each (more k ks) → P k × Each ks) where
  each_at : (ks : List CompD) (i : ℕ) (d : CompD) → i < length ks → Each (comps_of ks) → P (get_or ks i d)
  each_at [] i d l h = absurd (omega arith)
  each_at (k ∷ ks) zero d l h = (split k (comps_of ks) h).0
  each_at (k ∷ ks) (suc i) d l h = each_at ks i d (omega arith) (split k (comps_of ks) h).1

  some_has : (Q : OrbitD → Type 0) → ((k : CompD) (o : OrbitD) → P k → IsTakenFrom ordered k o → Q o) → (ks : List CompD) → Each (comps_of ks) → (o : OrbitD) → IsTakenFromSome ordered ks o → Q o
  some_has Q step ks each o h = step h.1 o (subst P h.3 (each_at ks h.0 h.1 h.2 each)) h.4

  pub all_have : (Q : OrbitD → Type 0) → ((k : CompD) (o : OrbitD) → P k → IsTakenFrom ordered k o → Q o) → (ks : List CompD) → Each (comps_of ks) → (os : List OrbitD) → All (IsTakenFromSome ordered ks) os → All Q os
  all_have Q step ks each os h =
      All-weaker (IsTakenFromSome ordered ks) Q (some_has Q step ks each) os h

pub all_usable : (ordered : Bool) (ks : List CompD) → ItemsFit 0 (comps_of ks) → AdmitsItems ordered (comps_of ks) → (os : List OrbitD) → All (IsTakenFromSome ordered ks) os → All (IsUsable ordered) os
all_usable ordered ks fits admits os h =
    all_have ordered (λ k. CompFits 0 k × AdmitsComp ordered k) (λ cs. ItemsFit 0 cs × AdmitsItems ordered cs) (λ k cs e. ((e.0.0, e.1.0), (e.0.1, e.1.1))) (IsUsable ordered) (λ k o p q. taken_usable ordered k o p.0 p.1 q) ks (fits, admits) os h

pub all_fit : (ordered : Bool) (ks : List CompD) → ItemsFit 0 (comps_of ks) → (os : List OrbitD) → All (IsTakenFromSome ordered ks) os → All FitsSample os
all_fit ordered ks fits os h =
    all_have ordered (CompFits 0) (ItemsFit 0) (λ k cs e. e) FitsSample (taken_fits ordered) ks fits os h

pub all_admitted : (ordered admits : Bool) (ks : List CompD) → AdmitsItems admits (comps_of ks) → (os : List OrbitD) → All (IsTakenFromSome ordered ks) os → All (λ o. AdmitsTerm admits o.item) os
all_admitted ordered admits ks a os h =
    all_have ordered (AdmitsComp admits) (AdmitsItems admits) (λ k cs e. e) (λ o. AdmitsTerm admits o.item) (taken_admits ordered admits) ks a os h

pub all_wide : (ordered : Bool) (ks : List CompD) → ItemsHaveBoundedWidths (comps_of ks) → (os : List OrbitD) → All (IsTakenFromSome ordered ks) os → All (λ o. HasBoundedWidths o.item) os
all_wide ordered ks widths os h =
    all_have ordered CompHasBoundedWidths ItemsHaveBoundedWidths (λ k cs e. e) (λ o. HasBoundedWidths o.item) (taken_widths ordered) ks widths os h

pub all_strict : (ordered : Bool) (ks : List CompD) → ItemsAreStrict (comps_of ks) → (os : List OrbitD) → All (IsTakenFromSome ordered ks) os → All (λ o. IsStrictTerm o.item) os
all_strict ordered ks strict os h =
    all_have ordered CompIsStrict ItemsAreStrict (λ k cs e. e) (λ o. IsStrictTerm o.item) (taken_strict ordered) ks strict os h

-- ---- members
made_member : (ks : List CompD) (i : ℕ) (d : CompD) (w : TermD) (x : List Atom) → i < length ks → MakesAt w x (get_or ks i d) [] → MemberAt w x (comps_of ks) []
made_member [] i d w x l h = absurd (omega arith)
made_member (k ∷ ks) zero d w x l h = inl h
made_member (k ∷ ks) (suc i) d w x l h = inr (made_member ks i d w x (omega arith) h)

pub all_members : (ordered : Bool) (ks : List CompD) (os : List OrbitD) → All (IsTakenFromSome ordered ks) os → All (λ o. IsMember (value_of o) (point (coll (comps_of ks)) [])) os
all_members ordered ks os h =
    All-weaker (IsTakenFromSome ordered ks) (λ o. IsMember (value_of o) (point (coll (comps_of ks)) [])) (λ o p. made_member ks p.0 p.1 o.item (sampled o.sample) p.2 (subst (λ k. MakesAt o.item (sampled o.sample) k []) (sym p.3) (taken_made ordered p.1 o p.4))) os h

module _ (ordered : Bool) (os : List OrbitD) where
  covers_made : (k : CompD) (w : TermD) (x : List Atom) → IsCoveredByOrbits ordered os k → MakesAt w x k [] → IsInListedOrbit ordered os (point w x)
  covers_made (comp m g t) w x covered h =
      subst (λ z. IsInListedOrbit ordered os (point w z)) (sym h.3) (subst (λ z. IsInListedOrbit ordered os (point z h.0)) (sym h.2) (covered h.0 h.1))

  covers_member : (ks : List CompD) (w : TermD) (x : List Atom) → All (IsCoveredByOrbits ordered os) ks → MemberAt w x (comps_of ks) [] → IsInListedOrbit ordered os (point w x)
  covers_member [] w x covered h = absurd h
  covers_member (k ∷ ks) w x covered (inl h) = covers_made k w x (All-head (IsCoveredByOrbits ordered os) k ks covered) h
  covers_member (k ∷ ks) w x covered (inr h) = covers_member ks w x (All-tail (IsCoveredByOrbits ordered os) k ks covered) h

  pub each_listed : (ks : List CompD) → All (IsCoveredByOrbits ordered os) ks → (v : PointValue) → IsIn v (point (coll (comps_of ks)) []) → IsInListedOrbit ordered os v
  each_listed ks covered v h =
      let u = h.0 in
      Any-weaker (IsInOrbit ordered u) (IsInOrbit ordered v) (λ o k. (k.0, k.1, same_trans v u (point o.item k.0) h.2 k.2)) os (covers_member ks u.term_of u.choice covered h.1)

-- ---- one more comprehension
module _ (ordered : Bool) (k : CompD) (xs ys : List OrbitD) (added : AddsOnly (IsTakenFrom ordered k) xs ys) where
  pub still_covered : (q : CompD) → IsCoveredByOrbits ordered xs q → IsCoveredByOrbits ordered ys q
  still_covered (comp m g t) h = λ e extension.
      subst (λ os. IsInListedOrbit ordered os (point t e)) (sym added.1) (Any-kept (IsInOrbit ordered (point t e)) xs added.0 (h e extension))

  pub still_taken : (ks : List CompD) → Contains ks k → All (IsTakenFromSome ordered ks) xs → All (IsTakenFromSome ordered ks) ys
  still_taken ks there h =
      subst (All (IsTakenFromSome ordered ks)) (sym added.1) (All-append (IsTakenFromSome ordered ks) xs added.0 h (All-weaker (IsTakenFrom ordered k) (IsTakenFromSome ordered ks) (λ o p. (there.0, k, there.1, there.2, p)) added.0 added.2))

-- the orbits of the comprehensions before it, and then its own
pub still_in_order : (ordered : Bool) (k : CompD) (ks : List CompD) (xs ys : List OrbitD) → AddsOnly (IsTakenFrom ordered k) xs ys → AreTakenInOrder ordered (comps_of ks) xs → AreTakenInOrder ordered (comps_of (ks ++ k ∷ [])) ys
still_in_order ordered k [] xs ys added h =
    (added.0, [], added.1 ∙ (ap (λ z. z ++ added.0) h ∙ sym (append-nil added.0)), added.2, refl)
still_in_order ordered k (q ∷ ks) xs ys added h = (
  h.0,
  h.1 ++ added.0,
  added.1 ∙ (ap (λ z. z ++ added.0) h.2 ∙ append_assoc h.0 h.1 added.0),
  h.3,
  still_in_order ordered k ks h.1 (h.1 ++ added.0) (added.0, refl, added.2) h.4,
)
