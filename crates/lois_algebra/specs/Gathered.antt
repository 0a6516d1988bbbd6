-- Values among the members of lists of comprehensions, as these lists are put together.
use Rattle.std.specs.Prelude.{◌≡◌, ◌≤◌, max, ℕ, Bool, List, ◌++◌, length, ◌⊎◌, ◌↔◌}
use Rattle.lois_base.specs.Atom.{Atom}
use Rattle.lois_base.specs.Data.{coll, CompD, comp, CompsD, no_comps, more, depth_of_comp, depth_of_items}
use Rattle.lois_base.specs.Fits.{CompFits, ItemsFit}
use Rattle.lois_base.specs.Validity.{AdmitsConstraint, AdmitsComp, AdmitsItems, CompHasBoundedWidths, ItemsHaveBoundedWidths}
use Rattle.lois_base.specs.Values.{PointValue, IsExtension, SomeIsAt, OneIsAt}
use Rattle.lois_base.specs.declared.guards.Lit.{Lit}

-- w is in the set with these comprehensions
abbrev pub IsAmong : CompsD → List Atom → PointValue → Type 0
IsAmong ks c w = SomeIsAt ks c w.term_of w.choice

-- w is in the set with this comprehension alone
abbrev pub IsCompMember : CompD → List Atom → PointValue → Type 0
IsCompMember k c w = OneIsAt k c w.term_of w.choice

-- w is in some member that a comprehension makes whose item is the set with the comprehensions qs
abbrev pub IsAmongExtended : ℕ → List (List Lit) → CompsD → List Atom → PointValue → Type 0
IsAmongExtended m g qs c w = (e : List Atom) × IsExtension c m g e × IsAmong qs (c ++ e) w

abbrev pub IsInMember : CompD → List Atom → PointValue → Type 0
IsInMember (comp m g (coll qs)) c w = IsAmongExtended m g qs c w
IsInMember _ c w = ⊥

-- w is in some member of a set of sets
abbrev pub IsInSome : CompsD → List Atom → PointValue → Type 0
IsInSome no_comps c w = ⊥
IsInSome (more k ks) c w = IsInMember k c w ⊎ IsInSome ks c w

-- the list `after` has the members of `before` and those of k
pub record IsPut (k : CompD) (before after : CompsD) : Type 0 where
  pub members : (c : List Atom) (w : PointValue) → IsAmong after c w ↔ (IsAmong before c w ⊎ IsCompMember k c w)
  pub levels : (n : ℕ) → ItemsFit n before → CompFits n k → ItemsFit n after
  pub operators : (o : Bool) → AdmitsItems o before → AdmitsComp o k → AdmitsItems o after
  pub widths : ItemsHaveBoundedWidths before → CompHasBoundedWidths k → ItemsHaveBoundedWidths after
  pub depth : depth_of_items after ≤ max (depth_of_items before) (depth_of_comp k)

-- the list `after` has the members of `before` and those of the members that k makes
pub record Gathers (n : ℕ) (k : CompD) (before after : CompsD) : Type 0 where
  pub members : (c : List Atom) → length c ≡ n → (w : PointValue) → IsAmong after c w ↔ (IsAmong before c w ⊎ IsInMember k c w)
  pub levels : ItemsFit n before → ItemsFit n after
  pub operators : (o : Bool) → AdmitsComp o k → AdmitsItems o before → AdmitsItems o after
  pub widths : CompHasBoundedWidths k → ItemsHaveBoundedWidths before → ItemsHaveBoundedWidths after
  pub depth : depth_of_items after ≤ max (depth_of_items before) (depth_of_comp k)

-- the same, of a comprehension whose item is the set with the comprehensions qs
pub record GathersItems (n m : ℕ) (g : List (List Lit)) (qs before after : CompsD) : Type 0 where
  pub members : (c : List Atom) → length c ≡ n → (w : PointValue) → IsAmong after c w ↔ (IsAmong before c w ⊎ IsAmongExtended m g qs c w)
  pub levels : ItemsFit n before → ItemsFit n after
  pub operators : (o : Bool) → AdmitsConstraint o g → AdmitsItems o qs → AdmitsItems o before → AdmitsItems o after
  pub widths : ItemsHaveBoundedWidths qs → ItemsHaveBoundedWidths before → ItemsHaveBoundedWidths after
  pub depth : depth_of_items after ≤ max (depth_of_items before) (depth_of_items qs)
