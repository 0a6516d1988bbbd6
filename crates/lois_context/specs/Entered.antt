-- What stands for the members of a set when a loop over it is entered.
use Rattle.std.specs.Prelude.{◌≡◌, ℕ, ◌+◌, ◌≤◌, ◌⊎◌, ◌↔◌, Bool, ◌&&◌, List, [], ◌∷◌, ◌++◌, length, map}
use Rattle.std.specs.declared.option.Option.TheVariants.{Some}
use Rattle.std.specs.List.{All, Contains}
use Rattle.lois_base.specs.Atom.{Atom}
use Rattle.lois_base.specs.Data.{TermD, coll, CompD, comp, CompsD, no_comps, more}
use Rattle.lois_base.specs.Shift.{shift}
use Rattle.lois_base.specs.Truth.{holds}
use Rattle.lois_base.specs.Validity.{AdmitsTerm, AdmitsComp, HasBoundedWidths, CompHasBoundedWidths}
use Rattle.lois_base.specs.Values.{PointValue, point, IsMember}
use Rattle.lois_base.specs.declared.guards.Lit.{Lit}
use Rattle.lois_answers.specs.ResultsData.{LineD}
use Rattle.lois_meaning.specs.Store.{looked_up, stored, AreSameNamed}
use Rattle.lois_deciders.specs.Conjunction.{AreInconsistent}
use Rattle.lois_context.specs.Choices.{IsAdmitted, AdmitsContext, ContextHasBoundedWidths}
use Rattle.lois_context.specs.Slots.{SlotD, slot_name, store_at}
use Rattle.lois_context.specs.ItemCounts.{comps_in}
use Rattle.lois_context.specs.LineValues.{line_values}
use Rattle.lois_context.specs.Kept.{AreSlots, LinesFit}
use Rattle.lois_context.specs.declared.contexts.Context.{Context}
use Rattle.lois_context.specs.declared.entering.Held.{Held}

abbrev pub binders_of : CompD → ℕ
binders_of (comp m g t) = m

abbrev pub guard_of : CompD → List (List Lit)
guard_of (comp m g t) = g

abbrev pub item_of : CompD → TermD
item_of (comp m g t) = t

-- the comprehensions of a set, in order
abbrev pub items_listed : CompsD → List CompD
items_listed no_comps = []
items_listed (more k ks) = k ∷ items_listed ks

abbrev pub comps_listed : TermD → List CompD
comps_listed (coll ks) = items_listed ks
comps_listed _ = []

-- A slot with `by` levels put in after the first n. The comprehensions of a set stood there when the loop was entered.
abbrev pub carried : ℕ → ℕ → SlotD → SlotD
carried n by s = record { name = s.name; term = shift n by s.term; from = comps_in s.term }

abbrev pub carried_line : ℕ → ℕ → LineD → LineD
carried_line n by l = record { name = l.name; term = shift n by l.term }

abbrev pub element_slot : List ℕ → TermD → SlotD
element_slot x t = record { name = x; term = t; from = 0 }

-- The context that stands for the members of one comprehension, which x names: its binders are new levels, its guard holds.
pub record IsMemberContext (before : Context) (x : List ℕ) (k : CompD) (inner : Context) : Type 0 where
  pub size : inner.size ≡ before.size + binders_of k
  pub «when» : (c : List Atom) → holds c inner.«when» ≡ (holds c before.«when» && holds c (guard_of k))
  pub store : inner.store ≡ map (carried before.size (binders_of k)) before.store ++ element_slot x (item_of k) ∷ []
  pub lines : inner.lines ≡ map (carried_line before.size (binders_of k)) before.lines
  pub operators : (ordered : Bool) → AdmitsContext ordered before → AdmitsComp ordered k → AdmitsContext ordered inner
  pub widths : ContextHasBoundedWidths before → CompHasBoundedWidths k → ContextHasBoundedWidths inner

-- what the context holds, with so many levels put in behind its own
pub record IsCarried (before : Context) (held : Held) : Type 0 where
  pub store : held.store ≡ map (carried before.size held.by) before.store
  pub slots : AreSlots (before.size + held.by) held.store
  pub lines : held.lines ≡ map (carried_line before.size held.by) before.lines
  pub fitting : LinesFit (before.size + held.by) held.lines

-- the comprehension has no members where the context admits
abbrev pub HasNoMembers : Context → CompD → Type 0
HasNoMembers before k = AreInconsistent (before.size + binders_of k) before.«when» (guard_of k)

-- one context for each comprehension that has members, in order
abbrev pub AreMemberContexts : Context → List ℕ → List CompD → List Context → Type 0
AreMemberContexts before x [] [] = Unit {0}
AreMemberContexts before x [] (d ∷ ds) = ⊥
AreMemberContexts before x (k ∷ ks) [] = HasNoMembers before k × AreMemberContexts before x ks []
AreMemberContexts before x (k ∷ ks) (d ∷ ds) =
    (HasNoMembers before k × AreMemberContexts before x ks (d ∷ ds)) ⊎ (IsMemberContext before x k d × AreMemberContexts before x ks ds)

-- at some longer choice one of the contexts has u under the name
abbrev pub IsHeldInside : List Context → List ℕ → List Atom → PointValue → Type 0
IsHeldInside inner x c u =
    (d : Context) × Contains inner d × (e : List Atom) × IsAdmitted (c ++ e) d × (looked_up x (store_at (c ++ e) d.store) ≡ Some u)

-- Inside, at each choice that goes on from one outside, the lines and every other name have the values that they have there.
pub record ExtendsContext (before : Context) (x : List ℕ) (inner : Context) : Type 0 where
  pub outside : (c e : List Atom) → length c ≡ before.size → IsAdmitted (c ++ e) inner → IsAdmitted c before
  pub store : (c e : List Atom) → length c ≡ before.size → IsAdmitted (c ++ e) inner → (u : PointValue) → looked_up x (store_at (c ++ e) inner.store) ≡ Some u → AreSameNamed (store_at (c ++ e) inner.store) (stored x u (store_at c before.store))
  pub lines : (c e : List Atom) → length c ≡ before.size → IsAdmitted (c ++ e) inner → AreSameNamed (line_values (c ++ e) inner.lines) (line_values c before.lines)

-- Inside there are no fewer levels, the name stands behind those from outside, and it holds a value.
pub record IsLoopContext (before : Context) (x : List ℕ) (inner : Context) : Type 0 where
  pub longer : before.size ≤ inner.size
  pub names : map slot_name inner.store ≡ map slot_name before.store ++ x ∷ []
  pub held : (c : List Atom) → (u : PointValue) × (looked_up x (store_at c inner.store) ≡ Some u)

-- The contexts inside of a loop over the set t, in which x names its members: one for each comprehension that has some. Together
-- they stand for exactly the members.
pub record AreEntered (before : Context) (x : List ℕ) (t : TermD) (inner : List Context) : Type 0 where
  pub entries : AreMemberContexts before x (comps_listed t) inner
  pub members : (c : List Atom) → IsAdmitted c before → (u : PointValue) → IsMember u (point t c) ↔ IsHeldInside inner x c u
  pub inside : All (IsLoopContext before x) inner
  pub outside : All (ExtendsContext before x) inner
  pub operators : (ordered : Bool) → AdmitsContext ordered before → AdmitsTerm ordered t → All (AdmitsContext ordered) inner
  pub widths : ContextHasBoundedWidths before → HasBoundedWidths t → All ContextHasBoundedWidths inner
