-- What a store is behind a loop: its sets have in addition what was added for each member.
use Rattle.std.specs.Prelude.{◌≡◌, ℕ, ◌+◌, ◌-◌, ◌≤◌, ◌⊎◌, ◌↔◌, Bool, ◌&&◌, List, [], ◌∷◌, ◌++◌, length, map, drop}
use Rattle.std.specs.declared.option.Option.TheVariants.{Some}
use Rattle.std.specs.List.{All, Contains}
use Rattle.lois_base.specs.Atom.{Atom}
use Rattle.lois_base.specs.Data.{TermD, coll, CompD, comps_of, depth}
use Rattle.lois_base.specs.Fits.{Fits, ItemsFit}
use Rattle.lois_base.specs.Shift.{shift, shift_comp}
use Rattle.lois_base.specs.Truth.{holds}
use Rattle.lois_base.specs.Validity.{AdmitsConstraint}
use Rattle.lois_base.specs.Values.{PointValue, IsIn}
use Rattle.lois_base.specs.declared.guards.Lit.{Lit}
use Rattle.lois_meaning.specs.Store.{looked_up}
use Rattle.lois_context.specs.Choices.{IsAdmitted}
use Rattle.lois_context.specs.Entered.{binders_of, guard_of, item_of, items_listed, comps_listed}
use Rattle.lois_context.specs.Slots.{SlotD, store_at}
use Rattle.lois_context.specs.ItemCounts.{comps_in}
use Rattle.lois_context.specs.declared.contexts.Context.{Context}

-- ---- what the end of a run of the body is

-- a term among `by` more levels after the first n; a set may have got further comprehensions at its end
abbrev pub IsGoneOn : ℕ → ℕ → TermD → TermD → Type 0
IsGoneOn n by (coll ks) t =
    (added : List CompD) × (t ≡ coll (comps_of (map (shift_comp n by) (items_listed ks) ++ added)))
IsGoneOn n by s t = t ≡ shift n by s

-- the slot of an end for a slot from before the loop
pub record IsEndSlot (n by : ℕ) (s e : SlotD) : Type 0 where
  pub name : e.name ≡ s.name
  pub term : IsGoneOn n by s.term e.term
  pub from : e.from ≡ comps_in s.term

-- the slots from before the loop come first, in order
abbrev pub AreEndSlots : ℕ → ℕ → List SlotD → List SlotD → Type 0
AreEndSlots n by [] es = Unit {0}
AreEndSlots n by (s ∷ ss) [] = ⊥
AreEndSlots n by (s ∷ ss) (e ∷ es) = IsEndSlot n by s e × AreEndSlots n by ss es

pub record IsEnd (before end : Context) : Type 0 where
  pub size : before.size ≤ end.size
  pub outside : (c e : List Atom) → length c ≡ before.size → IsAdmitted (c ++ e) end → IsAdmitted c before
  pub slots : AreEndSlots before.size (end.size - before.size) before.store end.store

-- ---- what is joined

-- a comprehension with the `by` new levels of an end as further binders, where the end's constraint g holds too
pub record IsMovedOutOfLoop (g : List (List Lit)) (by : ℕ) (k r : CompD) : Type 0 where
  pub binders : binders_of r ≡ by + binders_of k
  pub guard : (c : List Atom) → holds c (guard_of r) ≡ (holds c g && holds c (guard_of k))
  pub item : item_of r ≡ item_of k
  pub operators : (ordered : Bool) → AdmitsConstraint ordered g → AdmitsConstraint ordered (guard_of k) → AdmitsConstraint ordered (guard_of r)

abbrev pub AreMovedOutOfLoop : List (List Lit) → ℕ → List CompD → List CompD → Type 0
AreMovedOutOfLoop g by [] [] = Unit {0}
AreMovedOutOfLoop g by (k ∷ ks) (r ∷ rs) = IsMovedOutOfLoop g by k r × AreMovedOutOfLoop g by ks rs
AreMovedOutOfLoop g by _ _ = ⊥

-- the comprehensions with those that an end has added behind them, which fit n levels
pub record IsWithMoved (n : ℕ) (g : List (List Lit)) (by : ℕ) (added ks rs : List CompD) : Type 0 where
  pub behind : List CompD
  pub moved : AreMovedOutOfLoop g by added behind
  pub comps : rs ≡ ks ++ behind
  pub levels : ItemsFit n (comps_of behind)

-- what the slot of an end has got since the loop was entered
abbrev pub added_to : SlotD → List CompD
added_to e = drop e.from (comps_listed e.term)

-- a term after one end more: a set has exactly one comprehension more for each of those that were added
abbrev pub IsJoinedTerm : List (List Lit) → ℕ → List CompD → TermD → TermD → Type 0
IsJoinedTerm g by added (coll ks) t =
    (moved : List CompD) × AreMovedOutOfLoop g by added moved × (t ≡ coll (comps_of (items_listed ks ++ moved)))
IsJoinedTerm g by added s t = t ≡ s

-- and it fits n levels, with no fewer comprehensions
pub record IsGrownTerm (n : ℕ) (g : List (List Lit)) (by : ℕ) (added : List CompD) (s t : TermD) : Type 0 where
  pub joined : IsJoinedTerm g by added s t
  pub levels : Fits n t
  pub more : comps_in s ≤ comps_in t

pub record IsJoinedSlot (g : List (List Lit)) (by : ℕ) (e s r : SlotD) : Type 0 where
  pub name : r.name ≡ s.name
  pub from : r.from ≡ s.from
  pub term : IsJoinedTerm g by (added_to e) s.term r.term

abbrev pub AreJoinedSlots : List (List Lit) → ℕ → List SlotD → List SlotD → List SlotD → Type 0
AreJoinedSlots g by es [] [] = Unit {0}
AreJoinedSlots g by (e ∷ es) (s ∷ ss) (r ∷ rs) = IsJoinedSlot g by e s r × AreJoinedSlots g by es ss rs
AreJoinedSlots g by _ _ _ = ⊥

-- one end after another
abbrev pub AreJoined : ℕ → List Context → List SlotD → List SlotD → Type 0
AreJoined n [] ss rs = rs ≡ ss
AreJoined n (d ∷ ds) ss rs =
    (ts : List SlotD) × AreJoinedSlots d.«when» (d.size - n) d.store ss ts × AreJoined n ds ts rs

-- w is in what x holds at some end that goes on from c
abbrev pub IsAddedInside : List Context → List ℕ → List Atom → PointValue → Type 0
IsAddedInside ends x c w =
    (d : Context) × Contains ends d × (e : List Atom) × IsAdmitted (c ++ e) d × (u : PointValue) × (looked_up x (store_at (c ++ e) d.store) ≡ Some u) × IsIn w u

-- Behind the loop x holds a value with exactly the members that it had and those that it has at the ends.
pub record HasJoined (ends : List Context) (x : List ℕ) (c : List Atom) (v : PointValue) (store : List SlotD) : Type 0 where
  pub value : PointValue
  pub held : looked_up x (store_at c store) ≡ Some value
  pub members : (w : PointValue) → IsIn w value ↔ (IsIn w v ⊎ IsAddedInside ends x c w)

-- no slot of this name holds a term that is written more than n deep
abbrev pub HoldsWithin : List ℕ → ℕ → List SlotD → Type 0
HoldsWithin x n slots = All (λ s. s.name ≡ x → depth s.term ≤ n) slots
