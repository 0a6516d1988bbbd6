-- The store behind a loop, where what was added is simplified.
use Rattle.std.specs.Prelude.{◌≡◌, ℕ, ◌≤◌, Bool, List, [], ◌∷◌, length, map, Some, IsTrue}
use Rattle.std.specs.List.{All}
use Rattle.lois_base.specs.Atom.{Atom}
use Rattle.lois_base.specs.Data.{TermD}
use Rattle.lois_base.specs.Fits.{Fits}
use Rattle.lois_base.specs.Truth.{holds}
use Rattle.lois_base.specs.Validity.{AdmitsTerm, HasBoundedWidths}
use Rattle.lois_base.specs.Values.{PointValue, point, IsSame}
use Rattle.lois_base.specs.declared.guards.Lit.{Lit}
use Rattle.lois_meaning.specs.Store.{looked_up}
use Rattle.lois_context.specs.Choices.{IsAdmitted, AdmitsContext, ContextHasBoundedWidths}
use Rattle.lois_context.specs.Joined.{AreJoined, HasJoined}
use Rattle.lois_context.specs.Slots.{SlotD, store_at}
use Rattle.lois_context.specs.ItemCounts.{comps_in}
use Rattle.lois_context.specs.declared.contexts.Context.{Context}
use Rattle.lois_interp.specs.Slots.{IsKeptTerm}

-- A term of n levels with the value of s where g holds, and the first comprehensions of s, with no operator and no
-- width that s hasn't.
pub record IsTidied (n : ℕ) (g : List (List Lit)) (first : ℕ) (s t : TermD) : Type 0 where
  pub kept : IsKeptTerm first s t
  pub value : (c : List Atom) → length c ≡ n → IsTrue (holds c g) → IsSame (point s c) (point t c)
  pub levels : Fits n t
  pub count : first ≤ comps_in s → first ≤ comps_in t
  pub operators : (ordered : Bool) → AdmitsTerm ordered s → AdmitsTerm ordered t
  pub widths : HasBoundedWidths s → HasBoundedWidths t

pub record IsTidiedSlot (n : ℕ) (g : List (List Lit)) (first : ℕ) (s e : SlotD) : Type 0 where
  pub name : e.name ≡ s.name
  pub from : e.from ≡ s.from
  pub term : IsTidied n g first s.term e.term

abbrev pub AreTidied : ℕ → List (List Lit) → List ℕ → List SlotD → List SlotD → Type 0
AreTidied n g [] [] [] = Unit {0}
AreTidied n g (i ∷ is) (s ∷ ss) (e ∷ es) = IsTidiedSlot n g i s e × AreTidied n g is ss es
AreTidied n g _ _ _ = ⊥

abbrev pub counts_in : List SlotD → List ℕ
counts_in = map (λ s. comps_in s.term)

-- so many comprehensions of each slot's set stood there before a loop
abbrev pub AreCounted : List ℕ → List SlotD → Type 0
AreCounted [] [] = Unit {0}
AreCounted (n ∷ ns) (s ∷ ss) = (s.from ≤ n) × (n ≤ comps_in s.term) × AreCounted ns ss
AreCounted _ _ = ⊥

-- What stands behind a loop: the joined store, of which each set keeps the comprehensions from before it.
pub record IsBehindLoop (before : Context) (ends : List Context) (r : Context) : Type 0 where
  pub store : List SlotD
  pub size : r.size ≡ before.size
  pub «when» : r.«when» ≡ before.«when»
  pub lines : r.lines ≡ before.lines
  pub joined : AreJoined before.size ends before.store store
  pub members : (c : List Atom) → IsAdmitted c before → (x : List ℕ) (v : PointValue) → looked_up x (store_at c before.store) ≡ Some v → HasJoined ends x c v store
  pub tidied : AreTidied before.size before.«when» (counts_in before.store) store r.store
  pub operators : (ordered : Bool) → AdmitsContext ordered before → All (AdmitsContext ordered) ends → AdmitsContext ordered r
  pub widths : ContextHasBoundedWidths before → All ContextHasBoundedWidths ends → ContextHasBoundedWidths r
