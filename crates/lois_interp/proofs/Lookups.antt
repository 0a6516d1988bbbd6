-- What is found under a name, and the loop that looks for it.
use Rattle.std.proofs.Common.{◌≡◌, ℕ, zero, suc, Bool, true, false, List, [], ◌∷◌, ◌++◌, length, take, map, Some, refl, sym, ap, ◌∙◌, if◌then◌else◌, bytes_eq, ◌+◌, ◌<◌, ◌≤◌, get_or, drop, None, subst, arith, add-one}
use Rattle.std.proofs.lemmas.Slice.Eq.{bytes_eq-Decides}
use Rattle.lois_base.specs.Values.{PointValue, point}
use Rattle.lois_meaning.specs.Store.{named, NamedValues, looked_up, stored}
use Rattle.lois_meaning.specs.ProperStores.{name_of}
use Rattle.lois_base.specs.Atom.{Atom}
use Rattle.lois_base.specs.Data.{TermD}
use Rattle.lois_base.specs.Tree.{tree}
use Rattle.lois_base.proofs.Viewed.{contains_item}
use Rattle.lois_context.specs.Slots.{SlotD, store_at}
use Rattle.lois_context.specs.SlotView.{slot_of}
use Rattle.lois_context.specs.declared.slots.Slot.{Slot}
use Rattle.lois_interp.specs.Looped.{Holds}

-- what the first part of a store holds, the whole holds
pub looked_up_take : (y : List ℕ) (k : ℕ) (s : NamedValues) (v : PointValue) → looked_up y (take k s) ≡ Some v → looked_up y s ≡ Some v
looked_up_take y zero s v h = absurd (cc)
looked_up_take y (suc k) [] v h = absurd (cc)
looked_up_take y (suc k) (b ∷ s) v h = go (bytes_eq b.name y) (looked_up_take y k s v) h
  where
    go : (p : Bool) → (looked_up y (take k s) ≡ Some v → looked_up y s ≡ Some v) → (if p then Some b.holds else looked_up y (take k s)) ≡ Some v → (if p then Some b.holds else looked_up y s) ≡ Some v
    go true later e = e
    go false later e = later e

-- and what the whole holds under a name of the first part, the first part holds
pub looked_up_front : (y : List ℕ) (a full : NamedValues) (made : List (List ℕ)) (v w : PointValue) → map name_of full ≡ map name_of a ++ made → looked_up y a ≡ Some w → looked_up y full ≡ Some v → looked_up y (take (length a) full) ≡ Some v
looked_up_front y [] full made v w names here h = absurd (cc)
looked_up_front y (b ∷ a) [] made v w names here h = absurd (cc)
looked_up_front y (b ∷ a) (f ∷ full) made v w names here h =
    let same : f.name ≡ b.name = cc in
    let later : map name_of full ≡ map name_of a ++ made = cc in
    go (bytes_eq f.name y) (bytes_eq b.name y) (ap (λ n. bytes_eq n y) same) (λ k l. looked_up_front y a full made v w later k l) here h
  where
    go : (p q : Bool) → p ≡ q → (looked_up y a ≡ Some w → looked_up y full ≡ Some v → looked_up y (take (length a) full) ≡ Some v) →
        (if q then Some b.holds else looked_up y a) ≡ Some w → (if p then Some f.holds else looked_up y full) ≡ Some v → (if p then Some f.holds else looked_up y (take (length a) full)) ≡ Some v
    go true q e later here h = h
    go false true e later here h = absurd (cc)
    go false false e later here h = later here h

-- a name that is held is held still where a value is stored
pub held_still : (y x : List ℕ) (m : PointValue) (s : NamedValues) (v : PointValue) → looked_up y s ≡ Some v → (w : PointValue) × (looked_up y (stored x m s) ≡ Some w)
held_still y x m [] v h = absurd (cc)
held_still y x m (b ∷ s) v h = go (bytes_eq b.name x) refl (bytes_eq b.name y) refl (held_still y x m s v) h
  where
    here : (p : Bool) → looked_up y s ≡ Some v → (w : PointValue) × ((if p then Some m else looked_up y s) ≡ Some w)
    here true k = (m, refl)
    here false k = (v, k)

    named_so : (q : Bool) → bytes_eq b.name x ≡ true → bytes_eq b.name y ≡ q → (if q then Some b.holds else looked_up y s) ≡ Some v → (w : PointValue) × ((if (bytes_eq x y) then Some m else looked_up y s) ≡ Some w)
    named_so true is e k =
        let one : b.name ≡ x = (bytes_eq-Decides b.name x).0 is in
        let at : bytes_eq x y ≡ true = ap (λ z. bytes_eq z y) (sym one) ∙ e in
        (m, ap (λ p. if p then Some m else looked_up y s) at)
    named_so false is e k = here (bytes_eq x y) k

    other : (q : Bool) → (looked_up y s ≡ Some v → (w : PointValue) × (looked_up y (stored x m s) ≡ Some w)) → (if q then Some b.holds else looked_up y s) ≡ Some v → (w : PointValue) × ((if q then Some b.holds else looked_up y (stored x m s)) ≡ Some w)
    other true later k = (b.holds, refl)
    other false later k = later k

    go : (p : Bool) → bytes_eq b.name x ≡ p → (q : Bool) → bytes_eq b.name y ≡ q → (looked_up y s ≡ Some v → (w : PointValue) × (looked_up y (stored x m s) ≡ Some w)) → (if q then Some b.holds else looked_up y s) ≡ Some v →
        (w : PointValue) × (looked_up y (if p then named x m ∷ s else (b ∷ stored x m s)) ≡ Some w)
    go true is q e later k = named_so q is e k
    go false is q e later k =
        let r = other q later k in (r.0, ap (λ z. if z then Some b.holds else looked_up y (stored x m s)) e ∙ r.1)

module _ (x : List ℕ) (y : List Atom) where
  here : (items : List Slot) (i : ℕ) (s : Slot) → i < length items → s ≡ get_or items i s → bytes_eq s.name x ≡ true → looked_up x (store_at y (map slot_of (drop i items))) ≡ Some (point (tree s.term) y)
  here [] i s l e h = absurd (omega arith)
  here (q ∷ items) zero s l e h =
      ap (λ p. if p then Some (point (tree q.term) y) else looked_up x (store_at y (map slot_of items))) (ap (λ (z : Slot). bytes_eq z.name x) (sym e) ∙ h) ∙ ap (λ (z : Slot). Some (point (tree z.term) y)) (sym e)
  here (q ∷ items) (suc i) s l e h = here items i s (omega arith) e h

  next : (items : List Slot) (i : ℕ) (s : Slot) → i < length items → s ≡ get_or items i s → bytes_eq s.name x ≡ false → looked_up x (store_at y (map slot_of (drop i items))) ≡ looked_up x (store_at y (map slot_of (drop (suc i) items)))
  next [] i s l e h = absurd (omega arith)
  next (q ∷ items) zero s l e h =
      ap (λ p. if p then Some (point (tree q.term) y) else looked_up x (store_at y (map slot_of items))) (ap (λ (z : Slot). bytes_eq z.name x) (sym e) ∙ h)
  next (q ∷ items) (suc i) s l e h = next items i s (omega arith) e h

  over : (items : List Slot) (i : ℕ) → length items ≤ i → looked_up x (store_at y (map slot_of (drop i items))) ≡ None
  over [] zero l = refl
  over [] (suc i) l = refl
  over (q ∷ items) zero l = absurd (omega arith)
  over (q ∷ items) (suc i) l = over items i (omega arith)

-- the loop that looks for a name
abbrev pub StillLooks : List ℕ → List SlotD → List Slot → ℕ → Type 0
StillLooks x store items i = (y : List Atom) → looked_up x (store_at y (map slot_of (drop i items))) ≡ looked_up x (store_at y store)

pub found_holds : (x : List ℕ) (store : List SlotD) (items : List Slot) (i : ℕ) (s : Slot) → map slot_of items ≡ store → i < length items → s ≡ get_or items i s → bytes_eq s.name x ≡ true → StillLooks x store items i → Holds x store (tree s.term)
found_holds x store items i s e l is same looks = record {
  value = λ y. sym (looks y) ∙ here x y items i s l is same;
  slot = (slot_of s, contains_item slot_of items store i s e l is, refl);
}

pub looks_on : (x : List ℕ) (store : List SlotD) (items : List Slot) (i : ℕ) (s : Slot) → i < length items → s ≡ get_or items i s → bytes_eq s.name x ≡ false → StillLooks x store items i → StillLooks x store items (i + 1)
looks_on x store items i s l is other looks y =
    subst (λ n. looked_up x (store_at y (map slot_of (drop n items))) ≡ looked_up x (store_at y store)) (sym (add-one i)) (sym (next x y items i s l is other) ∙ looks y)

pub not_missed : (x : List ℕ) (store : List SlotD) (items : List Slot) (i : ℕ) (t : TermD) → length items ≤ i → StillLooks x store items i → Holds x store t → ⊥
not_missed x store items i t l looks h =
    let none : looked_up x (store_at [] store) ≡ None = sym (looks []) ∙ over x [] items i l in
    let some = h.value [] in
    cc
