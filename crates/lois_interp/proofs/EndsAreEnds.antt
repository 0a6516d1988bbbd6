-- What the body of a loop comes to can be joined.
use Rattle.std.proofs.Common.{◌≡◌, ℕ, ◌-◌, ◌≤◌, List, [], ◌∷◌, ◌++◌, length, take, drop, map, sym, ap, ◌∙◌, subst}
use Rattle.std.proofs.lemmas.List.{length-map, take-append-drop}
use Rattle.std.proofs.Math.Seq.{take-append_seam}
use Rattle.std.specs.List.{Contains}
use Rattle.std.proofs.lemmas.List.Elements.{Contains-append_left, Contains-append_right, Contains-push}
use Rattle.lois_base.specs.Atom.{Atom}
use Rattle.lois_base.specs.Data.{TermD, var, tag, tup, coll, CompsD, comps_of}
use Rattle.lois_base.specs.Shift.{shift_comp}
use Rattle.lois_context.specs.Choices.{IsAdmitted}
use Rattle.lois_context.specs.Entered.{items_listed}
use Rattle.lois_context.specs.Joined.{IsGoneOn, AreEndSlots, IsEnd}
use Rattle.lois_context.specs.Slots.{SlotD, slot_name}
use Rattle.lois_context.specs.ItemCounts.{comps_in, count_of_items}
use Rattle.lois_context.specs.declared.contexts.Context.{Context}
use Rattle.lois_context.proofs.Carried.{count_of}
use Rattle.lois_context.proofs.Entered.{listed_of}
use Rattle.lois_context.proofs.Joined.{of_listed}
use Rattle.lois_interp.specs.Reached.{IsReachedContext}
use Rattle.lois_interp.specs.Slots.{IsKeptTerm, IsKeptSlot, AreKept}
use Rattle.lois_meaning.specs.Runs.{Ending}

-- no name of these slots is assigned
abbrev pub NoneAssigned : (List ℕ → Type 0) → List SlotD → Type 0
NoneAssigned Assigned [] = Unit {0}
NoneAssigned Assigned (s ∷ ss) = (Assigned s.name → ⊥) × NoneAssigned Assigned ss

kept_set : (from : ℕ) (t u : TermD) (ks : CompsD) → t ≡ coll ks → IsKeptTerm from t u → (ls : CompsD) × (u ≡ coll ls) × (take from (items_listed ls) ≡ take from (items_listed ks))
kept_set from t u ks e h = subst (λ z. IsKeptTerm from z u) e h

take_all : {X : Type 0} (xs ys : List X) (n : ℕ) → n ≡ length xs → take n (xs ++ ys) ≡ xs
take_all xs ys n e = subst (λ k. take k (xs ++ ys) ≡ xs) (sym e) (take-append_seam xs ys)

gone_further : (n by from : ℕ) (s t u : TermD) → from ≡ comps_in s → IsGoneOn n by s t → IsKeptTerm from t u → IsGoneOn n by s u
gone_further n by from (coll ks) t u e (added, is) kept =
    let old = map (shift_comp n by) (items_listed ks) in
    let now = kept_set from t u (comps_of (old ++ added)) is kept in
    let count : from ≡ length old = e ∙ (ap count_of_items (sym (of_listed ks)) ∙ (count_of (items_listed ks) ∙ sym (length-map (items_listed ks) (shift_comp n by)))) in
    let first : take from (items_listed now.0) ≡ old = now.2 ∙ (ap (take from) (listed_of (old ++ added)) ∙ take_all old added from count) in
    let all : items_listed now.0 ≡ old ++ drop from (items_listed now.0) = sym (take-append-drop from (items_listed now.0)) ∙ ap (λ z. z ++ drop from (items_listed now.0)) first in
    (drop from (items_listed now.0), now.1 ∙ ap coll (sym (of_listed now.0) ∙ ap comps_of all))
gone_further n by from (var i) t u e is kept = subst (λ z. IsKeptTerm from z u) is kept
gone_further n by from (tag x) t u e is kept = subst (λ z. IsKeptTerm from z u) is kept
gone_further n by from (tup ts) t u e is kept = subst (λ z. IsKeptTerm from z u) is kept

ends_further : (n by : ℕ) (Assigned : List ℕ → Type 0) (P : List Atom → Type 0) (ss es gs : List SlotD) → NoneAssigned Assigned ss → AreEndSlots n by ss es → AreKept Assigned P es gs → AreEndSlots n by ss gs
ends_further n by Assigned P [] es gs none h k = tt
ends_further n by Assigned P (s ∷ ss) [] gs none h k = absurd h
ends_further n by Assigned P (s ∷ ss) (e ∷ es) [] none h k = absurd k
ends_further n by Assigned P (s ∷ ss) (e ∷ es) (g ∷ gs) none h k =
    let kept : IsKeptSlot P e g = k.1 (λ bad. none.0 (subst Assigned h.0.name bad)) in (
      record {
        name = k.0 ∙ h.0.name;
        term = gone_further n by e.from s.term e.term g.term h.0.from h.0.term kept.term;
        from = kept.from ∙ h.0.from;
      },
      ends_further n by Assigned P ss es gs none.1 h.1 k.2,
    )

pub none_assigned : (Assigned : List ℕ → Type 0) (ss : List SlotD) → ((y : List ℕ) → Contains (map slot_name ss) y → Assigned y → ⊥) → NoneAssigned Assigned ss
none_assigned Assigned [] f = tt
none_assigned Assigned (s ∷ ss) f = (
  f s.name (Contains-append_left (s.name ∷ []) (map slot_name ss) s.name (Contains-push [] s.name)),
  none_assigned Assigned ss (λ y h. f y (Contains-append_right (s.name ∷ []) (map slot_name ss) y h)),
)

-- a run that assigns none of the outer names leads from an end of a loop's body to an end
pub end_further : (ends : Ending) (Assigned : List ℕ → Type 0) (before d f : Context) → NoneAssigned Assigned before.store → IsEnd before d → IsReachedContext ends Assigned d f → IsEnd before f
end_further ends Assigned before d f none end reached = record {
  size = subst (λ z. before.size ≤ z) (sym reached.size) end.size;
  outside = λ c e l adm. end.outside c e l (reached.within (c ++ e) adm);
  slots = subst (λ z. AreEndSlots before.size (z - before.size) before.store f.store) (sym reached.size)
      (ends_further before.size (d.size - before.size) Assigned (λ c. IsAdmitted c f) before.store d.store f.store none end.slots reached.slots);
}
