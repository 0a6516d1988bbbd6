-- The set that a slot holds, with a member more.
use Rattle.std.proofs.Common.{◌≡◌, ℕ, zero, suc, refl, set, ◌+◌, ◌<◌, ◌≤◌, ◌^◌, Bool, List, [], ◌∷◌, ◌++◌, length, length-append, get_or, map, sym, ap, ◌∙◌, subst, arith}
use Rattle.std.specs.Bool.{IsTrue}
use Rattle.std.specs.List.{HoldsAt}
use Rattle.std.proofs.lemmas.List.Elements.{All-cons, All-nil}
use Rattle.lois_base.specs.Atom.{Atom}
use Rattle.lois_base.specs.Data.{TermD, coll, CompsD}
use Rattle.lois_base.specs.Fits.{LitFits, CubeFits, CompFits, Fits, ItemsFit}
use Rattle.lois_base.specs.Validity.{AdmitsLit, AdmitsCube, AdmitsTerm, AdmitsItems, HasBoundedWidths, ItemsHaveBoundedWidths}
use Rattle.lois_base.specs.Truth.{holds, sampled}
use Rattle.lois_base.specs.Values.{point}
use Rattle.lois_base.proofs.Lists.{items_fit_append}
use Rattle.lois_algebra.proofs.Among.{admits_items-append, widths-append}
use Rattle.lois_meaning.specs.Runs.{IsSetWith}
use Rattle.lois_meaning.specs.declared.faults.Fault.{Fault}
use Rattle.lois_terms.specs.Collections.{IsColl}
use Rattle.lois_context.specs.Choices.{IsAdmitted, AdmitsContext, ContextHasBoundedWidths}
use Rattle.lois_context.specs.Entered.{items_listed}
use Rattle.lois_context.specs.Kept.{IsSlot}
use Rattle.lois_context.specs.Slots.{SlotD}
use Rattle.lois_context.specs.ItemCounts.{comps_in, count_of_items}
use Rattle.lois_context.specs.declared.contexts.Context.{Context}
use Rattle.lois_context.proofs.Carried.{count_of}
use Rattle.lois_context.proofs.Joined.{of_listed}
use Rattle.lois_eval.specs.Checks.{IsDepthFault}
use Rattle.lois_eval.specs.Made.{bare, IsHeldBy}
use Rattle.lois_eval.proofs.Names.{held_at}
use Rattle.lois_interp.specs.Members.{IsWithItem}
use Rattle.lois_interp.proofs.PutOnce.{with_fits, with_admits, with_widths, with_count, set_with}

-- ---- the slot with the name
module _ (k : Context) (x : List ℕ) (i : ℕ) (slot : SlotD) (found : (i < length k.store) × HoldsAt (λ s. s.name ≡ x) k.store i) (there : slot ≡ get_or k.store i slot) where
  pub slot_held : IsHeldBy x k.store slot.term
  slot_held = subst (λ (s : SlotD). IsHeldBy x k.store s.term) (sym there) (held_at x k.store i slot k.names found.0 (found.1 slot))

  old_slot : IsSlot k.size slot
  old_slot = subst (IsSlot k.size) (sym there) (k.slots i slot found.0)

  module _ (item set : TermD) (more : IsColl slot.term × IsWithItem slot.term item set) where
    pub set_fits : k.size < 2 ^ 64 → Fits k.size item → Fits k.size set
    set_fits room h = with_fits slot.term item set more.0.0 more.0.1 more.1 k.size room old_slot.0 h

    pub set_from : slot.from ≤ comps_in set
    set_from = omega (arith, old_slot.1, with_count slot.term item set more.0.0 more.0.1 more.1)

    pub set_admits : (o : Bool) → AdmitsContext o k → AdmitsTerm o item → AdmitsTerm o set
    set_admits o old h = with_admits slot.term item set more.0.0 more.0.1 more.1 o (subst (λ (s : SlotD). AdmitsTerm o s.term) (sym there) (old.store i slot found.0)) h

    pub set_widths : ContextHasBoundedWidths k → HasBoundedWidths item → HasBoundedWidths set
    set_widths old h = with_widths slot.term item set more.0.0 more.0.1 more.1 (subst (λ (s : SlotD). HasBoundedWidths s.term) (sym there) (old.store i slot found.0)) h

    pub set_joined : (a : List Atom) → IsSetWith (point set a) (point slot.term a) (point item a)
    set_joined a = set_with slot.term item set more.0.0 more.0.1 more.1 a

-- ---- the context without what the slot held
module _ (k d : Context) (size : d.size ≡ k.size) (when_is : d.«when» ≡ k.«when») where
  pub admitted_there : (a : List Atom) → IsAdmitted a k → IsAdmitted a d
  admitted_there a adm = (adm.0 ∙ sym size, subst (λ g. IsTrue (holds a g)) (sym when_is) adm.1)

  pub depth_fault_there : (ordered : Bool) (t : TermD) (p : ℕ) (f : Fault) → IsDepthFault ordered d t p f → IsDepthFault ordered k t p f
  depth_fault_there ordered t p f h =
      record { fault = record { admitted = (h.fault.admitted.0 ∙ size, subst (λ g. IsTrue (holds (sampled f.sample.items) g)) when_is h.fault.admitted.1); place = h.fault.place; elements = h.fault.elements }; kind = h.kind; deep = h.deep }

pub set_twice : (ss : List SlotD) (i : ℕ) (a b : SlotD) → set (set ss i a) i b ≡ set ss i b
set_twice [] i a b = refl
set_twice (q ∷ ss) zero a b = refl
set_twice (q ∷ ss) (suc i) a b = ap (λ z. q ∷ z) (set_twice ss i a b)

pub set_length : (ss : List SlotD) (i : ℕ) (a : SlotD) → length (set ss i a) ≡ length ss
set_length [] i a = refl
set_length (q ∷ ss) zero a = refl
set_length (q ∷ ss) (suc i) a = ap suc (set_length ss i a)
