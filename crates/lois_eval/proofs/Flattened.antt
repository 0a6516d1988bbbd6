-- The comprehensions of a set whose items are sets, one after another; and a member that is no set.
use Rattle.std.proofs.Common.{◌≡◌, ℕ, zero, suc, ◌+◌, ◌<◌, Bool, inl, inr, List, [], ◌∷◌, ◌++◌, length, get_or, take, drop, map, refl, sym, ap, subst, ◌∙◌, arith}
use Rattle.std.proofs.lemmas.List.{length-map}
use Rattle.std.specs.Bool.{IsTrue}
use Rattle.lois_base.specs.Atom.{Atom, whole}
use Rattle.std.proofs.Common.{length-append}
use Rattle.lois_base.specs.Data.{TermD, coll, CompD, comp, no_comps, comps_of}
use Rattle.lois_base.specs.Fits.{CompFits, ConstraintFits}
use Rattle.lois_base.specs.Patterns.{AreAlike}
use Rattle.lois_base.specs.Tree.{comp_of}
use Rattle.lois_base.specs.Truth.{holds, sampled}
use Rattle.lois_base.specs.declared.values.Comp.{Comp}
use Rattle.lois_base.proofs.Viewed.{item_at}
use Rattle.lois_base.specs.Validity.{AdmitsComp, AdmitsItems, CompHasBoundedWidths, ItemsHaveBoundedWidths}
use Rattle.lois_base.specs.Values.{PointValue, point, MemberAt}
use Rattle.lois_base.proofs.Lists.{items_fit_append}
use Rattle.lois_base.proofs.Truths.{holds_alike}
use Rattle.lois_algebra.specs.Sets.{ItemsAreSets}
use Rattle.lois_algebra.proofs.GatheredMembers.{set_items}
use Rattle.lois_algebra.proofs.Among.{admits_items-append, widths-append}
use Rattle.lois_context.specs.Choices.{IsAdmitted}
use Rattle.lois_context.specs.Entered.{HasNoMembers, binders_of, item_of, guard_of}
use Rattle.lois_context.specs.declared.contexts.Context.{Context}
use Rattle.lois_context.proofs.Longer.{holds_at_start}
use Rattle.lois_terms.specs.Collections.{IsColl as IsSetTerm}
use Rattle.lois_answers.specs.declared.faults.FaultKind.TheVariants.{NotASet}
use Rattle.lois_meaning.specs.declared.faults.Fault.{Fault}
use Rattle.lois_script.specs.declared.syntax.Pos.{Pos}
use Rattle.lois_eval.specs.Checks.{IsFaultWith, MeetsBoth}
use Rattle.lois_eval.specs.Operands.{HasSetsOf, IsKeptIfSet, IsMemberFault}
use Rattle.lois_eval.proofs.TermKinds.{no_set_at}
use Rattle.lois_eval.proofs.FaultsAt.{fault_at, sampled_parts, sampled_start, alike_longer}
use Rattle.lois_eval.proofs.Outward.{member_append}

abbrev set_of : List CompD → TermD
set_of ks = coll (comps_of ks)

are_sets-more : (ks : List CompD) (k : CompD) → ItemsAreSets (comps_of ks) → IsSetTerm (item_of k) → ItemsAreSets (comps_of (ks ++ k ∷ []))
are_sets-more [] (comp b g t) h s = (s, tt)
are_sets-more (comp m f u ∷ ks) k h s = (h.0, are_sets-more ks k h.1 s)

admits-split : (o : Bool) (ks : List CompD) (k : CompD) → AdmitsItems o (comps_of (ks ++ k ∷ [])) → AdmitsItems o (comps_of ks) × AdmitsComp o k
admits-split o [] k h = (tt, h.0)
admits-split o (l ∷ ks) k h = let r = admits-split o ks k h.1 in ((h.0, r.0), r.1)

widths-split : (ks : List CompD) (k : CompD) → ItemsHaveBoundedWidths (comps_of (ks ++ k ∷ [])) → ItemsHaveBoundedWidths (comps_of ks) × CompHasBoundedWidths k
widths-split [] k h = (tt, h.0)
widths-split (l ∷ ks) k h = let r = widths-split ks k h.1 in ((h.0, r.0), r.1)

module _ (k : Context) where
  pub sets_none : HasSetsOf k (set_of []) (set_of [])
  sets_none = record {
    sets = (no_comps, refl, tt);
    members = λ c a u. (λ h. h, λ h. h);
    levels = tt;
    operators = λ o h. h;
    widths = λ h. h;
  }

  -- one comprehension more, whose item is a set
  sets_kept : (ks so_far after : List CompD) (l : CompD) → HasSetsOf k (set_of ks) (set_of so_far) → IsSetTerm (item_of l) → CompFits k.size l → after ≡ so_far ++ l ∷ [] → HasSetsOf k (set_of (ks ++ l ∷ [])) (set_of after)
  sets_kept ks so_far after l h s fits is = subst (λ z. HasSetsOf k (set_of (ks ++ l ∷ [])) (set_of z)) (sym is) (record {
    sets = (comps_of (so_far ++ l ∷ []), refl, are_sets-more so_far l (set_items (set_of so_far) (comps_of so_far) refl h.sets) s);
    members = λ c a u. (
      λ m. (member_append 0 u.term_of u.choice c so_far (l ∷ [])).1 (elim ((member_append 0 u.term_of u.choice c ks (l ∷ [])).0 m) [ inl p ↦ inl ((h.members c a u).0 p) | inr p ↦ inr p ]),
      λ m. (member_append 0 u.term_of u.choice c ks (l ∷ [])).1 (elim ((member_append 0 u.term_of u.choice c so_far (l ∷ [])).0 m) [ inl p ↦ inl ((h.members c a u).1 p) | inr p ↦ inr p ]),
    );
    levels = items_fit_append k.size so_far (l ∷ []) h.levels (fits, tt);
    operators = λ o p. let q = admits-split o ks l p in admits_items-append o so_far (l ∷ []) (h.operators o q.0) (q.1, tt);
    widths = λ p. let q = widths-split ks l p in widths-append so_far (l ∷ []) (h.widths q.0) (q.1, tt);
  })

  -- one more, which has no members
  sets_dropped : (ks so_far : List CompD) (l : CompD) → HasSetsOf k (set_of ks) (set_of so_far) → HasNoMembers k l → HasSetsOf k (set_of (ks ++ l ∷ [])) (set_of so_far)
  sets_dropped ks so_far l h none = record {
    sets = h.sets;
    members = λ c a u. (
      λ m. elim ((member_append 0 u.term_of u.choice c ks (l ∷ [])).0 m) [ inl p ↦ (h.members c a u).0 p | inr p ↦ absurd (empty c a u l none p) ],
      λ m. (member_append 0 u.term_of u.choice c ks (l ∷ [])).1 (inl ((h.members c a u).1 m)),
    );
    levels = h.levels;
    operators = λ o p. h.operators o (admits-split o ks l p).0;
    widths = λ p. h.widths (widths-split ks l p).0;
  }
    where
      empty : (c : List Atom) → IsAdmitted c k → (u : PointValue) (l : CompD) → HasNoMembers k l → MemberAt u.term_of u.choice (comps_of (l ∷ [])) c → ⊥
      empty c a u (comp b g t) none (inl (e, is, p, q)) =
          none (c ++ e) (omega (arith, length-append c e, a.0, is.count)) (holds_at_start k.size c e k.«when» k.levels a.0 ∙ a.1) is.guard
      empty c a u (comp b g t) none (inr m) = absurd m

  pub sets_more : (ks so_far after : List CompD) (l : CompD) → HasSetsOf k (set_of ks) (set_of so_far) → CompFits k.size l → IsKeptIfSet k l so_far after → HasSetsOf k (set_of (ks ++ l ∷ [])) (set_of after)
  sets_more ks so_far after l h fits (inl (set, is)) = sets_kept ks so_far after l h set fits is
  sets_more ks so_far after l h fits (inr (none, is)) = subst (λ z. HasSetsOf k (set_of (ks ++ l ∷ [])) (set_of z)) (sym is) (sets_dropped ks so_far l h none)

  -- a member at the first numbers of a sample of the comprehension's guard
  pub member_fault : (o : Bool) (l : CompD) (pos : Pos) (s : List ℕ) (f : Fault) → (IsSetTerm (item_of l) → ⊥) → CompFits k.size l → AdmitsComp o l → MeetsBoth (k.size + binders_of l) k.«when» (guard_of l) s → IsFaultWith pos NotASet (take k.size s) f → IsMemberFault o k (set_of (l ∷ [])) pos.offset f
  member_fault o (comp b g t) pos s f none fits admits m h = record {
    fault = fault_at k pos NotASet (take k.size s) (start, short) f h;
    kind = h.kind;
    no_set = λ c stand.
        let (e, alike) = alike_longer o k.size s c (subst (λ z. AreAlike o (sampled z) c) h.sample stand) in
        let guard : IsTrue (holds (c ++ e) g) = sym (holds_alike o (sampled s) (c ++ e) alike g (subst (λ n. ConstraintFits n g) (sym (length-map s whole ∙ m.0.count)) fits.1) admits.0) ∙ m.2 in
        let count : length e ≡ b = omega (arith, length-append c e, alike.count, stand.count, ap (λ z. length (sampled z)) h.sample, start, length-map s whole, m.0.count) in
        (point t (c ++ e), inl (e, record { count = count; guard = guard }, refl, refl), no_set_at t (c ++ e) none);
  }
    where
      far : sampled (take k.size s) ++ sampled (drop k.size s) ≡ sampled s
      far = sampled_parts k.size s

      start : length (sampled (take k.size s)) ≡ k.size
      start = sampled_start k.size s (omega (arith, m.0.count))

      short : IsTrue (holds (sampled (take k.size s)) k.«when»)
      short = sym (holds_at_start k.size (sampled (take k.size s)) (sampled (drop k.size s)) k.«when» k.levels start) ∙ (ap (λ z. holds z k.«when») far ∙ m.1)

-- a member of one comprehension of the set is one of the whole set
member_of_one : (w : TermD) (x : List Atom) (c : List Atom) (ks : List CompD) (i : ℕ) (d : CompD) → i < length ks → MemberAt w x (comps_of (get_or ks i d ∷ [])) c → MemberAt w x (comps_of ks) c
member_of_one w x c [] i d l m = absurd (omega (arith, l))
member_of_one w x c (k ∷ ks) zero d l (inl m) = inl m
member_of_one w x c (k ∷ ks) zero d l (inr m) = absurd m
member_of_one w x c (k ∷ ks) (suc i) d l m = inr (member_of_one w x c ks i d (omega (arith, l)) m)

fault_of_one : (o : Bool) (k : Context) (ks : List CompD) (i : ℕ) (l : CompD) (at : ℕ) (f : Fault) → i < length ks → l ≡ get_or ks i l → IsMemberFault o k (set_of (l ∷ [])) at f → IsMemberFault o k (set_of ks) at f
fault_of_one o k ks i l at f inside is h = record {
  fault = h.fault;
  kind = h.kind;
  no_set = λ c stand. let (u, m, none) = h.no_set c stand in (u, member_of_one u.term_of u.choice c ks i l inside (subst (λ z. MemberAt u.term_of u.choice (comps_of (z ∷ [])) c) is m), none);
}

pub fault_of_comp : (o : Bool) (k : Context) (items : List Comp) (ks : List CompD) (i : ℕ) (l : Comp) (at : ℕ) (f : Fault) → map comp_of items ≡ ks → i < length items → l ≡ get_or items i l → IsMemberFault o k (set_of (comp_of l ∷ [])) at f → IsMemberFault o k (set_of ks) at f
fault_of_comp o k items ks i l at f m inside is h =
    fault_of_one o k ks i (comp_of l) at f (omega (arith, inside, length-map items comp_of, ap length m)) (item_at comp_of items ks i l m inside is) h
