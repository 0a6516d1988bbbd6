-- The contexts inside of a loop stand for exactly the members.
use Rattle.std.proofs.Common.{◌≡◌, ℕ, ◌+◌, inl, inr, Bool, ◌&&◌, ◌↔◌, List, [], ◌∷◌, ◌++◌, length, length-append, Some, map, refl, sym, ap, ◌∙◌, subst, arith}
use Rattle.std.proofs.lemmas.Bool.{and_parts}
use Rattle.std.proofs.lemmas.List.Elements.{All-nil, All-cons, All-head, All-tail, All-push, Contains-append_left, Contains-append_right, Contains-push}
use Rattle.std.specs.List.{All}
use Rattle.std.specs.Bool.{IsTrue}
use Rattle.lois_base.specs.Atom.{Atom}
use Rattle.lois_base.specs.Data.{TermD, coll, CompD, comp, CompsD, no_comps, more, comps_of}
use Rattle.lois_base.specs.Truth.{holds}
use Rattle.lois_base.specs.declared.guards.Lit.{Lit}
use Rattle.lois_base.specs.Validity.{AdmitsConstraint, AdmitsTerm, AdmitsComp, AdmitsItems, HasBoundedWidths, CompHasBoundedWidths, ItemsHaveBoundedWidths}
use Rattle.lois_base.specs.Values.{PointValue, point, MemberAt, MakesAt, IsMember}
use Rattle.lois_base.proofs.Booleans.{and_true}
use Rattle.lois_meaning.specs.Store.{looked_up, stored, AreSameNamed}
use Rattle.lois_context.specs.Choices.{IsAdmitted, AdmitsContext, ContextHasBoundedWidths}
use Rattle.lois_context.specs.Entered.{binders_of, guard_of, item_of, items_listed, comps_listed, carried, carried_line, element_slot, IsMemberContext, HasNoMembers, AreMemberContexts, IsHeldInside, ExtendsContext, IsLoopContext, AreEntered}
use Rattle.lois_context.specs.Slots.{IsNew, SlotD, slot_name, store_at}
use Rattle.lois_context.specs.LineValues.{line_values}
use Rattle.lois_context.specs.declared.contexts.Context.{Context}
use Rattle.lois_context.proofs.Carried.{lines_same, store_same, carried_new, held_last, carried_admits, carried_widths, lines_admit, lines_widths}
use Rattle.lois_context.proofs.Longer.{holds_at_start}
use Rattle.lois_context.proofs.Later.{first_or_later}

pub listed_of : (ks : List CompD) → items_listed (comps_of ks) ≡ ks
listed_of [] = refl
listed_of (k ∷ ks) = ap (λ z. k ∷ z) (listed_of ks)

pub listed_coll : (t : TermD) (ks : List CompD) → t ≡ coll (comps_of ks) → comps_listed t ≡ ks
listed_coll t ks e = ap comps_listed e ∙ listed_of ks

-- what is true of all comprehensions of a set
items_all : (Q : CompD → Type 0) (Each : CompsD → Type 0) → ((k : CompD) (ks : CompsD) → Each (more k ks) → Q k × Each ks) → (ks : List CompD) → Each (comps_of ks) → All Q ks
items_all Q Each split [] h = All-nil Q
items_all Q Each split (k ∷ ks) h =
    let p = split k (comps_of ks) h in All-cons Q k ks p.0 (items_all Q Each split ks p.1)

-- ---- one comprehension after another
module _ (before : Context) (x : List ℕ) where
  pub entries_skip : (ks : List CompD) (ds : List Context) (k : CompD) → AreMemberContexts before x ks ds → HasNoMembers before k → AreMemberContexts before x (ks ++ k ∷ []) ds
  entries_skip [] [] k h n = (n, tt)
  entries_skip [] (d ∷ ds) k h n = absurd h
  entries_skip (q ∷ ks) [] k h n = (h.0, entries_skip ks [] k h.1 n)
  entries_skip (q ∷ ks) (d ∷ ds) k (inl h) n = inl (h.0, entries_skip ks (d ∷ ds) k h.1 n)
  entries_skip (q ∷ ks) (d ∷ ds) k (inr h) n = inr (h.0, entries_skip ks ds k h.1 n)

  pub entries_put : (ks : List CompD) (ds : List Context) (k : CompD) (d : Context) → AreMemberContexts before x ks ds → IsMemberContext before x k d → AreMemberContexts before x (ks ++ k ∷ []) (ds ++ d ∷ [])
  entries_put [] [] k d h e = inr (e, tt)
  entries_put [] (b ∷ ds) k d h e = absurd h
  entries_put (q ∷ ks) [] k d h e = inl (h.0, entries_put ks [] k d h.1 e)
  entries_put (q ∷ ks) (b ∷ ds) k d (inl h) e = inl (h.0, entries_put ks (b ∷ ds) k d h.1 e)
  entries_put (q ∷ ks) (b ∷ ds) k d (inr h) e = inr (h.0, entries_put ks ds k d h.1 e)

  -- what each entry has
  pub all_entries : (Q : CompD → Type 0) (P : Context → Type 0) → ((k : CompD) (d : Context) → Q k → IsMemberContext before x k d → P d) → (ks : List CompD) (ds : List Context) → All Q ks → AreMemberContexts before x ks ds → All P ds
  all_entries Q P f [] [] q h = All-nil P
  all_entries Q P f [] (d ∷ ds) q h = absurd h
  all_entries Q P f (k ∷ ks) [] q h = All-nil P
  all_entries Q P f (k ∷ ks) (d ∷ ds) q (inl h) = all_entries Q P f ks (d ∷ ds) (All-tail Q k ks q) h.1
  all_entries Q P f (k ∷ ks) (d ∷ ds) q (inr h) =
      All-cons P d ds (f k d (All-head Q k ks q) h.0) (all_entries Q P f ks ds (All-tail Q k ks q) h.1)

  -- ---- one entry
  module _ (new : IsNew x before.store) (k : CompD) (d : Context) (entry : IsMemberContext before x k d) where
    entry_holds : (c : List Atom) → looked_up x (store_at c d.store) ≡ Some (point (item_of k) c)
    entry_holds c =
        ap (λ s. looked_up x (store_at c s)) entry.store ∙ held_last x (item_of k) c (map (carried before.size (binders_of k)) before.store) (carried_new before.size (binders_of k) x before.store new)

    -- a longer choice that it admits
    entry_parts : (c e : List Atom) → length c ≡ before.size → IsAdmitted (c ++ e) d → (length e ≡ binders_of k) × IsTrue (holds c before.«when») × IsTrue (holds (c ++ e) (guard_of k))
    entry_parts c e l a =
        let both = and_parts (holds (c ++ e) before.«when») (holds (c ++ e) (guard_of k)) (sym (entry.«when» (c ++ e)) ∙ a.1) in (
          omega (arith, length-append c e, a.0, entry.size, l),
          sym (holds_at_start before.size c e before.«when» before.levels l) ∙ both.0,
          both.1,
        )

    pub goes_on : ExtendsContext before x d
    goes_on = record {
      outside = λ c e l a. (l, (entry_parts c e l a).1);
      store = λ c e l a u held.
          let same : Some (point (item_of k) (c ++ e)) ≡ Some u = sym (entry_holds (c ++ e)) ∙ held in
          let is : point (item_of k) (c ++ e) ≡ u = cc in
          subst (λ v. AreSameNamed (store_at (c ++ e) d.store) (stored x v (store_at c before.store))) is
          (subst (λ s. AreSameNamed (store_at (c ++ e) s) (stored x (point (item_of k) (c ++ e)) (store_at c before.store))) (sym entry.store)
          (store_same before.size (binders_of k) c e l (entry_parts c e l a).0 x (item_of k) before.store new));
      lines = λ c e l a.
          subst (λ s. AreSameNamed (line_values (c ++ e) s) (line_values c before.lines)) (sym entry.lines) (lines_same before.size (binders_of k) c e l (entry_parts c e l a).0 before.lines);
    }

    pub admitted_inside : (c e : List Atom) → IsAdmitted c before → length e ≡ binders_of k → IsTrue (holds (c ++ e) (guard_of k)) → IsAdmitted (c ++ e) d
    admitted_inside c e a l g = (
      omega (arith, length-append c e, entry.size, a.0),
      entry.«when» (c ++ e) ∙ and_true (holds (c ++ e) before.«when») (holds (c ++ e) (guard_of k)) (holds_at_start before.size c e before.«when» before.levels a.0 ∙ a.1) g,
    )

    pub made_inside : (c : List Atom) → length c ≡ before.size → (u : PointValue) (e : List Atom) → IsAdmitted (c ++ e) d → looked_up x (store_at (c ++ e) d.store) ≡ Some u → MakesAt u.term_of u.choice k c
    made_inside c l u e a held =
        let same : Some (point (item_of k) (c ++ e)) ≡ Some u = sym (entry_holds (c ++ e)) ∙ held in
        let is : point (item_of k) (c ++ e) ≡ u = cc in
        let own = entry_parts c e l a in
        makes k e own.0 own.2 (sym (ap (λ v. v.term_of) is)) (sym (ap (λ v. v.choice) is))
      where
        makes : (k : CompD) (e : List Atom) → length e ≡ binders_of k → IsTrue (holds (c ++ e) (guard_of k)) → u.term_of ≡ item_of k → u.choice ≡ c ++ e → MakesAt u.term_of u.choice k c
        makes (comp m g t) e n g' p q = (e, record { count = n; guard = g' }, p, q)

  made_by : (k : CompD) (c : List Atom) (u : PointValue) → MakesAt u.term_of u.choice k c → (e : List Atom) × (length e ≡ binders_of k) × IsTrue (holds (c ++ e) (guard_of k)) × (u ≡ point (item_of k) (c ++ e))
  made_by (comp m g t) c u (e, y, p, q) = (e, y.count, y.guard, ap (λ z. point z u.choice) p ∙ ap (point t) q)

  no_member : (k : CompD) → HasNoMembers before k → (c : List Atom) → IsAdmitted c before → (u : PointValue) → MakesAt u.term_of u.choice k c → ⊥
  no_member k none c a u h =
      let m = made_by k c u h in
      none (c ++ m.0) (omega (arith, length-append c m.0, a.0, m.1)) (holds_at_start before.size c m.0 before.«when» before.levels a.0 ∙ a.1) m.2

  -- ---- members
  module _ (new : IsNew x before.store) (c : List Atom) (a : IsAdmitted c before) (u : PointValue) where
    pub held_inside : (ks : CompsD) (ds : List Context) → AreMemberContexts before x (items_listed ks) ds → MemberAt u.term_of u.choice ks c → IsHeldInside ds x c u
    held_inside no_comps ds h m = absurd m
    held_inside (more k ks) [] h (inl m) = absurd (no_member k h.0 c a u m)
    held_inside (more k ks) [] h (inr m) = held_inside ks [] h.1 m
    held_inside (more k ks) (d ∷ ds) (inl h) (inl m) = absurd (no_member k h.0 c a u m)
    held_inside (more k ks) (d ∷ ds) (inl h) (inr m) = held_inside ks (d ∷ ds) h.1 m
    held_inside (more k ks) (d ∷ ds) (inr h) (inl m) =
        let made = made_by k c u m in
        (d, Contains-append_left (d ∷ []) ds d (Contains-push [] d), made.0, admitted_inside new k d h.0 c made.0 a made.1 made.2, entry_holds new k d h.0 (c ++ made.0) ∙ ap Some (sym made.3))
    held_inside (more k ks) (d ∷ ds) (inr h) (inr m) =
        let rest = held_inside ks ds h.1 m in
        (rest.0, Contains-append_right (d ∷ []) ds rest.0 rest.1, rest.2, rest.3, rest.4)

    pub member_outside : (ks : CompsD) (ds : List Context) → AreMemberContexts before x (items_listed ks) ds → IsHeldInside ds x c u → MemberAt u.term_of u.choice ks c
    member_outside no_comps [] h (d, there, e, adm, held) = absurd (omega (arith, there.1))
    member_outside no_comps (b ∷ ds) h m = absurd h
    member_outside (more k ks) [] h m = inr (member_outside ks [] h.1 m)
    member_outside (more k ks) (b ∷ ds) (inl h) m = inr (member_outside ks (b ∷ ds) h.1 m)
    member_outside (more k ks) (b ∷ ds) (inr h) (d, there, e, adm, held) = elim (first_or_later b ds d there) [
      | inl is ↦ inl (made_inside new k b h.0 c a.0 u e (subst (λ z. IsAdmitted (c ++ e) z) (sym is) adm) (subst (λ z. looked_up x (store_at (c ++ e) z.store) ≡ Some u) (sym is) held))
      | inr later ↦ inr (member_outside ks ds h.1 (d, later, e, adm, held))
    ]

  names_carried : (n by : ℕ) (t : TermD) (ss : List SlotD) → map slot_name (map (carried n by) ss ++ element_slot x t ∷ []) ≡ map slot_name ss ++ x ∷ []
  names_carried n by t [] = refl
  names_carried n by t (s ∷ ss) = ap (λ ns. s.name ∷ ns) (names_carried n by t ss)

  is_inside : IsNew x before.store → (k : CompD) (d : Context) → IsMemberContext before x k d → IsLoopContext before x d
  is_inside new k d entry = record {
    longer = omega (arith, entry.size);
    names = ap (map slot_name) entry.store ∙ names_carried before.size (binders_of k) (item_of k) before.store;
    held = λ c. (point (item_of k) c, entry_holds new k d entry c);
  }

  -- ---- what is promised of the contexts inside
  module _ (t : TermD) (ks : List CompD) (is : t ≡ coll (comps_of ks)) (ds : List Context) (entries : AreMemberContexts before x ks ds) where
    members_are : IsNew x before.store → (c : List Atom) → IsAdmitted c before → (u : PointValue) → IsMember u (point t c) ↔ IsHeldInside ds x c u
    members_are new c a u =
        let own = subst (λ z. AreMemberContexts before x z ds) (sym (listed_of ks)) entries in (
          λ m. held_inside new c a u (comps_of ks) ds own (subst (λ z. IsMember u (point z c)) is m),
          λ m. subst (λ z. IsMember u (point z c)) (sym is) (member_outside new c a u (comps_of ks) ds own m),
        )

    all_go_on : IsNew x before.store → All (ExtendsContext before x) ds
    all_go_on new =
        all_entries (λ k. Unit {0}) (ExtendsContext before x) (λ k d q e. goes_on new k d e) ks ds (λ i d l. tt) entries

    all_admit : (ordered : Bool) → AdmitsContext ordered before → AdmitsTerm ordered t → All (AdmitsContext ordered) ds
    all_admit ordered h g =
        all_entries (AdmitsComp ordered) (AdmitsContext ordered) (λ k d q e. e.operators ordered h q) ks ds
        (items_all (AdmitsComp ordered) (AdmitsItems ordered) (λ k qs p. p) ks (subst (AdmitsTerm ordered) is g)) entries

    all_have_widths : ContextHasBoundedWidths before → HasBoundedWidths t → All ContextHasBoundedWidths ds
    all_have_widths h g =
        all_entries CompHasBoundedWidths ContextHasBoundedWidths (λ k d q e. e.widths h q) ks ds
        (items_all CompHasBoundedWidths ItemsHaveBoundedWidths (λ k qs p. p) ks (subst HasBoundedWidths is g)) entries

    pub are_entered : IsNew x before.store → AreEntered before x t ds
    are_entered new = record {
      entries = subst (λ z. AreMemberContexts before x z ds) (sym (listed_coll t ks is)) entries;
      members = members_are new;
      inside = all_entries (λ k. Unit {0}) (IsLoopContext before x) (λ k d q e. is_inside new k d e) ks ds (λ i d l. tt) entries;
      outside = all_go_on new;
      operators = all_admit;
      widths = all_have_widths;
    }

-- ---- the context of one comprehension
pub is_entry : (before : Context) (x : List ℕ) (m : ℕ) (g : List (List Lit)) (t : TermD) (inner : Context) → inner.size ≡ before.size + m →
    ((c : List Atom) → holds c inner.«when» ≡ (holds c before.«when» && holds c g)) →
    ((ordered : Bool) → AdmitsConstraint ordered before.«when» → AdmitsConstraint ordered g → AdmitsConstraint ordered inner.«when») →
    inner.store ≡ map (carried before.size m) before.store ++ element_slot x t ∷ [] →
    inner.lines ≡ map (carried_line before.size m) before.lines → IsMemberContext before x (comp m g t) inner
is_entry before x m g t inner size truth operators store lines = record {
  size = size;
  «when» = truth;
  store = store;
  lines = lines;
  operators = λ ordered h k. record {
    «when» = operators ordered h.«when» k.0;
    store = subst (All (λ s. AdmitsTerm ordered s.term)) (sym store) (All-push (λ s. AdmitsTerm ordered s.term) (map (carried before.size m) before.store) (element_slot x t) (carried_admits before.size m ordered before.store h.store) k.1);
    lines = subst (All (λ l. AdmitsTerm ordered l.term)) (sym lines) (lines_admit before.size m ordered before.lines h.lines);
  };
  widths = λ h k. record {
    store = subst (All (λ s. HasBoundedWidths s.term)) (sym store) (All-push (λ s. HasBoundedWidths s.term) (map (carried before.size m) before.store) (element_slot x t) (carried_widths before.size m before.store h.store) k);
    lines = subst (All (λ l. HasBoundedWidths l.term)) (sym lines) (lines_widths before.size m before.lines h.lines);
  };
}
