-- Sets behind a loop have exactly the members that they had and those that were added at the ends.
use Rattle.std.proofs.Common.{◌≡◌, ℕ, suc, ◌+◌, ◌-◌, ◌<◌, ◌≤◌, ◌^◌, ◌⊎◌, inl, inr, Bool, true, false, ◌↔◌, List, [], ◌∷◌, ◌++◌, length, length-append, get_or, take, drop, map, append-nil, Option, Some, None, refl, sym, ap, ◌∙◌, subst, if◌then◌else◌, bytes_eq, arith}
use Rattle.std.proofs.lemmas.Bool.{and_parts}
use Rattle.std.proofs.lemmas.List.{append_assoc, take-append-drop, length-take-le, length-map}
use Rattle.std.proofs.Math.Seq.{drop-append_seam}
use Rattle.std.proofs.lemmas.List.Elements.{All-nil, All-cons, All-head, All-tail, All-append, All-drop, Contains-append_left, Contains-append_right, Contains-push}
use Rattle.std.specs.List.{All}
use Rattle.std.specs.Bool.{IsTrue}
use Rattle.lois_base.specs.Atom.{Atom}
use Rattle.lois_base.specs.Data.{TermD, var, tag, tup, coll, CompD, comp, CompsD, no_comps, more, comps_of}
use Rattle.lois_base.specs.Fits.{ConstraintFits, Fits, CompFits, ItemsFit}
use Rattle.lois_base.specs.Shift.{shift, shift_comp, shift_items}
use Rattle.lois_base.specs.Tree.{tree}
use Rattle.lois_base.specs.Truth.{holds}
use Rattle.lois_base.specs.Validity.{AdmitsTerm, AdmitsComp, AdmitsItems, HasBoundedWidths, CompHasBoundedWidths, ItemsHaveBoundedWidths}
use Rattle.lois_base.specs.Values.{PointValue, point, IsSame, IsIn, SameAt, SomeIsAt, OneIsAt}
use Rattle.lois_base.specs.declared.guards.Lit.{Lit}
use Rattle.lois_base.specs.declared.values.Term.{Term}
use Rattle.lois_base.specs.declared.values.Term.TheVariants.{Var, Tag, Tup, Coll}
use Rattle.lois_base.proofs.Members.{same_in, same_sym}
use Rattle.lois_base.proofs.Shifted.{shift_items_of}
use Rattle.lois_meaning.specs.Store.{looked_up}
use Rattle.lois_relate.proofs.Sets.{some_is_member}
use Rattle.lois_base.proofs.Validity.{fits_longer}
use Rattle.lois_base.proofs.Booleans.{and_true}
use Rattle.lois_base.proofs.Lists.{items_fit_append}
use Rattle.lois_context.specs.Choices.{IsAdmitted, AdmitsContext, ContextHasBoundedWidths}
use Rattle.lois_context.specs.Content.{with_comps}
use Rattle.lois_context.specs.Entered.{binders_of, item_of, items_listed, comps_listed, carried, element_slot, AreMemberContexts}
use Rattle.lois_context.specs.Joined.{IsGoneOn, IsEndSlot, AreEndSlots, IsEnd, IsMovedOutOfLoop, AreMovedOutOfLoop, added_to, IsJoinedTerm, IsGrownTerm, IsJoinedSlot, AreJoinedSlots, AreJoined, IsAddedInside, HasJoined, IsWithMoved}
use Rattle.lois_context.specs.Slots.{IsNew, SlotD, slot_name, store_at}
use Rattle.lois_context.specs.ItemCounts.{count_of_items, comps_in}
use Rattle.lois_context.specs.declared.contexts.Context.{Context}
use Rattle.lois_context.proofs.Carried.{raised_same, count_of}
use Rattle.lois_context.proofs.Entered.{listed_of, all_entries, goes_on}
use Rattle.lois_context.proofs.Later.{first_or_later}
use Rattle.lois_context.proofs.Longer.{holds_at_start}

-- w is in the set of these comprehensions
abbrev IsAmong : List CompD → List Atom → PointValue → Type 0
IsAmong ks c w = SomeIsAt (comps_of ks) c w.term_of w.choice

among_in : (ks : List CompD) (c : List Atom) (w : PointValue) → IsAmong ks c w ↔ IsIn w (point (coll (comps_of ks)) c)
among_in ks c w = some_is_member w.term_of w.choice (comps_of ks) c

pub of_listed : (ks : CompsD) → comps_of (items_listed ks) ≡ ks
of_listed no_comps = refl
of_listed (more k ks) = ap (more k) (of_listed ks)

among_append : (c : List Atom) (w : PointValue) (ks ls : List CompD) → IsAmong (ks ++ ls) c w ↔ (IsAmong ks c w ⊎ IsAmong ls c w)
among_append c w [] ls = (λ h. inr h, λ h. elim h [ inl p ↦ absurd p | inr p ↦ p ])
among_append c w (k ∷ ks) ls =
    let rest = among_append c w ks ls in (
      λ h. elim h [ inl p ↦ inl (inl p) | inr p ↦ elim (rest.0 p) [ inl q ↦ inl (inr q) | inr q ↦ inr q ] ],
      λ h. elim h [ inl p ↦ elim p [ inl q ↦ inl q | inr q ↦ inr (rest.1 (inl q)) ] | inr p ↦ inr (rest.1 (inr p)) ],
    )

-- ---- comprehensions with an end's levels as further binders
-- by more atoms at which the end's constraint holds, and P does
abbrev ForSome : List Atom → ℕ → List (List Lit) → (List Atom → Type 0) → Type 0
ForSome c by g P = (e : List Atom) × (length e ≡ by) × IsTrue (holds (c ++ e) g) × P (c ++ e)

module _ (n by : ℕ) (g : List (List Lit)) (fits : ConstraintFits (n + by) g) (c : List Atom) (l : length c ≡ n) (w : PointValue) where
  outer_holds : (e y : List Atom) → length e ≡ by → holds ((c ++ e) ++ y) g ≡ holds (c ++ e) g
  outer_holds e y m = holds_at_start (n + by) (c ++ e) y g fits (omega (arith, length-append c e))

  one_back : (k r : CompD) → IsMovedOutOfLoop g by k r → ForSome c by g (λ d. OneIsAt k d w.term_of w.choice) → OneIsAt r c w.term_of w.choice
  one_back (comp m q t) (comp p h s) moved (e, count, own, (y, ext, same)) =
      let regroup : (c ++ e) ++ y ≡ c ++ (e ++ y) = append_assoc c e y in
      let both : IsTrue (holds ((c ++ e) ++ y) h) = moved.guard ((c ++ e) ++ y) ∙ and_true (holds ((c ++ e) ++ y) g) (holds ((c ++ e) ++ y) q) (outer_holds e y count ∙ own) ext.guard in
      (e ++ y, record { count = omega (arith, length-append e y, ext.count, moved.binders); guard = subst (λ d. IsTrue (holds d h)) regroup both }, subst (λ d. SameAt s d w.term_of w.choice) regroup (subst (λ z. SameAt z ((c ++ e) ++ y) w.term_of w.choice) (sym moved.item) same))

  one_parts : (m p : ℕ) (q h : List (List Lit)) (t s : TermD) → IsMovedOutOfLoop g by (comp m q t) (comp p h s) → (e y : List Atom) → length e ≡ by → length y ≡ m → IsTrue (holds (c ++ (e ++ y)) h) → SameAt s (c ++ (e ++ y)) w.term_of w.choice → ForSome c by g (λ d. OneIsAt (comp m q t) d w.term_of w.choice)
  one_parts m p q h t s moved e y count left guard same =
      let regroup : (c ++ e) ++ y ≡ c ++ (e ++ y) = append_assoc c e y in
      let here : IsTrue (holds ((c ++ e) ++ y) h) = subst (λ d. IsTrue (holds d h)) (sym regroup) guard in
      let both = and_parts (holds ((c ++ e) ++ y) g) (holds ((c ++ e) ++ y) q) (sym (moved.guard ((c ++ e) ++ y)) ∙ here) in
      (e, count, sym (outer_holds e y count) ∙ both.0, (y, record { count = left; guard = both.1 }, subst (λ d. SameAt t d w.term_of w.choice) (sym regroup) (subst (λ z. SameAt z (c ++ (e ++ y)) w.term_of w.choice) moved.item same)))

  one_there : (k r : CompD) → IsMovedOutOfLoop g by k r → OneIsAt r c w.term_of w.choice → ForSome c by g (λ d. OneIsAt k d w.term_of w.choice)
  one_there (comp m q t) (comp p h s) moved (e, ext, same) =
      let whole_is : take by e ++ drop by e ≡ e = take-append-drop by e in
      let enough : by ≤ length e = omega (arith, ext.count, moved.binders) in
      let count : length (take by e) ≡ by = length-take-le by e enough in
      let left : length (drop by e) ≡ m = omega (arith, length-append (take by e) (drop by e), ap length whole_is, ext.count, moved.binders, count) in
      one_parts m p q h t s moved (take by e) (drop by e) count left (subst (λ z. IsTrue (holds (c ++ z) h)) (sym whole_is) ext.guard) (subst (λ z. SameAt s (c ++ z) w.term_of w.choice) (sym whole_is) same)

  pub moved_back : (ks rs : List CompD) → AreMovedOutOfLoop g by ks rs → ForSome c by g (λ d. IsAmong ks d w) → IsAmong rs c w
  moved_back [] [] moved (e, count, own, h) = absurd h
  moved_back (k ∷ ks) (r ∷ rs) moved (e, count, own, inl h) = inl (one_back k r moved.0 (e, count, own, h))
  moved_back (k ∷ ks) (r ∷ rs) moved (e, count, own, inr h) = inr (moved_back ks rs moved.1 (e, count, own, h))
  moved_back [] (r ∷ rs) moved h = absurd moved
  moved_back (k ∷ ks) [] moved h = absurd moved

  pub moved_there : (ks rs : List CompD) → AreMovedOutOfLoop g by ks rs → IsAmong rs c w → ForSome c by g (λ d. IsAmong ks d w)
  moved_there [] [] moved h = absurd h
  moved_there (k ∷ ks) (r ∷ rs) moved (inl h) =
      let p = one_there k r moved.0 h in (p.0, p.1, p.2, inl p.3)
  moved_there (k ∷ ks) (r ∷ rs) moved (inr h) =
      let p = moved_there ks rs moved.1 h in (p.0, p.1, p.2, inr p.3)
  moved_there [] (r ∷ rs) moved h = absurd moved
  moved_there (k ∷ ks) [] moved h = absurd moved

-- ---- the slot of an end
module _ (n by : ℕ) (c e : List Atom) (l : length c ≡ n) (m : length e ≡ by) (w : PointValue) where
  -- a set that has gone on has its old members, and those of what was added
  shifted_in : (ks : CompsD) → IsAmong (map (shift_comp n by) (items_listed ks)) (c ++ e) w ↔ IsIn w (point (coll ks) c)
  shifted_in ks =
      let same : IsSame (point (coll (shift_items n by ks)) (c ++ e)) (point (coll ks) c) = raised_same n by (coll ks) c e l m in
      let is : comps_of (map (shift_comp n by) (items_listed ks)) ≡ shift_items n by ks = shift_items_of n by (items_listed ks) ∙ ap (shift_items n by) (of_listed ks) in
      let own = among_in (map (shift_comp n by) (items_listed ks)) (c ++ e) w in (
        λ h. same_in w (point (coll (shift_items n by ks)) (c ++ e)) (point (coll ks) c) same (subst (λ z. IsIn w (point (coll z) (c ++ e))) is (own.0 h)),
        λ h. own.1 (subst (λ z. IsIn w (point (coll z) (c ++ e))) (sym is) (same_in w (point (coll ks) c) (point (coll (shift_items n by ks)) (c ++ e)) (same_sym (point (coll (shift_items n by ks)) (c ++ e)) (point (coll ks) c) same) h)),
      )

  pub gone_on_in : (ks : CompsD) (added : List CompD) (t : TermD) → t ≡ coll (comps_of (map (shift_comp n by) (items_listed ks) ++ added)) → IsIn w (point t (c ++ e)) ↔ (IsIn w (point (coll ks) c) ⊎ IsAmong added (c ++ e) w)
  gone_on_in ks added t is =
      let old = shifted_in ks in
      let all = map (shift_comp n by) (items_listed ks) ++ added in
      let parts = among_append (c ++ e) w (map (shift_comp n by) (items_listed ks)) added in
      let own = among_in all (c ++ e) w in (
        λ h. elim (parts.0 (own.1 (subst (λ z. IsIn w (point z (c ++ e))) is h))) [ inl p ↦ inl (old.0 p) | inr p ↦ inr p ],
        λ h. subst (λ z. IsIn w (point z (c ++ e))) (sym is) (own.0 (parts.1 (elim h [ inl p ↦ inl (old.1 p) | inr p ↦ inr p ]))),
      )

-- ---- a slot after one end more
-- A later slot in the place of an earlier one: what isn't a set is as before, and a set has kept its members.
pub record Grows (c : List Atom) (b s : TermD) : Type 0 where
  pub set : (ks : CompsD) → b ≡ coll ks → (ls : CompsD) × (s ≡ coll ls)
  pub other : ((ks : CompsD) → b ≡ coll ks → ⊥) → s ≡ b
  pub kept : (w : PointValue) → IsIn w (point b c) → IsIn w (point s c)

-- a set, or not
kind : (t : TermD) → ((ks : CompsD) × (t ≡ coll ks)) ⊎ ((ks : CompsD) → t ≡ coll ks → ⊥)
kind (coll ks) = inl (ks, refl)
kind (var i) = inr (λ ks e. absurd (cc))
kind (tag x) = inr (λ ks e. absurd (cc))
kind (tup ts) = inr (λ ks e. absurd (cc))

only_sets : (t : TermD) (c : List Atom) (w : PointValue) → ((ks : CompsD) → t ≡ coll ks → ⊥) → IsIn w (point t c) → ⊥
only_sets (coll ks) c w not_set h = not_set ks refl
only_sets (var i) c w not_set h = h.1
only_sets (tag x) c w not_set h = h.1
only_sets (tup ts) c w not_set h = h.1

gone_on_set : (n by : ℕ) (b t : TermD) (ks : CompsD) → b ≡ coll ks → IsGoneOn n by b t → (added : List CompD) × (t ≡ coll (comps_of (map (shift_comp n by) (items_listed ks) ++ added)))
gone_on_set n by b t ks e h = subst (λ z. IsGoneOn n by z t) e h

gone_on_other : (n by : ℕ) (b t : TermD) → ((ks : CompsD) → b ≡ coll ks → ⊥) → IsGoneOn n by b t → (ks : CompsD) → t ≡ coll ks → ⊥
gone_on_other n by (coll ks) t not_set h ls e = absurd (not_set ks refl)
gone_on_other n by (var i) t not_set h ks e = absurd (cc)
gone_on_other n by (tag x) t not_set h ks e = absurd (cc)
gone_on_other n by (tup ts) t not_set h ks e = absurd (cc)

joined_set : (g : List (List Lit)) (by : ℕ) (added : List CompD) (s t : TermD) (ks : CompsD) → s ≡ coll ks → IsJoinedTerm g by added s t → (moved : List CompD) × AreMovedOutOfLoop g by added moved × (t ≡ coll (comps_of (items_listed ks ++ moved)))
joined_set g by added s t ks is h = subst (λ z. IsJoinedTerm g by added z t) is h

joined_other : (g : List (List Lit)) (by : ℕ) (added : List CompD) (s t : TermD) → ((ks : CompsD) → s ≡ coll ks → ⊥) → IsJoinedTerm g by added s t → t ≡ s
joined_other g by added (coll ks) t not_set h = absurd (not_set ks refl)
joined_other g by added (var i) t not_set h = h
joined_other g by added (tag x) t not_set h = h
joined_other g by added (tup ts) t not_set h = h

-- what stands behind the comprehensions from before
added_of : (n by : ℕ) (ks : CompsD) (added : List CompD) (t : TermD) (from : ℕ) → t ≡ coll (comps_of (map (shift_comp n by) (items_listed ks) ++ added)) → from ≡ count_of_items ks → drop from (comps_listed t) ≡ added
added_of n by ks added t from is e =
    let old = map (shift_comp n by) (items_listed ks) in
    let listed : comps_listed t ≡ old ++ added = ap comps_listed is ∙ listed_of (old ++ added) in
    let count : from ≡ length old = e ∙ (ap count_of_items (sym (of_listed ks)) ∙ (count_of (items_listed ks) ∙ sym (length-map (items_listed ks) (shift_comp n by)))) in
    rw (listed, count) (drop-append_seam old added)

module _ (n by : ℕ) (g : List (List Lit)) (fits : ConstraintFits (n + by) g) (c : List Atom) (l : length c ≡ n) (b e s r : SlotD) (end : IsEndSlot n by b e) (joined : IsJoinedSlot g by e s r) (grows : Grows c b.term s.term) where
  set_joined : (w : PointValue) (ks : CompsD) → b.term ≡ coll ks → IsIn w (point r.term c) ↔ (IsIn w (point s.term c) ⊎ ForSome c by g (λ d. IsIn w (point e.term d)))
  set_joined w ks is =
      let gone = gone_on_set n by b.term e.term ks is end.term in
      let now = grows.set ks is in
      let added : added_to e ≡ gone.0 = added_of n by ks gone.0 e.term e.from gone.1 (end.from ∙ ap comps_in is) in
      let more = joined_set g by (added_to e) s.term r.term now.0 now.1 joined.term in
      let moved : AreMovedOutOfLoop g by gone.0 more.0 = subst (λ z. AreMovedOutOfLoop g by z more.0) added more.1 in
      let term : r.term ≡ coll (comps_of (items_listed now.0 ++ more.0)) = more.2 in
      let here : s.term ≡ coll (comps_of (items_listed now.0)) = now.1 ∙ ap coll (sym (of_listed now.0)) in
      let all = among_in (items_listed now.0 ++ more.0) c w in
      let parts = among_append c w (items_listed now.0) more.0 in
      let before = among_in (items_listed now.0) c w in (
        λ h. elim (parts.0 (all.1 (subst (λ z. IsIn w (point z c)) term h))) [
          | inl p ↦ inl (subst (λ z. IsIn w (point z c)) (sym here) (before.0 p))
          | inr p ↦ inr (let own = moved_there n by g fits c l w gone.0 more.0 moved p in
              (own.0, own.1, own.2, (gone_on_in n by c own.0 l own.1 w ks gone.0 e.term gone.1).1 (inr own.3)))
        ],
        λ h. subst (λ z. IsIn w (point z c)) (sym term) (all.0 (parts.1 (elim h [
          | inl p ↦ inl (before.1 (subst (λ z. IsIn w (point z c)) here p))
          | inr p ↦ elim ((gone_on_in n by c p.0 l p.1 w ks gone.0 e.term gone.1).0 p.3) [
            | inl q ↦ inl (before.1 (subst (λ z. IsIn w (point z c)) here (grows.kept w (subst (λ z. IsIn w (point z c)) (sym is) q))))
            | inr q ↦ inr (moved_back n by g fits c l w gone.0 more.0 moved (p.0, p.1, p.2, q))
          ]
        ]))),
      )

  other_joined : ((ks : CompsD) → b.term ≡ coll ks → ⊥) → r.term ≡ s.term
  other_joined not_set =
      joined_other g by (added_to e) s.term r.term (λ ks is. not_set ks (sym (grows.other not_set) ∙ is)) joined.term

  pub slot_joined : (w : PointValue) → IsIn w (point r.term c) ↔ (IsIn w (point s.term c) ⊎ ForSome c by g (λ d. IsIn w (point e.term d)))
  slot_joined w = elim (kind b.term) [
    | inl p ↦ set_joined w p.0 p.1
    | inr not_set ↦ (
      λ h. inl (subst (λ z. IsIn w (point z c)) (other_joined not_set) h),
      λ h. elim h [
        | inl p ↦ subst (λ z. IsIn w (point z c)) (sym (other_joined not_set)) p
        | inr p ↦ absurd (only_sets e.term (c ++ p.0) w (gone_on_other n by b.term e.term not_set end.term) p.3)
      ],
    )
  ]

  pub slot_grows : Grows c b.term r.term
  slot_grows = record {
    set = λ ks is.
        let now = grows.set ks is in
        let more = joined_set g by (added_to e) s.term r.term now.0 now.1 joined.term in
        (comps_of (items_listed now.0 ++ more.0), more.2);
    other = λ not_set. other_joined not_set ∙ grows.other not_set;
    kept = λ w h. (slot_joined w).1 (inl (grows.kept w h));
  }

-- ---- the slot of a name
abbrev pick : List ℕ → List SlotD → Option SlotD
pick x [] = None
pick x (s ∷ ss) = if (bytes_eq s.name x) then Some s else pick x ss

picked : (x : List ℕ) (c : List Atom) (ss : List SlotD) (s : SlotD) → pick x ss ≡ Some s → looked_up x (store_at c ss) ≡ Some (point s.term c)
picked x c [] s h = absurd (cc)
picked x c (q ∷ ss) s h = go (bytes_eq q.name x) (λ e. picked x c ss s e) h
  where
    go : (p : Bool) → (pick x ss ≡ Some s → looked_up x (store_at c ss) ≡ Some (point s.term c)) → (if p then Some q else pick x ss) ≡ Some s → (if p then Some (point q.term c) else looked_up x (store_at c ss)) ≡ Some (point s.term c)
    go true later e =
        let same : q ≡ s = cc in ap (λ z. Some (point z.term c)) same
    go false later e = later e

held_picked : (x : List ℕ) (c : List Atom) (ss : List SlotD) (v : PointValue) → looked_up x (store_at c ss) ≡ Some v → (s : SlotD) × (pick x ss ≡ Some s) × (point s.term c ≡ v)
held_picked x c [] v h = absurd (cc)
held_picked x c (q ∷ ss) v h = go (bytes_eq q.name x) (λ e. held_picked x c ss v e) h
  where
    go : (p : Bool) → (looked_up x (store_at c ss) ≡ Some v → (s : SlotD) × (pick x ss ≡ Some s) × (point s.term c ≡ v)) → (if p then Some (point q.term c) else looked_up x (store_at c ss)) ≡ Some v → (s : SlotD) × ((if p then Some q else pick x ss) ≡ Some s) × (point s.term c ≡ v)
    go true later e = (q, refl, cc)
    go false later e = later e

-- the slots of one name, before the loop, at an end, and before and after this end is joined
record AtName (n by : ℕ) (g : List (List Lit)) (x : List ℕ) (b : SlotD) (es ss ts : List SlotD) : Type 0 where
  pub end : SlotD
  pub old : SlotD
  pub new : SlotD
  pub at_end : pick x es ≡ Some end
  pub at_old : pick x ss ≡ Some old
  pub at_new : pick x ts ≡ Some new
  pub goes_on : IsEndSlot n by b end
  pub joined : IsJoinedSlot g by end old new

module _ (n by : ℕ) (g : List (List Lit)) (x : List ℕ) where
  at_name : (b : SlotD) (bs es ss ts : List SlotD) → map slot_name ss ≡ map slot_name bs → AreEndSlots n by bs es → AreJoinedSlots g by es ss ts → pick x bs ≡ Some b → AtName n by g x b es ss ts
  at_name b [] es ss ts names ends joined h = absurd (cc)
  at_name b (q ∷ bs) [] ss ts names ends joined h = absurd ends
  at_name b (q ∷ bs) (e ∷ es) [] ts names ends joined h = absurd (cc)
  at_name b (q ∷ bs) (e ∷ es) (s ∷ ss) [] names ends joined h = absurd joined
  at_name b (q ∷ bs) (e ∷ es) (s ∷ ss) (t ∷ ts) names ends joined h =
      let same : s.name ≡ q.name = cc in
      let later : map slot_name ss ≡ map slot_name bs = cc in
      let found = go (bytes_eq q.name x) (at_name b bs es ss ts later ends.1 joined.1) h in
      record {
        end = found.0;
        old = found.1;
        new = found.2;
        at_end = ap (λ z. if (bytes_eq z x) then Some e else pick x es) ends.0.name ∙ found.3;
        at_old = ap (λ z. if (bytes_eq z x) then Some s else pick x ss) same ∙ found.4;
        at_new = ap (λ z. if (bytes_eq z x) then Some t else pick x ts) (joined.0.name ∙ same) ∙ found.5;
        goes_on = found.6;
        joined = found.7;
      }
    where
      go : (p : Bool) → (pick x bs ≡ Some b → AtName n by g x b es ss ts) → (if p then Some q else pick x bs) ≡ Some b →
          (end : SlotD) × (old : SlotD) × (new : SlotD) × ((if p then Some e else pick x es) ≡ Some end) × ((if p then Some s else pick x ss) ≡ Some old) × ((if p then Some t else pick x ts) ≡ Some new) × IsEndSlot n by b end × IsJoinedSlot g by end old new
      go true later h =
          let is : q ≡ b = cc in (e, s, t, refl, refl, refl, subst (λ z. IsEndSlot n by z e) is ends.0, joined.0)
      go false later h =
          let r = later h in (r.end, r.old, r.new, r.at_end, r.at_old, r.at_new, r.goes_on, r.joined)

  pub names_joined : (es ss ts : List SlotD) → AreJoinedSlots g by es ss ts → map slot_name ts ≡ map slot_name ss
  names_joined es [] [] h = refl
  names_joined [] [] (t ∷ ts) h = absurd h
  names_joined (e ∷ es) [] (t ∷ ts) h = absurd h
  names_joined [] (s ∷ ss) ts h = absurd h
  names_joined (e ∷ es) (s ∷ ss) [] h = absurd h
  names_joined (e ∷ es) (s ∷ ss) (t ∷ ts) h = rw (h.0.name, names_joined es ss ts h.1)

-- ---- one end after another
pub joined_more : (n : ℕ) (ds : List Context) (d : Context) (ss ts rs : List SlotD) → AreJoined n ds ss ts → AreJoinedSlots d.«when» (d.size - n) d.store ts rs → AreJoined n (ds ++ d ∷ []) ss rs
joined_more n [] d ss ts rs h j = (rs, subst (λ z. AreJoinedSlots d.«when» (d.size - n) d.store z rs) h j, refl)
joined_more n (k ∷ ds) d ss ts rs (us, first, rest) j = (us, first, joined_more n ds d us ts rs rest j)

module _ (before : Context) (c : List Atom) (l : length c ≡ before.size) (x : List ℕ) (b : SlotD) (found : pick x before.store ≡ Some b) where
  joined_at : (ds : List Context) (ss rs : List SlotD) (s : SlotD) → All (IsEnd before) ds → map slot_name ss ≡ map slot_name before.store → AreJoined before.size ds ss rs → pick x ss ≡ Some s → Grows c b.term s.term →
      (r : SlotD) × (pick x rs ≡ Some r) × ((w : PointValue) → IsIn w (point r.term c) ↔ (IsIn w (point s.term c) ⊎ IsAddedInside ds x c w))
  joined_at [] ss rs s ends names joined at grows =
      (s, ap (pick x) joined ∙ at, λ w. (λ h. inl h, λ h. elim h [ inl p ↦ p | inr p ↦ absurd (omega (arith, p.1.1)) ]))
  joined_at (d ∷ ds) ss rs s ends names (ts, slots, rest) at grows =
      let n = before.size in
      let by = d.size - before.size in
      let end : IsEnd before d = All-head (IsEnd before) d ds ends in
      let size : n + by ≡ d.size = omega (arith, end.size) in
      let fits : ConstraintFits (n + by) d.«when» = subst (λ z. ConstraintFits z d.«when») (sym size) d.levels in
      let named = at_name n by d.«when» x b before.store d.store ss ts names end.slots slots found in
      let same : Some named.old ≡ Some s = sym named.at_old ∙ at in
      let is : named.old ≡ s = cc in
      let joined : IsJoinedSlot d.«when» by named.end s named.new = subst (λ z. IsJoinedSlot d.«when» by named.end z named.new) is named.joined in
      let one = slot_joined n by d.«when» fits c l b named.end s named.new named.goes_on joined grows in
      let others = joined_at ds ts rs named.new (All-tail (IsEnd before) d ds ends) (names_joined n by d.«when» x d.store ss ts slots ∙ names) rest named.at_new (slot_grows n by d.«when» fits c l b named.end s named.new named.goes_on joined grows) in (
        others.0,
        others.1,
        λ w. (
          λ h. elim ((others.2 w).0 h) [
            | inl p ↦ elim ((one w).0 p) [ inl q ↦ inl q | inr q ↦ inr (here d ds named.end named.at_end size w q) ]
            | inr p ↦ inr (there d ds w p)
          ],
          λ h. elim h [
            | inl p ↦ (others.2 w).1 (inl ((one w).1 (inl p)))
            | inr p ↦ elim (apart d ds named.end named.at_end size w p) [ inl q ↦ (others.2 w).1 (inl ((one w).1 (inr q))) | inr q ↦ (others.2 w).1 (inr q) ]
          ],
        ),
      )
    where
      here : (d : Context) (ds : List Context) (e : SlotD) → pick x d.store ≡ Some e → before.size + (d.size - before.size) ≡ d.size → (w : PointValue) → ForSome c (d.size - before.size) d.«when» (λ z. IsIn w (point e.term z)) → IsAddedInside (d ∷ ds) x c w
      here d ds e at size w (y, count, own, h) =
          (d, Contains-append_left (d ∷ []) ds d (Contains-push [] d), y, (omega (arith, length-append c y, l, count, size), own), point e.term (c ++ y), picked x (c ++ y) d.store e at, h)

      there : (d : Context) (ds : List Context) (w : PointValue) → IsAddedInside ds x c w → IsAddedInside (d ∷ ds) x c w
      there d ds w (k, in_list, y, adm, u, held, h) = (k, Contains-append_right (d ∷ []) ds k in_list, y, adm, u, held, h)

      apart : (d : Context) (ds : List Context) (e : SlotD) → pick x d.store ≡ Some e → before.size + (d.size - before.size) ≡ d.size → (w : PointValue) → IsAddedInside (d ∷ ds) x c w → ForSome c (d.size - before.size) d.«when» (λ z. IsIn w (point e.term z)) ⊎ IsAddedInside ds x c w
      apart d ds e at size w (k, in_list, y, adm, u, held, h) = elim (first_or_later d ds k in_list) [
        | inl is ↦
            let own : IsAdmitted (c ++ y) d = subst (λ z. IsAdmitted (c ++ y) z) (sym is) adm in
            let value : looked_up x (store_at (c ++ y) d.store) ≡ Some u = subst (λ z. looked_up x (store_at (c ++ y) z.store) ≡ Some u) (sym is) held in
            let same : Some (point e.term (c ++ y)) ≡ Some u = sym (picked x (c ++ y) d.store e at) ∙ value in
            let equal : u ≡ point e.term (c ++ y) = cc in
            inl (y, omega (arith, length-append c y, l, own.0, size), own.1, subst (λ z. IsIn w z) equal h)
        | inr later ↦ inr (k, later, y, adm, u, held, h)
      ]

pub has_joined : (before : Context) (ends : List Context) (rs : List SlotD) → All (IsEnd before) ends → AreJoined before.size ends before.store rs → (c : List Atom) → IsAdmitted c before → (x : List ℕ) (v : PointValue) → looked_up x (store_at c before.store) ≡ Some v → HasJoined ends x c v rs
has_joined before ends rs are joined c a x v held =
    let own = held_picked x c before.store v held in
    let grows : Grows c own.0.term own.0.term = record { set = λ ks is. (ks, is); other = λ not_set. refl; kept = λ w h. h } in
    let found = joined_at before c a.0 x own.0 own.1 ends before.store rs own.0 are refl joined own.1 grows in
    record {
      value = point found.0.term c;
      held = picked x c rs found.0 found.1;
      members = λ w. subst (λ z. IsIn w (point found.0.term c) ↔ (IsIn w z ⊎ IsAddedInside ends x c w)) own.2 (found.2 w);
    }

-- ---- what the code needs
pub end_slots_count : (n by : ℕ) (ss es : List SlotD) → AreEndSlots n by ss es → length ss ≤ length es
end_slots_count n by [] es h = omega arith
end_slots_count n by (s ∷ ss) [] h = absurd h
end_slots_count n by (s ∷ ss) (e ∷ es) h = omega (arith, end_slots_count n by ss es h.1)

pub joined_count : (g : List (List Lit)) (by : ℕ) (es ss ts : List SlotD) → AreJoinedSlots g by es ss ts → length ts ≡ length ss
joined_count g by es [] [] h = refl
joined_count g by [] [] (t ∷ ts) h = absurd h
joined_count g by (e ∷ es) [] (t ∷ ts) h = absurd h
joined_count g by [] (s ∷ ss) ts h = absurd h
joined_count g by (e ∷ es) (s ∷ ss) [] h = absurd h
joined_count g by (e ∷ es) (s ∷ ss) (t ∷ ts) h = ap suc (joined_count g by es ss ts h.1)

-- one slot more
pub slots_more : (g : List (List Lit)) (by : ℕ) (es ss ts : List SlotD) (e s t : SlotD) → AreJoinedSlots g by es ss ts → e ≡ get_or es (length ts) e → length ts < length es → IsJoinedSlot g by e s t → AreJoinedSlots g by es (ss ++ s ∷ []) (ts ++ t ∷ [])
slots_more g by [] [] [] e s t h at l j = absurd (omega arith)
slots_more g by (q ∷ es) [] [] e s t h at l j = (subst (λ z. IsJoinedSlot g by z s t) at j, tt)
slots_more g by [] [] (u ∷ ts) e s t h at l j = absurd h
slots_more g by (q ∷ es) [] (u ∷ ts) e s t h at l j = absurd h
slots_more g by [] (p ∷ ss) ts e s t h at l j = absurd h
slots_more g by (q ∷ es) (p ∷ ss) [] e s t h at l j = absurd h
slots_more g by (q ∷ es) (p ∷ ss) (u ∷ ts) e s t h at l j = (h.0, slots_more g by es ss ts e s t h.1 at (omega arith) j)

-- what is moved out of a loop, one list behind another
moved_append : (g : List (List Lit)) (by : ℕ) (ks rs js ss : List CompD) → AreMovedOutOfLoop g by ks rs → AreMovedOutOfLoop g by js ss → AreMovedOutOfLoop g by (ks ++ js) (rs ++ ss)
moved_append g by [] [] js ss h i = i
moved_append g by [] (r ∷ rs) js ss h i = absurd h
moved_append g by (k ∷ ks) [] js ss h i = absurd h
moved_append g by (k ∷ ks) (r ∷ rs) js ss h i = (h.0, moved_append g by ks rs js ss h.1 i)

pub with_both : (n : ℕ) (g : List (List Lit)) (by : ℕ) (first second ks rs ss : List CompD) → IsWithMoved n g by first ks rs → IsWithMoved n g by second rs ss → IsWithMoved n g by (first ++ second) ks ss
with_both n g by first second ks rs ss h i = record {
  behind = h.behind ++ i.behind;
  moved = moved_append g by first h.behind second i.behind h.moved i.moved;
  comps = i.comps ∙ (ap (λ z. z ++ i.behind) h.comps ∙ append_assoc ks h.behind i.behind);
  levels = items_fit_append n h.behind i.behind h.levels i.levels;
}

-- one comprehension more
pub with_more : (n : ℕ) (g : List (List Lit)) (by : ℕ) (added ks rs : List CompD) (k r : CompD) → IsWithMoved n g by added ks rs → IsMovedOutOfLoop g by k r → CompFits n r → IsWithMoved n g by (added ++ k ∷ []) ks (rs ++ r ∷ [])
with_more n g by added ks rs k r h moved fits =
    with_both n g by added (k ∷ []) ks rs (rs ++ r ∷ []) h (record { behind = r ∷ []; moved = (moved, tt); comps = refl; levels = (fits, tt) })

pub items_fit_parts : (n : ℕ) (ks ls : List CompD) → ItemsFit n (comps_of (ks ++ ls)) → ItemsFit n (comps_of ks) × ItemsFit n (comps_of ls)
items_fit_parts n [] ls h = (tt, h)
items_fit_parts n (k ∷ ks) ls h =
    let rest = items_fit_parts n ks ls h.1 in ((h.0, rest.0), rest.1)

-- a comprehension with the end's levels fits where the set does
pub moved_fits : (n by m : ℕ) (g q h : List (List Lit)) (t : TermD) → ConstraintFits (n + by) g → CompFits (n + by) (comp m q t) → ((j : ℕ) → ConstraintFits j g → ConstraintFits j q → ConstraintFits j h) → CompFits n (comp (by + m) h t)
moved_fits n by m g q h t guard fits met =
    let e : (n + by) + m ≡ n + (by + m) = omega arith in
    let longer : ConstraintFits ((n + by) + m) g = fits_longer (n + by) m g guard in
    (subst (λ j. j < 2 ^ 64) e fits.0, subst (λ j. ConstraintFits j h) e (met ((n + by) + m) longer fits.1), subst (λ j. Fits j t) e fits.2)

-- a comprehension list that is with nothing more
pub with_none : (n : ℕ) (g : List (List Lit)) (by : ℕ) (ks rs : List CompD) → rs ≡ ks → IsWithMoved n g by [] ks rs
with_none n g by ks rs e = record { behind = []; moved = tt; comps = e ∙ sym (append-nil ks); levels = tt }

count_behind : (ks rs : List CompD) → count_of_items (comps_of ks) ≤ count_of_items (comps_of (ks ++ rs))
count_behind [] rs = omega arith
count_behind (k ∷ ks) rs = omega (arith, count_behind ks rs)

-- where nothing was added, a term is as it was
pub nothing_added : (n : ℕ) (g : List (List Lit)) (by : ℕ) (added moved : List CompD) (t : TermD) → IsWithMoved n g by added [] moved → length moved ≡ 0 → IsJoinedTerm g by added t t
nothing_added n g by added moved t h e = as_it_was t
  where
    none : (ks rs : List CompD) → AreMovedOutOfLoop g by ks rs → length rs ≡ 0 → ks ≡ []
    none [] rs m l = refl
    none (k ∷ ks) [] m l = absurd m
    none (k ∷ ks) (r ∷ rs) m l = absurd (omega arith)

    none_added : added ≡ []
    none_added = none added h.behind h.moved (sym (ap length h.comps) ∙ e)

    as_it_was : (t : TermD) → IsJoinedTerm g by added t t
    as_it_was (var i) = refl
    as_it_was (tag x) = refl
    as_it_was (tup ts) = refl
    as_it_was (coll ks) =
        ([], subst (λ z. AreMovedOutOfLoop g by z []) (sym none_added) tt, sym (ap (λ z. coll (comps_of z)) (append-nil (items_listed ks)) ∙ ap coll (of_listed ks)))

pub term_grown : (n : ℕ) (g : List (List Lit)) (by : ℕ) (added moved : List CompD) (t : Term) → Fits n (tree t) → IsWithMoved n g by added [] moved → IsGrownTerm n g by added (tree t) (tree (with_comps t moved))
term_grown n g by added moved (Coll ks) fits h = record {
  joined = (h.behind, h.moved, ap (λ z. coll (comps_of (ks ++ z))) h.comps ∙ ap (λ z. coll (comps_of (z ++ h.behind))) (sym (listed_of ks)));
  levels = subst (λ z. ItemsFit n (comps_of (ks ++ z))) (sym h.comps) (items_fit_append n ks h.behind fits h.levels);
  more = count_behind ks moved;
}
term_grown n g by added moved (Var i) fits h = record { joined = refl; levels = fits; more = omega arith }
term_grown n g by added moved (Tag x) fits h = record { joined = refl; levels = fits; more = omega arith }
term_grown n g by added moved (Tup ts) fits h = record { joined = refl; levels = fits; more = omega arith }

-- ---- what is true of all terms of a store
module _ (OfTerm : TermD → Type 0) (OfComp : CompD → Type 0) (of_set : (ks : List CompD) → OfTerm (coll (comps_of ks)) ↔ All OfComp ks) where
  of_items : (ks : CompsD) → OfTerm (coll ks) → All OfComp (items_listed ks)
  of_items ks h = (of_set (items_listed ks)).0 (subst (λ z. OfTerm (coll z)) (sym (of_listed ks)) h)

  of_added : (i : ℕ) (t : TermD) → OfTerm t → All OfComp (drop i (comps_listed t))
  of_added i (coll ks) h = All-drop OfComp i (items_listed ks) (of_items ks h)
  of_added i (var j) h = All-drop OfComp i [] (All-nil OfComp)
  of_added i (tag x) h = All-drop OfComp i [] (All-nil OfComp)
  of_added i (tup ts) h = All-drop OfComp i [] (All-nil OfComp)

  module _ (g : List (List Lit)) (by : ℕ) (keeps : (k r : CompD) → IsMovedOutOfLoop g by k r → OfComp k → OfComp r) where
    of_moved : (ks rs : List CompD) → AreMovedOutOfLoop g by ks rs → All OfComp ks → All OfComp rs
    of_moved [] [] h a = a
    of_moved (k ∷ ks) (r ∷ rs) h a = All-cons OfComp r rs (keeps k r h.0 (All-head OfComp k ks a)) (of_moved ks rs h.1 (All-tail OfComp k ks a))
    of_moved [] (r ∷ rs) h a = absurd h
    of_moved (k ∷ ks) [] h a = absurd h

    of_joined : (e : SlotD) (s t : TermD) → IsJoinedTerm g by (added_to e) s t → OfTerm e.term → OfTerm s → OfTerm t
    of_joined e (coll ks) t h a b =
        subst OfTerm (sym h.2) ((of_set (items_listed ks ++ h.0)).1 (All-append OfComp (items_listed ks) h.0 (of_items ks b) (of_moved (added_to e) h.0 h.1 (of_added e.from e.term a))))
    of_joined e (var i) t h a b = subst OfTerm (sym h) b
    of_joined e (tag x) t h a b = subst OfTerm (sym h) b
    of_joined e (tup ts) t h a b = subst OfTerm (sym h) b

    of_slots : (es ss ts : List SlotD) → AreJoinedSlots g by es ss ts → All (λ s. OfTerm s.term) es → All (λ s. OfTerm s.term) ss → All (λ s. OfTerm s.term) ts
    of_slots es [] [] h a b = b
    of_slots [] [] (t ∷ ts) h a b = absurd h
    of_slots (e ∷ es) [] (t ∷ ts) h a b = absurd h
    of_slots [] (s ∷ ss) ts h a b = absurd h
    of_slots (e ∷ es) (s ∷ ss) [] h a b = absurd h
    of_slots (e ∷ es) (s ∷ ss) (t ∷ ts) h a b =
        All-cons (λ s. OfTerm s.term) t ts (of_joined e s.term t.term h.0.term (All-head (λ s. OfTerm s.term) e es a) (All-head (λ s. OfTerm s.term) s ss b))
        (of_slots es ss ts h.1 (All-tail (λ s. OfTerm s.term) e es a) (All-tail (λ s. OfTerm s.term) s ss b))

  -- the contexts of the ends have it
  module _ (OfContext : Context → Type 0) (keeps : (d : Context) (by : ℕ) → OfContext d → (k r : CompD) → IsMovedOutOfLoop d.«when» by k r → OfComp k → OfComp r) (store : (d : Context) → OfContext d → All (λ s. OfTerm s.term) d.store) where
    pub of_store : (n : ℕ) (ds : List Context) (ss rs : List SlotD) → AreJoined n ds ss rs → All OfContext ds → All (λ s. OfTerm s.term) ss → All (λ s. OfTerm s.term) rs
    of_store n [] ss rs h a b = subst (All (λ s. OfTerm s.term)) (sym h) b
    of_store n (d ∷ ds) ss rs (ts, j, rest) a b =
        let own = All-head OfContext d ds a in
        of_store n ds ts rs rest (All-tail OfContext d ds a) (of_slots d.«when» (d.size - n) (keeps d (d.size - n) own) d.store ss ts j (store d own) b)

fitting_items : (n : ℕ) (ks : List CompD) → ItemsFit n (comps_of ks) ↔ All (CompFits n) ks
fitting_items n [] = (λ h. All-nil (CompFits n), λ h. tt)
fitting_items n (k ∷ ks) =
    let rest = fitting_items n ks in
    (λ h. All-cons (CompFits n) k ks h.0 (rest.0 h.1), λ h. (All-head (CompFits n) k ks h, rest.1 (All-tail (CompFits n) k ks h)))

pub added_fits : (n : ℕ) (e : SlotD) → Fits n e.term → ItemsFit n (comps_of (added_to e))
added_fits n e h = (fitting_items n (added_to e)).1 (of_added (Fits n) (CompFits n) (fitting_items n) e.from e.term h)

admitted_items : (ordered : Bool) (ks : List CompD) → AdmitsItems ordered (comps_of ks) ↔ All (AdmitsComp ordered) ks
admitted_items ordered [] = (λ h. All-nil (AdmitsComp ordered), λ h. tt)
admitted_items ordered (k ∷ ks) =
    let rest = admitted_items ordered ks in
    (λ h. All-cons (AdmitsComp ordered) k ks h.0 (rest.0 h.1), λ h. (All-head (AdmitsComp ordered) k ks h, rest.1 (All-tail (AdmitsComp ordered) k ks h)))

items_with_widths : (ks : List CompD) → ItemsHaveBoundedWidths (comps_of ks) ↔ All CompHasBoundedWidths ks
items_with_widths [] = (λ h. All-nil CompHasBoundedWidths, λ h. tt)
items_with_widths (k ∷ ks) =
    let rest = items_with_widths ks in
    (λ h. All-cons CompHasBoundedWidths k ks h.0 (rest.0 h.1), λ h. (All-head CompHasBoundedWidths k ks h, rest.1 (All-tail CompHasBoundedWidths k ks h)))

pub joined_admits : (ordered : Bool) (n : ℕ) (ds : List Context) (ss rs : List SlotD) → AreJoined n ds ss rs → All (AdmitsContext ordered) ds → All (λ s. AdmitsTerm ordered s.term) ss → All (λ s. AdmitsTerm ordered s.term) rs
joined_admits ordered = of_store (AdmitsTerm ordered) (AdmitsComp ordered) (admitted_items ordered) (AdmitsContext ordered) keeps (λ d h. h.store)
  where
    keeps : (d : Context) (by : ℕ) → AdmitsContext ordered d → (k r : CompD) → IsMovedOutOfLoop d.«when» by k r → AdmitsComp ordered k → AdmitsComp ordered r
    keeps d by h (comp m q t) (comp p g s) moved a = (moved.operators ordered h.«when» a.0, subst (AdmitsTerm ordered) (sym moved.item) a.1)

pub joined_widths : (n : ℕ) (ds : List Context) (ss rs : List SlotD) → AreJoined n ds ss rs → All ContextHasBoundedWidths ds → All (λ s. HasBoundedWidths s.term) ss → All (λ s. HasBoundedWidths s.term) rs
joined_widths = of_store HasBoundedWidths CompHasBoundedWidths items_with_widths ContextHasBoundedWidths keeps (λ d h. h.store)
  where
    keeps : (d : Context) (by : ℕ) → ContextHasBoundedWidths d → (k r : CompD) → IsMovedOutOfLoop d.«when» by k r → CompHasBoundedWidths k → CompHasBoundedWidths r
    keeps d by h (comp m q t) (comp p g s) moved a = subst HasBoundedWidths (sym moved.item) a

-- ---- a body that changes nothing
carried_gone_on : (n by : ℕ) (t : TermD) → IsGoneOn n by t (shift n by t)
carried_gone_on n by (coll ks) =
    ([], ap coll (sym (ap (λ z. comps_of z) (append-nil (map (shift_comp n by) (items_listed ks))) ∙ (shift_items_of n by (items_listed ks) ∙ ap (shift_items n by) (of_listed ks)))))
carried_gone_on n by (var i) = refl
carried_gone_on n by (tag x) = refl
carried_gone_on n by (tup ts) = refl

carried_end_slots : (n by : ℕ) (ss later : List SlotD) → AreEndSlots n by ss (map (carried n by) ss ++ later)
carried_end_slots n by [] later = tt
carried_end_slots n by (s ∷ ss) later = (record { name = refl; term = carried_gone_on n by s.term; from = refl }, carried_end_slots n by ss later)

-- the contexts inside of a loop, as they are when it is entered, can be joined again
pub entries_are_ends : (before : Context) (x : List ℕ) (ks : List CompD) (ds : List Context) → IsNew x before.store → AreMemberContexts before x ks ds → All (IsEnd before) ds
entries_are_ends before x ks ds new h =
    all_entries before x (λ k. Unit {0}) (IsEnd before) (λ k d q entry. record {
      size = omega (arith, entry.size);
      outside = (goes_on before x new k d entry).outside;
      slots =
          let by : binders_of k ≡ d.size - before.size = omega (arith, entry.size) in
          subst (λ z. AreEndSlots before.size (d.size - before.size) before.store z) (sym entry.store)
          (subst (λ m. AreEndSlots before.size m before.store (map (carried before.size (binders_of k)) before.store ++ element_slot x (item_of k) ∷ [])) by (carried_end_slots before.size (binders_of k) before.store (element_slot x (item_of k) ∷ [])));
    }) ks ds (λ i d l. tt) h
