-- No slot behind a loop holds a term that is deeper than all those of its name before the loop and at its ends.
use Rattle.std.proofs.Common.{◌≡◌, ℕ, zero, suc, ◌-◌, ◌≤◌, List, [], ◌∷◌, ◌++◌, drop, refl, sym, ap, subst, ◌∙◌, arith}
use Rattle.std.specs.List.{All}
use Rattle.std.proofs.lemmas.List.Elements.{All-nil, All-cons, All-head, All-tail, All-weaker}
use Rattle.lois_base.specs.Data.{TermD, var, tag, tup, coll, CompD, comp, depth, depth_of_comp, depth_of_items}
use Rattle.lois_base.specs.ListDepth.{depth_of_comps}
use Rattle.lois_base.specs.declared.guards.Lit.{Lit}
use Rattle.lois_terms.proofs.Heights.{depth_append}
use Rattle.lois_context.specs.Entered.{item_of, items_listed, comps_listed}
use Rattle.lois_context.specs.Joined.{AreEndSlots, IsEnd, AreMovedOutOfLoop, added_to, IsJoinedTerm, AreJoinedSlots, AreJoined, HoldsWithin}
use Rattle.lois_context.specs.Slots.{SlotD}
use Rattle.lois_context.specs.declared.contexts.Context.{Context}
use Rattle.lois_context.proofs.Joined.{of_listed}

-- ---- terms
comp_depth : (k : CompD) → depth_of_comp k ≡ depth (item_of k)
comp_depth (comp m g t) = refl

moved_depth : (g : List (List Lit)) (by : ℕ) (ks rs : List CompD) → AreMovedOutOfLoop g by ks rs → depth_of_comps rs ≡ depth_of_comps ks
moved_depth g by [] [] h = refl
moved_depth g by (k ∷ ks) (r ∷ rs) h =
    omega (arith, comp_depth k, comp_depth r, ap depth h.0.item, moved_depth g by ks rs h.1)
moved_depth g by [] (r ∷ rs) h = absurd h
moved_depth g by (k ∷ ks) [] h = absurd h

drop_depth : (n : ℕ) (ks : List CompD) → depth_of_comps (drop n ks) ≤ depth_of_comps ks
drop_depth zero ks = omega arith
drop_depth (suc n) [] = omega arith
drop_depth (suc n) (k ∷ ks) = omega (arith, drop_depth n ks)

added_depth : (n k : ℕ) (t : TermD) → 1 ≤ n → depth t ≤ n → suc (depth_of_comps (drop k (comps_listed t))) ≤ n
added_depth n k (coll ks) l h = omega (arith, drop_depth k (items_listed ks), ap depth_of_items (of_listed ks), h)
added_depth n k (var i) l h = omega (arith, drop_depth k [], l)
added_depth n k (tag x) l h = omega (arith, drop_depth k [], l)
added_depth n k (tup ts) l h = omega (arith, drop_depth k [], l)

joined_depth : (g : List (List Lit)) (by n : ℕ) (added : List CompD) (s t : TermD) → IsJoinedTerm g by added s t → (1 ≤ n → suc (depth_of_comps added) ≤ n) → depth s ≤ n → depth t ≤ n
joined_depth g by n added (coll ks) t (moved, are, e) within h =
    let whole : depth t ≡ suc (depth_of_comps (items_listed ks ++ moved)) = ap depth e in
    omega (arith, whole, depth_append (items_listed ks) moved, ap depth_of_items (of_listed ks), moved_depth g by added moved are, within (omega (arith, h)), h)
joined_depth g by n added (var i) t e within h = subst (λ z. depth z ≤ n) (sym e) h
joined_depth g by n added (tag x) t e within h = subst (λ z. depth z ≤ n) (sym e) h
joined_depth g by n added (tup ts) t e within h = subst (λ z. depth z ≤ n) (sym e) h

-- ---- names
-- the slots of the second store begin with those of the first, by their names
abbrev NamesFirst : List SlotD → List SlotD → Type 0
NamesFirst [] es = Unit {0}
NamesFirst (s ∷ ss) [] = ⊥
NamesFirst (s ∷ ss) (e ∷ es) = (e.name ≡ s.name) × NamesFirst ss es

names_of_ends : (n by : ℕ) (ss es : List SlotD) → AreEndSlots n by ss es → NamesFirst ss es
names_of_ends n by [] es h = tt
names_of_ends n by (s ∷ ss) [] h = absurd h
names_of_ends n by (s ∷ ss) (e ∷ es) h = (h.0.name, names_of_ends n by ss es h.1)

names_stay : (g : List (List Lit)) (by : ℕ) (es ss rs os : List SlotD) → AreJoinedSlots g by es ss rs → NamesFirst ss os → NamesFirst rs os
names_stay g by es [] [] os h names = tt
names_stay g by (e ∷ es) (s ∷ ss) (r ∷ rs) (o ∷ os) h names = (names.0 ∙ sym h.0.name, names_stay g by es ss rs os h.1 names.1)
names_stay g by (e ∷ es) (s ∷ ss) (r ∷ rs) [] h names = absurd names
names_stay g by [] [] (r ∷ rs) os h names = absurd h
names_stay g by (e ∷ es) [] (r ∷ rs) os h names = absurd h
names_stay g by [] (s ∷ ss) [] os h names = absurd h
names_stay g by (e ∷ es) (s ∷ ss) [] os h names = absurd h
names_stay g by [] (s ∷ ss) (r ∷ rs) os h names = absurd h

-- ---- slots
module _ (x : List ℕ) (n : ℕ) where
  abbrev IsSlotWithin : SlotD → Type 0
  IsSlotWithin s = s.name ≡ x → depth s.term ≤ n

  slots_within : (g : List (List Lit)) (by : ℕ) (es ss rs : List SlotD) → AreJoinedSlots g by es ss rs → NamesFirst ss es → HoldsWithin x n ss → HoldsWithin x n es → HoldsWithin x n rs
  slots_within g by es [] [] h names old ends = All-nil IsSlotWithin
  slots_within g by (e ∷ es) (s ∷ ss) (r ∷ rs) h names old ends =
      All-cons IsSlotWithin r rs
      (λ is.
      let own : s.name ≡ x = sym h.0.name ∙ is in
      let end : depth e.term ≤ n = All-head IsSlotWithin e es ends (names.0 ∙ own) in
      joined_depth g by n (added_to e) s.term r.term h.0.term (λ l. added_depth n e.from e.term l end) (All-head IsSlotWithin s ss old own))
      (slots_within g by es ss rs h.1 names.1 (All-tail IsSlotWithin s ss old) (All-tail IsSlotWithin e es ends))
  slots_within g by [] [] (r ∷ rs) h names old ends = absurd h
  slots_within g by (e ∷ es) [] (r ∷ rs) h names old ends = absurd h
  slots_within g by [] (s ∷ ss) [] h names old ends = absurd h
  slots_within g by (e ∷ es) (s ∷ ss) [] h names old ends = absurd h
  slots_within g by [] (s ∷ ss) (r ∷ rs) h names old ends = absurd h

  ends_within : (size : ℕ) (ds : List Context) (ss rs : List SlotD) → AreJoined size ds ss rs → All (λ d. NamesFirst ss d.store) ds → HoldsWithin x n ss → All (λ d. HoldsWithin x n d.store) ds → HoldsWithin x n rs
  ends_within size [] ss rs h names old ends = subst (HoldsWithin x n) (sym h) old
  ends_within size (d ∷ ds) ss rs (ts, slots, rest) names old ends =
      let first = slots_within d.«when» (d.size - size) d.store ss ts slots (All-head (λ d. NamesFirst ss d.store) d ds names) old (All-head (λ d. HoldsWithin x n d.store) d ds ends) in
      let others = All-weaker (λ d. NamesFirst ss d.store) (λ d. NamesFirst ts d.store) (λ o. names_stay d.«when» (d.size - size) d.store ss ts o.store slots) ds (All-tail (λ d. NamesFirst ss d.store) d ds names) in
      ends_within size ds ts rs rest others first (All-tail (λ d. HoldsWithin x n d.store) d ds ends)

pub joined_within : (before : Context) (ends : List Context) (store : List SlotD) → All (IsEnd before) ends → AreJoined before.size ends before.store store → (x : List ℕ) (n : ℕ) → HoldsWithin x n before.store → All (λ d. HoldsWithin x n d.store) ends → HoldsWithin x n store
joined_within before ends store are joined x n =
    ends_within x n before.size ends before.store store joined (All-weaker (IsEnd before) (λ d. NamesFirst before.store d.store) (λ d end. names_of_ends before.size (d.size - before.size) before.store d.store end.slots) ends are)
