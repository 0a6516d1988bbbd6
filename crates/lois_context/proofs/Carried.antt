-- Slots and lines that are carried over to more levels.
use Rattle.std.proofs.Common.{◌≡◌, ℕ, suc, ◌+◌, Bool, true, false, List, [], ◌∷◌, ◌++◌, length, map, Some, append-nil, refl, sym, ap, ◌∙◌, subst, if◌then◌else◌, bytes_eq}
use Rattle.std.proofs.lemmas.List.Elements.{All-head, All-tail, All-map, All-weaker}
use Rattle.std.proofs.lemmas.Slice.Eq.{bytes_eq-Decides}
use Rattle.std.specs.List.{All, AllByRecursion, IsDistinct}
use Rattle.std.specs.Bool.{IsFalse}
use Rattle.lois_base.specs.Atom.{Atom}
use Rattle.lois_base.specs.Data.{TermD, var, tag, tup, coll, CompD, CompsD, no_comps, more, comps_of}
use Rattle.lois_base.specs.Shift.{shift, shift_level, shift_items}
use Rattle.lois_base.specs.Validity.{AdmitsTerm, HasBoundedWidths}
use Rattle.lois_base.specs.Values.{point, IsSame, SameAt}
use Rattle.lois_base.proofs.Members.{same_refl}
use Rattle.lois_base.proofs.RenamedForm.{admits_renamed, widths_renamed}
use Rattle.lois_answers.specs.ResultsData.{LineD}
use Rattle.lois_meaning.specs.Store.{named, looked_up, stored, AreSameNamed}
use Rattle.lois_terms.proofs.MoreAtoms.{is_raised}
use Rattle.lois_context.specs.Entered.{carried, carried_line, element_slot, IsCarried}
use Rattle.lois_context.specs.Kept.{AreSlots, LinesFit, HasDistinctNames}
use Rattle.lois_context.specs.Slots.{IsNew, SlotD, slot_name, store_at}
use Rattle.lois_context.specs.ItemCounts.{count_of_items, comps_in}
use Rattle.lois_context.specs.LineValues.{line_values}
use Rattle.lois_context.specs.declared.contexts.Context.{Context}
use Rattle.lois_context.specs.declared.entering.Held.{Held}

-- ---- the number of comprehensions
pub count_of : (ks : List CompD) → count_of_items (comps_of ks) ≡ length ks
count_of [] = refl
count_of (k ∷ ks) = ap suc (count_of ks)

module _ (n by : ℕ) where
  count_shifted : (ks : CompsD) → count_of_items (shift_items n by ks) ≡ count_of_items ks
  count_shifted no_comps = refl
  count_shifted (more k ks) = rw (count_shifted ks)

  pub comps_shifted : (t : TermD) → comps_in (shift n by t) ≡ comps_in t
  comps_shifted (var i) = refl
  comps_shifted (tag x) = refl
  comps_shifted (tup ts) = refl
  comps_shifted (coll ks) = count_shifted ks

-- ---- values
-- a term that is raised has the value at a longer choice that it has before
pub raised_same : (n by : ℕ) (t : TermD) (c e : List Atom) → length c ≡ n → length e ≡ by → IsSame (point (shift n by t) (c ++ e)) (point t c)
raised_same n by t c e l m =
    let own : SameAt (shift n by t) (c ++ (e ++ [])) t (c ++ []) = is_raised n by t c e [] l m in
    subst (λ z. SameAt (shift n by t) (c ++ e) t z) (append-nil c) (subst (λ z. SameAt (shift n by t) (c ++ z) t (c ++ [])) (append-nil e) own)

module _ (n by : ℕ) (c e : List Atom) (l : length c ≡ n) (m : length e ≡ by) where
  pub lines_same : (ls : List LineD) → AreSameNamed (line_values (c ++ e) (map (carried_line n by) ls)) (line_values c ls)
  lines_same [] = tt
  lines_same (line ∷ ls) = (refl, raised_same n by line.term c e l m, lines_same ls)

  -- the store with a new name at its end
  pub store_same : (x : List ℕ) (t : TermD) (ss : List SlotD) → IsNew x ss → AreSameNamed (store_at (c ++ e) (map (carried n by) ss ++ element_slot x t ∷ [])) (stored x (point t (c ++ e)) (store_at c ss))
  store_same x t [] h = (refl, same_refl (point t (c ++ e)), tt)
  store_same x t (s ∷ ss) h =
      go (bytes_eq s.name x) (All-head (λ s. IsFalse (bytes_eq s.name x)) s ss h) (store_same x t ss (All-tail (λ s. IsFalse (bytes_eq s.name x)) s ss h))
    where
      go : (p : Bool) → IsFalse p →
          AreSameNamed (store_at (c ++ e) (map (carried n by) ss ++ element_slot x t ∷ [])) (stored x (point t (c ++ e)) (store_at c ss)) →
          AreSameNamed (store_at (c ++ e) (carried n by s ∷ (map (carried n by) ss ++ element_slot x t ∷ []))) (if p then (named x (point t (c ++ e)) ∷ store_at c ss) else (named s.name (point s.term c) ∷ stored x (point t (c ++ e)) (store_at c ss)))
      go false f rest = (refl, raised_same n by s.term c e l m, rest)
      go true f rest = absurd (cc)

-- ---- names
pub no_names : (ss : List SlotD) → ss ≡ [] → HasDistinctNames ss
unfolding IsDistinct
no_names ss e = subst HasDistinctNames (sym e) tt

pub carried_new : (n by : ℕ) (x : List ℕ) (ss : List SlotD) → IsNew x ss → IsNew x (map (carried n by) ss)
carried_new n by x ss h = All-map (λ s. IsFalse (bytes_eq s.name x)) (carried n by) ss h

-- what a new name at the end holds
pub held_last : (x : List ℕ) (t : TermD) (c : List Atom) (ss : List SlotD) → IsNew x ss → looked_up x (store_at c (ss ++ element_slot x t ∷ [])) ≡ Some (point t c)
held_last x t c [] h =
    ap (λ p. if p then Some (point t c) else looked_up x []) ((bytes_eq-Decides x x).1 refl)
held_last x t c (s ∷ ss) h =
    ap (λ p. if p then Some (point s.term c) else looked_up x (store_at c (ss ++ element_slot x t ∷ []))) (All-head (λ s. IsFalse (bytes_eq s.name x)) s ss h)
    ∙ held_last x t c ss (All-tail (λ s. IsFalse (bytes_eq s.name x)) s ss h)

module _ (n by : ℕ) (x : List ℕ) (t : TermD) where
  apart_more : (y : List ℕ) (ss : List SlotD) → AllByRecursion (λ z. bytes_eq y z ≡ false) (map slot_name ss) → bytes_eq y x ≡ false → AllByRecursion (λ z. bytes_eq y z ≡ false) (map slot_name (map (carried n by) ss ++ element_slot x t ∷ []))
  apart_more y [] h f = (f, tt)
  apart_more y (s ∷ ss) h f = (h.0, apart_more y ss h.1 f)

  pub distinct_more : (ss : List SlotD) → HasDistinctNames ss → IsNew x ss → HasDistinctNames (map (carried n by) ss ++ element_slot x t ∷ [])
  unfolding IsDistinct
  distinct_more [] h f = (tt, tt)
  distinct_more (s ∷ ss) h f =
      (apart_more s.name ss h.0 (All-head (λ s. IsFalse (bytes_eq s.name x)) s ss f), distinct_more ss h.1 (All-tail (λ s. IsFalse (bytes_eq s.name x)) s ss f))

-- ---- operators and widths
module _ (n by : ℕ) where
  pub carried_admits : (ordered : Bool) (ss : List SlotD) → All (λ s. AdmitsTerm ordered s.term) ss → All (λ s. AdmitsTerm ordered s.term) (map (carried n by) ss)
  carried_admits ordered ss h =
      All-map (λ s. AdmitsTerm ordered s.term) (carried n by) ss (All-weaker (λ s. AdmitsTerm ordered s.term) _ (λ s k. admits_renamed (shift_level n by) ordered s.term k) ss h)

  pub carried_widths : (ss : List SlotD) → All (λ s. HasBoundedWidths s.term) ss → All (λ s. HasBoundedWidths s.term) (map (carried n by) ss)
  carried_widths ss h =
      All-map (λ s. HasBoundedWidths s.term) (carried n by) ss (All-weaker (λ s. HasBoundedWidths s.term) _ (λ s k. widths_renamed (shift_level n by) s.term k) ss h)

  pub lines_admit : (ordered : Bool) (ls : List LineD) → All (λ l. AdmitsTerm ordered l.term) ls → All (λ l. AdmitsTerm ordered l.term) (map (carried_line n by) ls)
  lines_admit ordered ls h =
      All-map (λ l. AdmitsTerm ordered l.term) (carried_line n by) ls (All-weaker (λ l. AdmitsTerm ordered l.term) _ (λ l k. admits_renamed (shift_level n by) ordered l.term k) ls h)

  pub lines_widths : (ls : List LineD) → All (λ l. HasBoundedWidths l.term) ls → All (λ l. HasBoundedWidths l.term) (map (carried_line n by) ls)
  lines_widths ls h =
      All-map (λ l. HasBoundedWidths l.term) (carried_line n by) ls (All-weaker (λ l. HasBoundedWidths l.term) _ (λ l k. widths_renamed (shift_level n by) l.term k) ls h)

-- ---- what was carried already
pub is_carried : (k : Context) (a b : Held) → a.by ≡ b.by → a.store ≡ b.store → a.lines ≡ b.lines → IsCarried k b → IsCarried k a
is_carried k a b by store lines h = record {
  store = store ∙ (h.store ∙ ap (λ m. map (carried k.size m) k.store) (sym by));
  slots = subst (AreSlots (k.size + a.by)) (sym store) (subst (λ m. AreSlots (k.size + m) b.store) (sym by) h.slots);
  lines = lines ∙ (h.lines ∙ ap (λ m. map (carried_line k.size m) k.lines) (sym by));
  fitting = subst (LinesFit (k.size + a.by)) (sym lines) (subst (λ m. LinesFit (k.size + m) b.lines) (sym by) h.fitting);
}
