-- Terms in which the last comprehensions are simplified.
use Rattle.std.proofs.Common.{◌≡◌, ℕ, zero, suc, ◌+◌, ◌<◌, ◌≤◌, inl, inr, Bool, List, [], ◌∷◌, ◌++◌, length, get_or, take, drop, IsTrue, refl, sym, ap, ◌∙◌, subst, arith}
use Rattle.std.specs.List.{All, Contains}
use Rattle.std.proofs.lemmas.List.{length-append, length-take-le, take_more, take-append-drop}
use Rattle.std.proofs.lemmas.List.Elements.{All-head, All-tail, All-cons, All-nil, Contains-append_left, Contains-append_right, Contains-append_cases}
use Rattle.std.proofs.Math.Seq.{take-append_seam}
use Rattle.lois_base.specs.Atom.{Atom}
use Rattle.lois_base.specs.Data.{TermD, var, tag, tup, coll, CompD, CompsD, comps_of}
use Rattle.lois_base.specs.Fits.{Fits, ItemsFit}
use Rattle.lois_base.specs.Truth.{holds}
use Rattle.lois_base.specs.Validity.{AdmitsTerm, AdmitsItems, HasBoundedWidths, ItemsHaveBoundedWidths}
use Rattle.lois_base.specs.Values.{point, IsSame}
use Rattle.lois_base.specs.declared.guards.Lit.{Lit}
use Rattle.lois_base.proofs.Members.{same_refl, same_trans, same_as_set}
use Rattle.lois_base.proofs.Lists.{items_fit_append}
use Rattle.lois_algebra.proofs.Among.{admits_items-append, widths-append}
use Rattle.lois_deciders.specs.Satisfiability.{ConstraintIsSatisfiable}
use Rattle.lois_simplify.proofs.Kept.{alike_kept}
use Rattle.lois_simplify.proofs.Members.{items_fit_each, each_fits_items, items_admit_each, each_admits_items, items_wide_each, each_wide_items}
use Rattle.lois_terms.specs.Collections.{IsColl}
use Rattle.lois_context.specs.Entered.{items_listed, comps_listed}
use Rattle.lois_context.specs.Kept.{IsSlot, AreSlots}
use Rattle.lois_context.specs.Slots.{SlotD}
use Rattle.lois_context.specs.ItemCounts.{comps_in, count_of_items}
use Rattle.lois_context.proofs.Carried.{count_of}
use Rattle.lois_context.proofs.Entered.{listed_of}
use Rattle.lois_context.proofs.Joined.{of_listed}
use Rattle.lois_interp.specs.Members.{ArePutBehind}
use Rattle.lois_interp.specs.Slots.{IsKeptTerm}
use Rattle.lois_interp.specs.Tidied.{IsTidied, IsTidiedSlot, AreTidied, counts_in, AreCounted}
use Rattle.lois_interp.proofs.PutOnce.{append_same}
use Rattle.lois_interp.proofs.Longer.{IsLongerTerm, AreLonger}

-- ---- one term
-- what stays as it is
pub tidied_same : (n : ℕ) (g : List (List Lit)) (first : ℕ) (t : TermD) → Fits n t → IsTidied n g first t t
tidied_same n g first t fits = record {
  kept = kept t;
  value = λ c l o. same_refl (point t c);
  levels = fits;
  count = λ l. l;
  operators = λ o h. h;
  widths = λ h. h;
}
  where
    kept : (s : TermD) → IsKeptTerm first s s
    kept (var i) = refl
    kept (tag x) = refl
    kept (tup ts) = refl
    kept (coll ks) = (ks, refl, refl)

-- a simplified set is one
pub still_set : (n : ℕ) (g : List (List Lit)) (ks : CompsD) (r : TermD) → ConstraintIsSatisfiable n g → ((c : List Atom) → length c ≡ n → IsTrue (holds c g) → IsSame (point (coll ks) c) (point r c)) → IsColl r
still_set n g ks r (c, l, o) same = same_as_set (point (coll ks) c) (point r c) ks refl (same c l o)

pub items_fit_first : (n : ℕ) (xs ys : List CompD) → ItemsFit n (comps_of (xs ++ ys)) → ItemsFit n (comps_of xs)
items_fit_first n [] ys h = tt
items_fit_first n (x ∷ xs) ys h = (h.0, items_fit_first n xs ys h.1)

pub items_fit_last : (n : ℕ) (xs ys : List CompD) → ItemsFit n (comps_of (xs ++ ys)) → ItemsFit n (comps_of ys)
items_fit_last n [] ys h = h
items_fit_last n (x ∷ xs) ys h = items_fit_last n xs ys h.1

items_admit_first : (o : Bool) (xs ys : List CompD) → AdmitsItems o (comps_of (xs ++ ys)) → AdmitsItems o (comps_of xs)
items_admit_first o [] ys h = tt
items_admit_first o (x ∷ xs) ys h = (h.0, items_admit_first o xs ys h.1)

pub items_admit_last : (o : Bool) (xs ys : List CompD) → AdmitsItems o (comps_of (xs ++ ys)) → AdmitsItems o (comps_of ys)
items_admit_last o [] ys h = h
items_admit_last o (x ∷ xs) ys h = items_admit_last o xs ys h.1

items_widths_first : (xs ys : List CompD) → ItemsHaveBoundedWidths (comps_of (xs ++ ys)) → ItemsHaveBoundedWidths (comps_of xs)
items_widths_first [] ys h = tt
items_widths_first (x ∷ xs) ys h = (h.0, items_widths_first xs ys h.1)

items_widths_last : (xs ys : List CompD) → ItemsHaveBoundedWidths (comps_of (xs ++ ys)) → ItemsHaveBoundedWidths (comps_of ys)
items_widths_last [] ys h = h
items_widths_last (x ∷ xs) ys h = items_widths_last xs ys h.1

-- the first ones and what stands for the last ones
module _ (n : ℕ) (g : List (List Lit)) (xs ys zs : List CompD) where
  tidied_both : ItemsFit n (comps_of xs) → Fits n (coll (comps_of zs)) → ((c : List Atom) → length c ≡ n → IsTrue (holds c g) → IsSame (point (coll (comps_of (xs ++ ys))) c) (point (coll (comps_of (xs ++ zs))) c)) →
      ((o : Bool) → AdmitsItems o (comps_of ys) → AdmitsItems o (comps_of zs)) → (ItemsHaveBoundedWidths (comps_of ys) → ItemsHaveBoundedWidths (comps_of zs)) →
      IsTidied n g (length xs) (coll (comps_of (xs ++ ys))) (coll (comps_of (xs ++ zs)))
  tidied_both fits levels same operators widths = record {
    kept = (
      comps_of (xs ++ zs),
      refl,
      ap (take (length xs)) (listed_of (xs ++ zs)) ∙ (take-append_seam xs zs ∙ sym (ap (take (length xs)) (listed_of (xs ++ ys)) ∙ take-append_seam xs ys)),
    );
    value = same;
    levels = items_fit_append n xs zs fits levels;
    count = λ l. let e = count_of (xs ++ zs) in omega (arith, e, length-append xs zs);
    operators = λ o h. admits_items-append o xs zs (items_admit_first o xs ys h) (operators o (items_admit_last o xs ys h));
    widths = λ h. widths-append xs zs (items_widths_first xs ys h) (widths (items_widths_last xs ys h));
  }

-- what is put behind the first ones makes the same set as all of it
behind_same : (first added more : List CompD) (c : List Atom) → ((k : CompD) → Contains more k → Contains added k) → ((k : CompD) → Contains added k → Contains (first ++ more) k) →
    IsSame (point (coll (comps_of (first ++ added))) c) (point (coll (comps_of (first ++ more))) c)
behind_same first added more c only whole = (alike_kept ([] ∷ []) (length c) (first ++ added) (first ++ more)
    (λ k h. elim (Contains-append_cases first added k h) [ inl a ↦ Contains-append_left first more k a | inr a ↦ whole k a ])
    (λ k h. elim (Contains-append_cases first more k h) [ inl a ↦ Contains-append_left first added k a | inr a ↦ Contains-append_right first added k (only k a) ])).value c refl refl

pub set_tidied : (n : ℕ) (g : List (List Lit)) (first : ℕ) (ks : List CompD) (lean r : TermD) → first ≤ length ks → ItemsFit n (comps_of ks) → IsColl lean → ArePutBehind (take first ks) (comps_listed lean) r →
    Fits n lean → ((c : List Atom) → length c ≡ n → IsTrue (holds c g) → IsSame (point (coll (comps_of (drop first ks))) c) (point lean c)) →
    ((o : Bool) → AdmitsTerm o (coll (comps_of (drop first ks))) → AdmitsTerm o lean) → (HasBoundedWidths (coll (comps_of (drop first ks))) → HasBoundedWidths lean) → IsTidied n g first (coll (comps_of ks)) r
set_tidied n g first ks lean r le fits (ls, set) (all, (more, together, only, rest), is) levels same operators widths =
    let whole : take first ks ++ drop first ks ≡ ks = take-append-drop first ks in
    let lean_is : lean ≡ coll (comps_of (comps_listed lean)) = set ∙ (ap coll (sym (of_listed ls)) ∙ ap (λ z. coll (comps_of (comps_listed z))) (sym set)) in
    let both = tidied_both n g (take first ks) (drop first ks) more
    (items_fit_first n (take first ks) (drop first ks) (subst (λ z. ItemsFit n (comps_of z)) (sym whole) fits))
    (each_fits_items n more (λ k h. items_fit_each n (comps_listed lean) k (subst (Fits n) lean_is levels) (only k h)))
    (λ c l o. same_trans (point (coll (comps_of (take first ks ++ drop first ks))) c) (point (coll (comps_of (take first ks ++ comps_listed lean))) c) (point (coll (comps_of (take first ks ++ more))) c)
    (append_same (take first ks) (drop first ks) (comps_listed lean) c (subst (λ z. IsSame (point (coll (comps_of (drop first ks))) c) (point z c)) lean_is (same c l o)))
    (behind_same (take first ks) (comps_listed lean) more c only rest))
    (λ o h. each_admits_items o more (λ k i. items_admit_each o (comps_listed lean) k (subst (AdmitsTerm o) lean_is (operators o h)) (only k i)))
    (λ h. each_wide_items more (λ k i. items_wide_each (comps_listed lean) k (subst HasBoundedWidths lean_is (widths h)) (only k i))) in
    let whole_set = subst (λ z. IsTidied n g (length (take first ks)) (coll (comps_of z)) (coll (comps_of (take first ks ++ more)))) whole both in
    let counted = subst (λ z. IsTidied n g z (coll (comps_of ks)) (coll (comps_of (take first ks ++ more)))) (length-take-le first ks le) whole_set in
    subst (IsTidied n g first (coll (comps_of ks))) (sym (is ∙ ap (λ z. coll (comps_of z)) together)) counted

-- ---- all slots
tidied_more : (n : ℕ) (g : List (List Lit)) (ns : List ℕ) (ss es : List SlotD) (i : ℕ) (s e : SlotD) → AreTidied n g ns ss es → IsTidiedSlot n g i s e → AreTidied n g (ns ++ i ∷ []) (ss ++ s ∷ []) (es ++ e ∷ [])
tidied_more n g [] [] [] i s e h one = (one, tt)
tidied_more n g (m ∷ ns) (q ∷ ss) (r ∷ es) i s e h one = (h.0, tidied_more n g ns ss es i s e h.1 one)
tidied_more n g _ _ _ i s e h one = absurd (assumption h)

-- the slots and counts before an index, and one more
pub tidied_next : (n : ℕ) (g : List (List Lit)) (ns : List ℕ) (ss es after : List SlotD) (j k i : ℕ) (s e : SlotD) → k ≡ j + 1 → after ≡ es ++ e ∷ [] → j < length ns → j < length ss → i ≡ get_or ns j 0 → s ≡ get_or ss j s → AreTidied n g (take j ns) (take j ss) es → IsTidiedSlot n g i s e →
    AreTidied n g (take k ns) (take k ss) after
tidied_next n g ns ss es after j k i s e k_is after_is l m i_is s_is h one =
    let counts : take (j + 1) ns ≡ take j ns ++ i ∷ [] = take_more ns j 0 l ∙ ap (λ z. take j ns ++ z ∷ []) (sym i_is) in
    let slots : take (j + 1) ss ≡ take j ss ++ s ∷ [] = take_more ss j s m ∙ ap (λ z. take j ss ++ z ∷ []) (sym s_is) in
    rw (k_is, after_is, counts, slots) (tidied_more n g (take j ns) (take j ss) es i s e h one)

pub counted_length : (ns : List ℕ) (ss : List SlotD) → AreCounted ns ss → length ns ≡ length ss
counted_length [] [] h = refl
counted_length (n ∷ ns) (s ∷ ss) h = ap suc (counted_length ns ss h.2)
counted_length [] (s ∷ ss) h = absurd h
counted_length (n ∷ ns) [] h = absurd h

pub counted_at : (ns : List ℕ) (ss : List SlotD) (i : ℕ) (s : SlotD) → AreCounted ns ss → i < length ss → s ≡ get_or ss i s → get_or ns i 0 ≤ comps_in s.term
counted_at [] [] i s h l e = absurd (omega arith)
counted_at (n ∷ ns) (q ∷ ss) zero s h l e = subst (λ (z : SlotD). n ≤ comps_in z.term) (sym e) h.1
counted_at (n ∷ ns) (q ∷ ss) (suc i) s h l e = counted_at ns ss i s h.2 (omega arith) e
counted_at [] (q ∷ ss) i s h l e = absurd h
counted_at (n ∷ ns) [] i s h l e = absurd h

longer_count : (s t : TermD) → IsLongerTerm s t → comps_in s ≤ comps_in t
longer_count (coll ks) t (added, is) =
    let old : count_of_items ks ≡ length (items_listed ks) = ap count_of_items (sym (of_listed ks)) ∙ count_of (items_listed ks) in
    let new : comps_in t ≡ length (items_listed ks ++ added) = ap comps_in is ∙ count_of (items_listed ks ++ added) in
    omega (arith, old, new, length-append (items_listed ks) added)
longer_count (var i) t is = omega arith
longer_count (tag i) t is = omega arith
longer_count (tup ts) t is = omega arith

-- behind a loop each set has at least the comprehensions from before it
pub joined_counted : (n : ℕ) (ss js : List SlotD) → AreSlots n ss → AreLonger ss js → AreCounted (counts_in ss) js
joined_counted n [] [] fit h = tt
joined_counted n (s ∷ ss) (j ∷ js) fit h = (
  subst (λ m. m ≤ comps_in s.term) (sym h.0.from) (All-head (IsSlot n) s ss fit).1,
  longer_count s.term j.term h.0.term,
  joined_counted n ss js (All-tail (IsSlot n) s ss fit) h.1,
)
joined_counted n [] (j ∷ js) fit h = absurd h
joined_counted n (s ∷ ss) [] fit h = absurd h

-- ---- what the tidied slots keep
pub tidied_slots : (n : ℕ) (g : List (List Lit)) (ns : List ℕ) (ss es : List SlotD) → AreCounted ns ss → AreTidied n g ns ss es → AreSlots n es
tidied_slots n g [] [] [] c h = All-nil (IsSlot n)
tidied_slots n g (i ∷ ns) (s ∷ ss) (e ∷ es) c h =
    All-cons (IsSlot n) e es (h.0.term.levels, subst (λ m. m ≤ comps_in e.term) (sym h.0.from) (le_trans s.from i (comps_in e.term) c.0 (h.0.term.count c.1))) (tidied_slots n g ns ss es c.2 h.1)
  where
    le_trans : (a b d : ℕ) → a ≤ b → b ≤ d → a ≤ d
    le_trans a b d p q = omega arith
tidied_slots n g _ _ _ c h = absurd (assumption h)

pub tidied_have : (P : TermD → Type 0) (n : ℕ) (g : List (List Lit)) (ns : List ℕ) (ss es : List SlotD) → ((i : ℕ) (s e : TermD) → IsTidied n g i s e → P s → P e) → AreTidied n g ns ss es → All (λ (s : SlotD). P s.term) ss → All (λ (s : SlotD). P s.term) es
tidied_have P n g [] [] [] keeps h all = All-nil (λ (s : SlotD). P s.term)
tidied_have P n g (i ∷ ns) (s ∷ ss) (e ∷ es) keeps h all =
    All-cons (λ (s : SlotD). P s.term) e es (keeps i s.term e.term h.0.term (All-head (λ (s : SlotD). P s.term) s ss all)) (tidied_have P n g ns ss es keeps h.1 (All-tail (λ (s : SlotD). P s.term) s ss all))
tidied_have P n g _ _ _ keeps h all = absurd (assumption h)
