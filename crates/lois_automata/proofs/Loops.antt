-- Loops over comprehensions that add members to a list.
use Rattle.std.proofs.Common.{◌≡◌, ℕ, ◌+◌, ◌<◌, ◌≤◌, Bool, List, [], length, get_or, map, sym, subst}
use Rattle.lois_base.specs.Atom.{Atom}
use Rattle.lois_base.specs.Data.{CompD, CompsD, no_comps, comps_of}
use Rattle.lois_base.specs.Fits.{CompFits, ItemsFit}
use Rattle.lois_base.specs.Tree.{comp_of}
use Rattle.lois_base.specs.Validity.{AdmitsComp, AdmitsItems, CompHasBoundedWidths, ItemsHaveBoundedWidths}
use Rattle.lois_base.specs.Values.{PointValue}
use Rattle.lois_base.specs.declared.values.Comp.{Comp}
use Rattle.lois_algebra.specs.Gathered.{IsAmong, IsCompMember}
use Rattle.lois_relate.proofs.Parts.{comps_from, comps_are, no_comps_left, is_comp_of, IsCompOf}
use Rattle.lois_automata.specs.Adding.{Adds, IsMadeOfOne, IsMadeOfTwo, AddsOfTwo, AddsWithEach}
use Rattle.lois_automata.proofs.Adding.{AddsSoFar, adds_begin, adds_more, adds_end, one_split, one_none, first_split, first_none, second_split, second_none}

-- of each comprehension of the list vs something is made; X says what further operators have to be admitted
module _ (R : List Atom → PointValue → PointValue → Type 0) (X : Bool → Type 0) (n : ℕ) (vs : List CompD) where
  abbrev pub AddsOnes : CompsD → Type 0
  AddsOnes made = Adds n (λ c. IsMadeOfOne (R c) (IsAmong (comps_of vs) c)) (ItemsFit n (comps_of vs)) (λ o. AdmitsItems o (comps_of vs) × X o) (ItemsHaveBoundedWidths (comps_of vs)) no_comps made

  abbrev pub OnesSoFar : CompsD → CompsD → Type 0
  OnesSoFar rest made = AddsSoFar n (λ c. IsMadeOfOne (R c) (IsAmong rest c)) (λ c. IsMadeOfOne (R c) (IsAmong (comps_of vs) c)) (ItemsFit n (comps_of vs)) (λ o. AdmitsItems o (comps_of vs) × X o) (ItemsHaveBoundedWidths (comps_of vs)) no_comps made

  pub ones_begin : (items : List Comp) (made : List CompD) → map comp_of items ≡ vs → made ≡ [] → OnesSoFar (comps_from items 0) (comps_of made)
  ones_begin items made e empty =
      subst (λ z. OnesSoFar (comps_of z) (comps_of made)) (sym e) (subst (λ z. OnesSoFar (comps_of vs) (comps_of z)) (sym empty) (adds_begin n _ _ _ _ no_comps))

  pub ones_more : (A : Bool → Type 0) (items : List Comp) (i : ℕ) (k : Comp) (made longer : CompsD) → map comp_of items ≡ vs → i < length items → k ≡ get_or items i k → ((o : Bool) → AdmitsComp o (comp_of k) × X o → A o) →
      OnesSoFar (comps_from items i) made → Adds n (λ c. IsMadeOfOne (R c) (IsCompMember (comp_of k) c)) (CompFits n (comp_of k)) A (CompHasBoundedWidths (comp_of k)) made longer → OnesSoFar (comps_from items (i + 1)) longer
  ones_more A items i k made longer e l is admits h add =
      let of : IsCompOf vs k = is_comp_of items vs i k e l is in
      adds_more n _ _ _ _ no_comps _ _ _ _ _ _ made longer (one_split R (comps_from items i) (comps_from items (i + 1)) (comp_of k) (comps_are items i k l is))
      (λ f. of.fits n f) (λ o a. admits o (of.admits o a.0, a.1)) of.widths h add

  pub ones_end : (items : List Comp) (i : ℕ) (made : CompsD) → length items ≤ i → OnesSoFar (comps_from items i) made → AddsOnes made
  ones_end items i made l h = adds_end n _ _ _ _ no_comps _ made (one_none R (comps_from items i) (no_comps_left items i l)) h

module _ (R : PointValue → PointValue → PointValue → Type 0) (n : ℕ) where
  -- of the comprehension k and each comprehension of the list
  module _ (k : CompD) (qs : List CompD) (before : CompsD) where
    abbrev pub SecondsSoFar : CompsD → CompsD → Type 0
    SecondsSoFar rest made = AddsSoFar n (λ c. IsMadeOfTwo R (IsCompMember k c) (IsAmong rest c)) (λ c. IsMadeOfTwo R (IsCompMember k c) (IsAmong (comps_of qs) c)) (CompFits n k × ItemsFit n (comps_of qs)) (λ o. AdmitsComp o k × AdmitsItems o (comps_of qs)) (CompHasBoundedWidths k × ItemsHaveBoundedWidths (comps_of qs)) before made

    pub seconds_begin : (items : List Comp) → map comp_of items ≡ qs → SecondsSoFar (comps_from items 0) before
    seconds_begin items e = subst (λ z. SecondsSoFar (comps_of z) before) (sym e) (adds_begin n _ _ _ _ before)

    pub seconds_more : (items : List Comp) (i : ℕ) (q : Comp) (made longer : CompsD) → map comp_of items ≡ qs → i < length items → q ≡ get_or items i q →
        SecondsSoFar (comps_from items i) made → AddsOfTwo R n k (comp_of q) made longer → SecondsSoFar (comps_from items (i + 1)) longer
    seconds_more items i q made longer e l is h add =
        let of : IsCompOf qs q = is_comp_of items qs i q e l is in
        adds_more n _ _ _ _ before _ _ _ _ _ _ made longer (λ c. second_split R (IsCompMember k c) (comps_from items i) (comps_from items (i + 1)) (comp_of q) (comps_are items i q l is) c)
        (λ f. (f.0, of.fits n f.1)) (λ o a. (a.0, of.admits o a.1)) (λ u. (u.0, of.widths u.1)) h add

    pub seconds_end : (items : List Comp) (i : ℕ) (made : CompsD) → length items ≤ i → SecondsSoFar (comps_from items i) made → AddsWithEach R n k (comps_of qs) before made
    seconds_end items i made l h = adds_end n _ _ _ _ before _ made (λ c. second_none R (IsCompMember k c) (comps_from items i) (no_comps_left items i l) c) h

  -- of each comprehension of the one list and each of the other
  module _ (ks qs : List CompD) where
    abbrev pub AddsTwos : CompsD → Type 0
    AddsTwos made = Adds n (λ c. IsMadeOfTwo R (IsAmong (comps_of ks) c) (IsAmong (comps_of qs) c)) (ItemsFit n (comps_of ks) × ItemsFit n (comps_of qs)) (λ o. AdmitsItems o (comps_of ks) × AdmitsItems o (comps_of qs)) (ItemsHaveBoundedWidths (comps_of ks) × ItemsHaveBoundedWidths (comps_of qs)) no_comps made

    abbrev pub FirstsSoFar : CompsD → CompsD → Type 0
    FirstsSoFar rest made = AddsSoFar n (λ c. IsMadeOfTwo R (IsAmong rest c) (IsAmong (comps_of qs) c)) (λ c. IsMadeOfTwo R (IsAmong (comps_of ks) c) (IsAmong (comps_of qs) c)) (ItemsFit n (comps_of ks) × ItemsFit n (comps_of qs)) (λ o. AdmitsItems o (comps_of ks) × AdmitsItems o (comps_of qs)) (ItemsHaveBoundedWidths (comps_of ks) × ItemsHaveBoundedWidths (comps_of qs)) no_comps made

    pub firsts_begin : (items : List Comp) (made : List CompD) → map comp_of items ≡ ks → made ≡ [] → FirstsSoFar (comps_from items 0) (comps_of made)
    firsts_begin items made e empty =
        subst (λ z. FirstsSoFar (comps_of z) (comps_of made)) (sym e) (subst (λ z. FirstsSoFar (comps_of ks) (comps_of z)) (sym empty) (adds_begin n _ _ _ _ no_comps))

    pub firsts_more : (items : List Comp) (i : ℕ) (k : Comp) (made longer : CompsD) → map comp_of items ≡ ks → i < length items → k ≡ get_or items i k →
        FirstsSoFar (comps_from items i) made → AddsWithEach R n (comp_of k) (comps_of qs) made longer → FirstsSoFar (comps_from items (i + 1)) longer
    firsts_more items i k made longer e l is h add =
        let of : IsCompOf ks k = is_comp_of items ks i k e l is in
        adds_more n _ _ _ _ no_comps _ _ _ _ _ _ made longer (first_split R (λ c. IsAmong (comps_of qs) c) (comps_from items i) (comps_from items (i + 1)) (comp_of k) (comps_are items i k l is))
        (λ f. (of.fits n f.0, f.1)) (λ o a. (of.admits o a.0, a.1)) (λ u. (of.widths u.0, u.1)) h add

    pub firsts_end : (items : List Comp) (i : ℕ) (made : CompsD) → length items ≤ i → FirstsSoFar (comps_from items i) made → AddsTwos made
    firsts_end items i made l h = adds_end n _ _ _ _ no_comps _ made (first_none R (λ c. IsAmong (comps_of qs) c) (comps_from items i) (no_comps_left items i l)) h
