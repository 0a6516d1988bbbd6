-- Loops that add what is made of each comprehension of a list to what was there before.
use Rattle.std.proofs.Common.{◌≡◌, ℕ, ◌+◌, ◌<◌, ◌≤◌, Bool, ◌↔◌, inl, inr, List, length, get_or, map, sym, subst}
use Rattle.lois_base.specs.Atom.{Atom}
use Rattle.lois_base.specs.Data.{CompD, CompsD, comps_of}
use Rattle.lois_base.specs.Tree.{comp_of}
use Rattle.lois_base.specs.Values.{PointValue}
use Rattle.lois_base.specs.declared.values.Comp.{Comp}
use Rattle.lois_algebra.specs.Gathered.{IsAmong, IsCompMember}
use Rattle.lois_relate.proofs.Parts.{comps_from, comps_are, no_comps_left}
use Rattle.lois_automata.specs.Adding.{Adds, IsMadeOfOne}
use Rattle.lois_automata.proofs.Adding.{AddsSoFar, adds_begin, adds_more, adds_end, one_split, one_none}

-- F, A and U say when levels fit, operators are admitted and widths are bounded
module _ (R : List Atom → PointValue → PointValue → Type 0) (n : ℕ) (vs : List CompD) (F : Type 0) (A : Bool → Type 0) (U : Type 0) (before : CompsD) where
  abbrev pub AddsEach : CompsD → Type 0
  AddsEach made = Adds n (λ c. IsMadeOfOne (R c) (IsAmong (comps_of vs) c)) F A U before made

  abbrev pub EachSoFar : CompsD → CompsD → Type 0
  EachSoFar rest made = AddsSoFar n (λ c. IsMadeOfOne (R c) (IsAmong rest c)) (λ c. IsMadeOfOne (R c) (IsAmong (comps_of vs) c)) F A U before made

  pub each_begin : (items : List Comp) → map comp_of items ≡ vs → EachSoFar (comps_from items 0) before
  each_begin items e = subst (λ z. EachSoFar (comps_of z) before) (sym e) (adds_begin n _ _ _ _ before)

  pub each_more : (F' : Type 0) (A' : Bool → Type 0) (U' : Type 0) (items : List Comp) (i : ℕ) (k : Comp) (made longer : CompsD) → i < length items → k ≡ get_or items i k → (F → F') → ((o : Bool) → A o → A' o) → (U → U') →
      EachSoFar (comps_from items i) made → Adds n (λ c. IsMadeOfOne (R c) (IsCompMember (comp_of k) c)) F' A' U' made longer → EachSoFar (comps_from items (i + 1)) longer
  each_more F' A' U' items i k made longer l is fits admits usual h add =
      adds_more n _ _ _ _ before _ _ _ _ _ _ made longer (one_split R (comps_from items i) (comps_from items (i + 1)) (comp_of k) (comps_are items i k l is)) fits admits usual h add

  pub each_end : (items : List Comp) (i : ℕ) (made : CompsD) → length items ≤ i → EachSoFar (comps_from items i) made → AddsEach made
  each_end items i made l h = adds_end n _ _ _ _ before _ made (one_none R (comps_from items i) (no_comps_left items i l)) h

-- the same members under another name
pub adds_same : (n : ℕ) (W W' : List Atom → PointValue → Type 0) (F F' : Type 0) (A A' : Bool → Type 0) (U U' : Type 0) (before after : CompsD) → ((c : List Atom) → length c ≡ n → (w : PointValue) → W c w ↔ W' c w) → (F' → F) → ((o : Bool) → A' o → A o) → (U' → U) → Adds n W F A U before after → Adds n W' F' A' U' before after
adds_same n W W' F F' A A' U U' before after same fits admits usual add = record {
  members = λ c l w.
      let one = add.members c l w in
      let turned = same c l w in (
        λ h. elim (one.0 h) [ inl p ↦ inl p | inr p ↦ inr (turned.0 p) ],
        λ h. one.1 (elim h [ inl p ↦ inl p | inr p ↦ inr (turned.1 p) ]),
      );
  levels = λ f h. add.levels (fits f) h;
  operators = λ o a h. add.operators o (admits o a) h;
  widths = λ u h. add.widths (usual u) h;
}
