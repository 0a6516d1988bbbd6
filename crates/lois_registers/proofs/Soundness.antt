-- The sets of the translated automaton have a text: their levels, tags, widths, operators and brackets.
use Rattle.std.proofs.Common.{◌≡◌, ℕ, zero, suc, ◌+◌, ◌≤◌, ◌<◌, ◌^◌, Bool, List, [], ◌∷◌, Option, Some, None, length, map, replicate, refl, sym, ap, subst, ◌∙◌, arith, zero-add}
use Rattle.std.specs.Prelude.{codes}
use Rattle.std.specs.List.{All, Contains}
use Rattle.std.proofs.lemmas.List.{length-replicate}
use Rattle.std.proofs.lemmas.List.Elements.{All-nil, All-cons, All-weaker, All-contains}
use Rattle.lois_answers.specs.Sound.{HasTags, PartsHaveTags, CompHasTags, IsSoundTerm}
use Rattle.lois_base.specs.Data.{TermD, var, tup, coll, terms_of, CompD, comp, comps_of, depth, depth_of_parts, depth_of_comp}
use Rattle.lois_base.specs.Fits.{Fits, PartsFit, CompFits, CubeFits, ConstraintFits}
use Rattle.lois_base.specs.Names.{IsName}
use Rattle.lois_base.specs.Validity.{AdmitsTerm, AdmitsParts, AdmitsComp, AdmitsCube, AdmitsLit, IsStrictTerm, PartsAreStrict, CompIsStrict, IsStrictCube, IsStrictLit, HasBoundedWidths, PartsHaveBoundedWidths, CompHasBoundedWidths, count_of_parts}
use Rattle.lois_base.specs.declared.guards.Lit.{Lit}
use Rattle.lois_registers.specs.Placed.{full, placements, content_term, configuration_term, configuration_comp, configurations, step_item, step_comp, step_comps, AreMade, IsSpelledComp}
use Rattle.lois_registers.specs.Runs.{stored_from}
use Rattle.lois_registers.specs.Valid.{IsRegStep, IsLiteral}
use Rattle.lois_registers.specs.declared.automata.RegStep.{RegStep}
use Rattle.lois_registers.proofs.Contents.{AreBelow, below_stored, length_stored, full_few, IsPlace, place_is, below_more}
use Rattle.lois_registers.proofs.Guards.{IsSoundGuard, placed_sound}
use Rattle.lois_registers.proofs.Made.{each_made, fits_made, admits_made, strict_made, widths_made, tags_made, depth_made, items_fit, items_admit, items_strict, items_widths, items_tags, items_depth}
use Rattle.lois_registers.proofs.Members.{Each, each_flat, each_map}

-- a sound set without free levels, in which few brackets are open
pub record IsSoundPart (o : Bool) (t : TermD) : Type 0 where
  pub sound : IsSoundTerm o 0 t
  pub low : depth t ≤ 3

none_name : IsName (codes "none")
none_name = record { short = omega arith; letter = refl; bytes = refl }

-- what makes a term of n levels sound, with its depth
record IsSoundItem (o : Bool) (n d : ℕ) (t : TermD) : Type 0 where
  levels : Fits n t
  tags : HasTags t
  widths : HasBoundedWidths t
  operators : AdmitsTerm o t
  strict : IsStrictTerm t
  low : depth t ≤ d

parts_fit : (n : ℕ) (os : List (Option ℕ)) → AreBelow n os → PartsFit n (terms_of (map content_term os))
parts_fit n [] h = tt
parts_fit n (None ∷ os) h = (tt, parts_fit n os h)
parts_fit n (Some i ∷ os) h = (h.0, parts_fit n os h.1)

parts_tags : (os : List (Option ℕ)) → PartsHaveTags (terms_of (map content_term os))
parts_tags [] = tt
parts_tags (None ∷ os) = (none_name, parts_tags os)
parts_tags (Some i ∷ os) = (tt, parts_tags os)

parts_widths : (os : List (Option ℕ)) → PartsHaveBoundedWidths (terms_of (map content_term os))
parts_widths [] = tt
parts_widths (None ∷ os) = (tt, parts_widths os)
parts_widths (Some i ∷ os) = (tt, parts_widths os)

parts_admit : (o : Bool) (os : List (Option ℕ)) → AdmitsParts o (terms_of (map content_term os))
parts_admit o [] = tt
parts_admit o (None ∷ os) = (tt, parts_admit o os)
parts_admit o (Some i ∷ os) = (tt, parts_admit o os)

parts_strict : (os : List (Option ℕ)) → PartsAreStrict (terms_of (map content_term os))
parts_strict [] = tt
parts_strict (None ∷ os) = (tt, parts_strict os)
parts_strict (Some i ∷ os) = (tt, parts_strict os)

parts_count : (os : List (Option ℕ)) → count_of_parts (terms_of (map content_term os)) ≡ length os
parts_count [] = refl
parts_count (o ∷ os) = ap suc (parts_count os)

parts_low : (os : List (Option ℕ)) → depth_of_parts (terms_of (map content_term os)) ≤ 0
parts_low [] = omega arith
parts_low (None ∷ os) = omega (arith, parts_low os)
parts_low (Some i ∷ os) = omega (arith, parts_low os)

configuration_sound : (o : Bool) (n : ℕ) (name : List ℕ) (os : List (Option ℕ)) → IsName name → 1 ≤ length os → length os ≤ 4 → AreBelow n os → IsSoundItem o n 1 (configuration_term name os)
configuration_sound o n name os is some few below = record {
  levels = (tt, parts_fit n os below);
  tags = (is, parts_tags os);
  widths = (omega (arith, parts_count os), omega (arith, parts_count os), (tt, parts_widths os));
  operators = (tt, parts_admit o os);
  strict = (tt, parts_strict os);
  low = omega (arith, parts_low os);
}

-- a comprehension of a sound item
record IsSoundComp (o : Bool) (d : ℕ) (k : CompD) : Type 0 where
  levels : CompFits 0 k
  tags : CompHasTags k
  widths : CompHasBoundedWidths k
  operators : AdmitsComp o k
  strict : CompIsStrict k
  low : depth_of_comp k ≤ d

comp_sound : (o : Bool) (d m : ℕ) (g : List (List Lit)) (t : TermD) → m < 2 ^ 64 → IsSoundGuard m o g → IsSoundItem o m d t → IsSoundComp o d (comp m g t)
comp_sound o d m g t few guard item =
    let same : m ≡ 0 + m = sym (zero-add m) in
    record {
      levels = (omega arith, subst (λ z. ConstraintFits z g) same guard.levels, subst (λ z. Fits z t) same item.levels);
      tags = item.tags;
      widths = item.widths;
      operators = (guard.operators, item.operators);
      strict = (guard.strict, item.strict);
      low = item.low;
    }

always_sound : (n : ℕ) (o : Bool) → IsSoundGuard n o ([] ∷ [])
always_sound n o = record {
  levels = All-cons (CubeFits n) [] [] (All-nil _) (All-nil (CubeFits n));
  operators = All-cons (AdmitsCube o) [] [] (All-nil (AdmitsLit o)) (All-nil (AdmitsCube o));
  strict = All-cons IsStrictCube [] [] (All-nil IsStrictLit) (All-nil IsStrictCube);
}

set_sound : (o : Bool) (d : ℕ) (ks : List CompD) → d ≤ 2 → Each (IsSoundComp o d) ks → IsSoundPart o (coll (comps_of ks))
set_sound o d ks l h = record {
  sound = record {
    levels = items_fit 0 ks (each (CompFits 0) (λ k i. i.levels) ks h);
    tags = items_tags ks (each CompHasTags (λ k i. i.tags) ks h);
    widths = items_widths ks (each CompHasBoundedWidths (λ k i. i.widths) ks h);
    operators = items_admit o ks (each (AdmitsComp o) (λ k i. i.operators) ks h);
    strict = items_strict ks (each CompIsStrict (λ k i. i.strict) ks h);
    brackets = omega (arith, items_depth d ks (each (λ k. depth_of_comp k ≤ d) (λ k i. i.low) ks h));
  };
  low = omega (arith, items_depth d ks (each (λ k. depth_of_comp k ≤ d) (λ k i. i.low) ks h));
}
  where
    each : (P : CompD → Type 0) → ((k : CompD) → IsSoundComp o d k → P k) → (ks : List CompD) → Each (IsSoundComp o d) ks → Each P ks
    each P f [] h = tt
    each P f (k ∷ ks) h = (f k h.0, each P f ks h.1)

module _ (o : Bool) (k : ℕ) (some : 1 ≤ k) (few : k ≤ 4) where
  pub configurations_sound : (names : List (List ℕ)) → All IsName names → IsSoundPart o (coll (comps_of (configurations (placements k) names)))
  configurations_sound names are = set_sound o 1 (configurations (placements k) names) (omega arith) (each_flat (IsSoundComp o 1) (λ name. map (configuration_comp name) (placements k)) names (λ name i. each_map (IsSoundComp o 1) (configuration_comp name) (placements k) (one name (All-contains IsName names name are i))))
    where
      one : (name : List ℕ) → IsName name → (os : List (Option ℕ)) → Contains (placements k) os → IsSoundComp o 1 (configuration_comp name os)
      one name is os j =
          let place = place_is k os j in
          comp_sound o 1 (full os) ([] ∷ []) (configuration_term name os) (omega (arith, full_few os, place.count)) (always_sound (full os) o) (configuration_sound o (full os) name os is (omega (arith, place.count)) (omega (arith, place.count)) place.below)

  step_sound : (states : List (List ℕ)) → All IsName states → (s : RegStep) → IsRegStep o k states s → (os : List (Option ℕ)) → IsPlace k os → IsSoundComp o 2 (step_comp s os)
  step_sound states names s valid os place =
      let n = full os + 1 in
      let m = full os in
      let below : AreBelow n os = below_more m n os (omega arith) place.below in
      let after : List (Option ℕ) = stored_from 1 s.stored m os in
      let count : length after ≡ k = length_stored 1 s.stored m os ∙ place.count in
      let within : m < n = omega arith in
      let guard = placed_sound n o (Some m ∷ os) s.guard (within, below) (All-weaker (IsLiteral o k) (AdmitsLit o) (λ l h. h.operator) s.guard valid.guard.literals) (All-weaker (IsLiteral o k) IsStrictLit (λ l h. h.strict) s.guard valid.guard.literals) in
      let from = configuration_sound o n s.from os (All-contains IsName states s.from names valid.from) (omega (arith, place.count)) (omega (arith, place.count)) below in
      let to = configuration_sound o n s.to after (All-contains IsName states s.to names valid.to) (omega (arith, count)) (omega (arith, count)) (below_stored n 1 s.stored m os within below) in
      let item : IsSoundItem o n 2 (step_item s os) = record {
        levels = (from.levels, (within, (to.levels, tt)));
        tags = (from.tags, (tt, (to.tags, tt)));
        widths = (omega arith, omega arith, (from.widths, (tt, (to.widths, tt))));
        operators = (from.operators, (tt, (to.operators, tt)));
        strict = (from.strict, (tt, (to.strict, tt)));
        low = omega (arith, from.low, to.low);
      } in
      comp_sound o 2 n _ (step_item s os) (omega (arith, full_few os, place.count)) guard item

  pub steps_sound : (states : List (List ℕ)) → All IsName states → (steps : List RegStep) → All (IsRegStep o k states) steps → (made : List CompD) → AreMade (step_comps (placements k) steps) made → IsSoundPart o (coll (comps_of made))
  steps_sound states names steps are made h =
      set_sound o 2 made (omega arith) (each_made (IsSoundComp o 2) over (step_comps (placements k) steps) made h (each_flat (IsSoundComp o 2) (λ s. map (step_comp s) (placements k)) steps (λ s i. each_map (IsSoundComp o 2) (step_comp s) (placements k) (λ os j. step_sound states names s (All-contains (IsRegStep o k states) steps s are i) os (place_is k os j)))))
    where
      over : (a b : CompD) → IsSpelledComp a b → IsSoundComp o 2 a → IsSoundComp o 2 b
      over a b is h = record {
        levels = fits_made 0 a b is h.levels;
        tags = tags_made a b is h.tags;
        widths = widths_made a b is h.widths;
        operators = admits_made o a b is h.operators;
        strict = strict_made a b is h.strict;
        low = depth_made 2 a b is h.low;
      }

  empty_below : (n m : ℕ) → AreBelow n (replicate m None)
  empty_below n zero = tt
  empty_below n (suc m) = empty_below n m

  pub first_sound : (name : List ℕ) → IsName name → IsSoundPart o (coll (comps_of (comp 0 ([] ∷ []) (configuration_term name (replicate k None)) ∷ [])))
  first_sound name is =
      let os : List (Option ℕ) = replicate k None in
      let count : length os ≡ k = length-replicate k None in
      set_sound o 1 (comp 0 ([] ∷ []) (configuration_term name os) ∷ []) (omega arith) (comp_sound o 1 0 ([] ∷ []) (configuration_term name os) (omega arith) (always_sound 0 o) (configuration_sound o 0 name os is (omega arith) (omega arith) (empty_below 0 k)), tt)

pub atoms_sound : (o : Bool) → IsSoundPart o (coll (comps_of (comp 1 ([] ∷ []) (var 0) ∷ [])))
atoms_sound o =
    set_sound o 0 (comp 1 ([] ∷ []) (var 0) ∷ []) (omega arith) (comp_sound o 0 1 ([] ∷ []) (var 0) (omega arith) (always_sound 1 o) (record { levels = omega arith; tags = tt; widths = tt; operators = tt; strict = tt; low = omega arith }), tt)

-- a tuple of five sound sets
pub five_sound : (o : Bool) (a b c d e : TermD) → IsSoundPart o a → IsSoundPart o b → IsSoundPart o c → IsSoundPart o d → IsSoundPart o e → IsSoundTerm o 0 (tup (terms_of (a ∷ b ∷ c ∷ d ∷ e ∷ [])))
five_sound o a b c d e ha hb hc hd he = record {
  levels = (ha.sound.levels, (hb.sound.levels, (hc.sound.levels, (hd.sound.levels, (he.sound.levels, tt)))));
  tags = (ha.sound.tags, (hb.sound.tags, (hc.sound.tags, (hd.sound.tags, (he.sound.tags, tt)))));
  widths = (omega arith, omega arith, (ha.sound.widths, (hb.sound.widths, (hc.sound.widths, (hd.sound.widths, (he.sound.widths, tt))))));
  operators = (ha.sound.operators, (hb.sound.operators, (hc.sound.operators, (hd.sound.operators, (he.sound.operators, tt)))));
  strict = (ha.sound.strict, (hb.sound.strict, (hc.sound.strict, (hd.sound.strict, (he.sound.strict, tt)))));
  brackets = omega (arith, ha.low, hb.low, hc.low, hd.low, he.low);
}
