-- Comprehensions by their places: all of them, those at some places, and those of one shape.
use Rattle.std.proofs.Common.{◌≡◌, ℕ, zero, suc, ◌+◌, ◌<◌, inl, inr, ◌↔◌, Option, Some, None, List, [], ◌∷◌, ◌++◌, length, get_or, drop, map, refl, sym, ap, ◌∙◌, subst, arith}
use Rattle.std.proofs.lemmas.List.{length-map}
use Rattle.std.proofs.lemmas.Option.{slice_get-map}
use Rattle.std.specs.Prelude.{slice_get, option_map, Contains}
use Rattle.lois_base.specs.Atom.{Atom}
use Rattle.lois_base.specs.Data.{TermD, CompD, comp, CompsD, more, comps_of}
use Rattle.lois_base.specs.FormulaData.{FormulaD, any, no_formulas}
use Rattle.lois_base.specs.Tree.{comp_of}
use Rattle.lois_base.specs.Values.{SomeIsAt, OneIsAt}
use Rattle.lois_base.specs.declared.guards.Lit.{Lit}
use Rattle.lois_base.specs.declared.values.Comp.{Comp}
use Rattle.lois_base.proofs.Viewed.{rest_at}
use Rattle.lois_terms.specs.Shapes.{shape_of, item_shape}
use Rattle.lois_terms.proofs.Shapes.{one_shape}
use Rattle.lois_relate.specs.Alike.{CompsAlike, IsListed}
use Rattle.lois_relate.specs.Candidates.{with_comp, comps_at, AreCandidates}
use Rattle.lois_relate.specs.Named.{atoms_named, level_range}
use Rattle.lois_relate.specs.Relations.{HoldsWhereItemIn}
use Rattle.lois_relate.proofs.Pairs.{item_got, FoundSoFar}
use Rattle.lois_relate.proofs.Sets.{some_is_in}

-- ---- at all places
shifted : (k : CompD) (ks : List CompD) (n m : ℕ) → comps_at (k ∷ ks) (level_range (suc n) m) ≡ comps_at ks (level_range n m)
shifted k ks n zero = refl
shifted k ks n (suc m) = ap (with_comp (slice_get ks n)) (shifted k ks (suc n) m)

all_at : (ks : List CompD) → comps_at ks (level_range 0 (length ks)) ≡ comps_of ks
all_at [] = refl
all_at (k ∷ ks) = ap (more k) (shifted k ks 0 (length ks) ∙ all_at ks)

pub all_comps_at : (cs : List Comp) (places : List ℕ) → places ≡ level_range 0 (length cs) → comps_at (map comp_of cs) places ≡ comps_of (map comp_of cs)
all_comps_at cs places are =
    ap (comps_at (map comp_of cs)) (are ∙ ap (level_range 0) (sym (length-map cs comp_of))) ∙ all_at (map comp_of cs)

-- ---- one by one
pub places_are : (cs : List Comp) (places : List ℕ) (r i : ℕ) (k : Comp) → r < length places → i ≡ get_or places r 0 → i < length cs → k ≡ get_or cs i k → comps_at (map comp_of cs) (drop r places) ≡ more (comp_of k) (comps_at (map comp_of cs) (drop (r + 1) places))
places_are cs places r i k l is inside at =
    let rest = comps_at (map comp_of cs) (drop (r + 1) places) in
    ap (comps_at (map comp_of cs)) (rest_at places r 0 l) ∙ ap (λ o. with_comp o rest) (ap (slice_get (map comp_of cs)) (sym is) ∙ item_got cs (map comp_of cs) i k refl inside at)

-- ---- that have a value
module _ (t : TermD) (c d : List Atom) where
  some_from : (ks : List CompD) (i : ℕ) (k : CompD) → slice_get ks i ≡ Some k → OneIsAt k c t d → SomeIsAt (comps_of ks) c t d
  some_from [] i k e h = absurd (cc)
  some_from (q ∷ ks) zero k e h = let same : q ≡ k = cc in inl (subst (λ z. OneIsAt z c t d) (sym same) h)
  some_from (q ∷ ks) (suc i) k e h = inr (some_from ks i k e h)

  some_where : (ks : List CompD) → SomeIsAt (comps_of ks) c t d → (i : ℕ) × (k : CompD) × (slice_get ks i ≡ Some k) × OneIsAt k c t d
  some_where [] h = absurd h
  some_where (k ∷ ks) (inl h) = (0, k, refl, h)
  some_where (k ∷ ks) (inr h) = let there = some_where ks h in (suc there.0, there.1, there.2, there.3)

  module _ (ks : List CompD) where
    first_or_rest : (o : Option CompD) (rest : CompsD) → ((k : CompD) → o ≡ Some k → OneIsAt k c t d → SomeIsAt (comps_of ks) c t d) → (SomeIsAt rest c t d → SomeIsAt (comps_of ks) c t d) → SomeIsAt (with_comp o rest) c t d → SomeIsAt (comps_of ks) c t d
    first_or_rest None rest first others h = others h
    first_or_rest (Some k) rest first others (inl h) = first k refl h
    first_or_rest (Some k) rest first others (inr h) = others h

    among : (places : List ℕ) → SomeIsAt (comps_at ks places) c t d → SomeIsAt (comps_of ks) c t d
    among [] h = absurd h
    among (i ∷ places) h = first_or_rest (slice_get ks i) (comps_at ks places) (λ k e one. some_from ks i k e one) (λ g. among places g) h

    behind : (o : Option CompD) (rest : CompsD) → SomeIsAt rest c t d → SomeIsAt (with_comp o rest) c t d
    behind None rest h = h
    behind (Some k) rest h = inr h

    stands_at : (places : List ℕ) (i : ℕ) (k : CompD) (j : ℕ) → j < length places → get_or places j i ≡ i → slice_get ks i ≡ Some k → OneIsAt k c t d → SomeIsAt (comps_at ks places) c t d
    stands_at [] i k j l at e h = absurd (omega arith)
    stands_at (p ∷ places) i k zero l at e h =
        let first : slice_get ks p ≡ Some k = ap (slice_get ks) at ∙ e in
        subst (λ o. SomeIsAt (with_comp o (comps_at ks places)) c t d) (sym first) (inl h)
    stands_at (p ∷ places) i k (suc j) l at e h =
        behind (slice_get ks p) (comps_at ks places) (stands_at places i k j (omega arith) at e h)

pub candidates_suffice : (ks : List CompD) (t : TermD) (places : List ℕ) → AreCandidates ks t places → (c d : List Atom) → SomeIsAt (comps_at ks places) c t d ↔ SomeIsAt (comps_of ks) c t d
candidates_suffice ks t places all c d = (
  among t c d ks places,
  λ h. let there = some_where t c d ks h in
      let at = all there.0 there.1 c d there.2 there.3 in
      stands_at t c d ks places there.0 there.1 at.0 at.1 at.2 there.2 there.3,
)

-- nothing is found before the first candidate
pub found_starts : (n : ℕ) (sn tn : List ℕ) (k : ℕ) (h : List (List Lit)) (s : TermD) (ks : List CompD) (places : List ℕ) (f : FormulaD) → AreCandidates ks s places → f ≡ any no_formulas → FoundSoFar n sn tn k h s (comps_at ks places) (comps_of ks) f
found_starts n sn tn k h s ks places f all e = subst (FoundSoFar n sn tn k h s (comps_at ks places) (comps_of ks)) (sym e) (record {
  truth = λ c l.
      let same = candidates_suffice ks s places all (atoms_named tn c) (atoms_named (sn ++ level_range n k) c) in (
        λ x. elim x [ inl p ↦ absurd p | inr p ↦ (p.0, same.0 p.1) ],
        λ x. inr (x.0, same.1 x.1),
      );
  levels = tt;
  operators = λ o a. tt;
})

-- what says where a term is in the set of its candidates says where it is in the whole set
pub item_in_all : (ks : List CompD) (t : TermD) (places : List ℕ) (n m : ℕ) (f : FormulaD) → AreCandidates ks t places → HoldsWhereItemIn n m t (comps_at ks places) f → HoldsWhereItemIn n m t (comps_of ks) f
item_in_all ks t places n m f all holds c e k l = (
  λ h. (some_is_in t (c ++ e) (comps_of ks) c).0 ((candidates_suffice ks t places all c (c ++ e)).0 ((some_is_in t (c ++ e) (comps_at ks places) c).1 ((holds c e k l).0 h))),
  λ h. (holds c e k l).1 ((some_is_in t (c ++ e) (comps_at ks places) c).0 ((candidates_suffice ks t places all c (c ++ e)).1 ((some_is_in t (c ++ e) (comps_of ks) c).1 h))),
)

-- ---- of one shape
has_shape : (k : CompD) (t : TermD) (c d : List Atom) → OneIsAt k c t d → item_shape k ≡ shape_of t
has_shape (comp m g s) t c d (e, ext, same) = one_shape s t (c ++ e) d same

pub of_shape : (ks : List CompD) (t : TermD) (shapes places : List ℕ) → shapes ≡ map item_shape ks → ((i : ℕ) → slice_get shapes i ≡ Some (shape_of t) → Contains places i) → AreCandidates ks t places
of_shape ks t shapes places are found i k c d at one =
    found i (ap (λ z. slice_get z i) are ∙ slice_get-map item_shape ks i ∙ ap (option_map item_shape) at ∙ ap Some (has_shape k t c d one))

pub as_many_shapes : (cs : List Comp) (shapes : List ℕ) → shapes ≡ map item_shape (map comp_of cs) → length shapes ≡ length cs
as_many_shapes cs shapes are = ap length are ∙ length-map (map comp_of cs) item_shape ∙ length-map cs comp_of

-- ---- written alike
listed_at : (sn tn : List ℕ) (q : CompD) (ks : List CompD) (i : ℕ) (k : CompD) → slice_get ks i ≡ Some k → CompsAlike sn tn q k → IsListed sn tn q (comps_of ks)
listed_at sn tn q [] i k e h = absurd (cc)
listed_at sn tn q (p ∷ ks) zero k e h = let same : p ≡ k = cc in inl (subst (CompsAlike sn tn q) (sym same) h)
listed_at sn tn q (p ∷ ks) (suc i) k e h = inr (listed_at sn tn q ks i k e h)

pub alike_listed : (sn tn : List ℕ) (q : CompD) (cs : List Comp) (i : ℕ) (k : Comp) → i < length cs → k ≡ get_or cs i k → CompsAlike sn tn q (comp_of k) → IsListed sn tn q (comps_of (map comp_of cs))
alike_listed sn tn q cs i k l at h =
    listed_at sn tn q (map comp_of cs) i (comp_of k) (item_got cs (map comp_of cs) i k refl l at) h
