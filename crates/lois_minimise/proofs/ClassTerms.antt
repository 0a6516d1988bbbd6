-- The class of an item as a term, and members in pairs with their classes.
use Rattle.std.proofs.Common.{◌≡◌, ℕ, ◌+◌, Bool, ◌↔◌, List, [], ◌∷◌, ◌++◌, length, length-append, append-nil, inl, inr, refl, sym, subst, ◌∙◌, arith}
use Rattle.lois_base.specs.Atom.{Atom}
use Rattle.lois_base.specs.Data.{TermD, coll, CompD, comp, CompsD, no_comps, more, comps_of}
use Rattle.lois_base.specs.Fits.{Fits, CompFits, ItemsFit}
use Rattle.lois_base.specs.Validity.{AdmitsTerm, AdmitsComp, AdmitsItems, HasBoundedWidths, CompHasBoundedWidths, ItemsHaveBoundedWidths}
use Rattle.lois_base.specs.Values.{PointValue, point, IsIn, IsSame}
use Rattle.lois_base.specs.declared.guards.Lit.{Lit}
use Rattle.lois_base.proofs.Members.{same_refl, same_sym, same_in}
use Rattle.lois_algebra.specs.Gathered.{IsAmong, IsCompMember, IsPut}
use Rattle.lois_algebra.proofs.Among.{among_in}
use Rattle.lois_terms.specs.Collections.{IsColl}
use Rattle.lois_terms.specs.Shifted.{IsShifted}
use Rattle.lois_meaning.specs.Kinds as kinds
use Rattle.lois_meaning.proofs.Alike.{set_of_same, set_of_shift}
use Rattle.lois_meaning.proofs.Operations.{pair_same, pair_to}
use Rattle.lois_meaning.proofs.Tuples.{pair_parts}
use Rattle.lois_automata.specs.Adding.{IsMadeOfOne}
use Rattle.lois_automata.specs.Built.{AreTargets}
use Rattle.lois_automata.specs.Projections.{pair_of}
use Rattle.lois_automata.specs.Reachability.{LeadsTo}
use Rattle.lois_automata.proofs.Adding.{AddsSoFar, adds_begin, adds_more, adds_end, added_put, added_members, one_split, one_none, one_among}
use Rattle.lois_automata.proofs.Members.{raised_same}
use Rattle.lois_automata.proofs.Tuples.{leads_same}
use Rattle.lois_automata.proofs.Written.{pair_is}
use Rattle.lois_minimise.proofs.Covering.{CoversSoFar, covers_begin, covers_more, covers_end}
use Rattle.lois_minimise.specs.Classes.{IsSetOfLed, AreClassed, IsClassTerm, IsSingletonOf, IsClassedAt, AddsClass}

-- the set of one item
is_single : (t : TermD) (ks : CompsD) → ks ≡ more (comp 0 ([] ∷ []) t) no_comps → IsSingletonOf t (coll ks)
is_single t ks e = subst (λ z. IsSingletonOf t (coll z)) (sym e) one
  where
    one : IsSingletonOf t (coll (more (comp 0 ([] ∷ []) t) no_comps))
    one c w =
        let among = among_in (more (comp 0 ([] ∷ []) t) no_comps) c w in (
          λ i. there (among.1 i),
          λ s. among.0 (inl ([], record { count = refl; guard = refl }, subst (λ z. IsSame (point t z) w) (sym (append-nil c)) (same_sym w (point t c) s))),
        )
      where
        there : IsAmong (more (comp 0 ([] ∷ []) t) no_comps) c w → IsSame w (point t c)
        there (inl ([], ext, s)) = same_sym (point t c) w (subst (λ z. IsSame (point t z) w) (append-nil c) s)
        there (inl (a ∷ e, ext, s)) = absurd (omega (arith, ext.count))
        there (inr h) = absurd h

pub pushed_single : (t t' : TermD) (g : List (List Lit)) (before after : List CompD) → before ≡ [] → after ≡ before ++ comp 0 g t' ∷ [] → g ≡ [] ∷ [] → t' ≡ t → IsSingletonOf t (coll (comps_of after))
pushed_single t t' g before after e1 e2 e3 e4 = is_single t (comps_of after) (rw (e2, e1, e3, e4))

-- moves between values that are the same are between the same values in sets that are
leads_in : (s t p q p' : PointValue) → IsSame s t → IsSame p p' → LeadsTo s p q → LeadsTo t p' q
leads_in s t p q p' h k (x, i, pair) = (x, same_in x s t h i, pair_parts x p q p' q k (same_refl q) pair)

led_same : (alike p p' x : PointValue) → IsSame p p' → IsSetOfLed alike p x → IsSetOfLed alike p' x
led_same alike p p' x s h = set_of_shift (LeadsTo alike p) (LeadsTo alike p') x
    (λ q lead. leads_same alike p q p' q s (same_refl q) lead)
    (λ q lead. leads_same alike p' q p q (same_sym p p' s) (same_refl q) lead)
    h

is_set : (t : TermD) → IsColl t → (d : List Atom) → kinds.IsSet (point t d)
is_set t (ks, e) d = subst (λ z. kinds.IsSet (point z d)) (sym e) tt

-- what pairs lead to from the item
module _ (n m : ℕ) (alike item told own r : TermD) (is_told : IsShifted n m alike told) (is_own : IsSingletonOf item own) (led : AreTargets (n + m) told own r) where
  pub class_term : IsClassTerm n m alike item r
  class_term c e l k q = (there, back)
    where
      d : List Atom
      d = c ++ e

      longer : length d ≡ n + m
      longer = length-append c e ∙ omega (arith, l, k)

      same_told : IsSame (point told d) (point alike c)
      same_told = raised_same n m alike told is_told c e l k

      there : IsIn q (point r d) → LeadsTo (point alike c) (point item d) q
      there i =
          let f = (led d longer q).0 i in
          leads_in (point told d) (point alike c) f.0 q (point item d) same_told ((is_own d f.0).0 f.1) f.2

      back : LeadsTo (point alike c) (point item d) q → IsIn q (point r d)
      back lead = (led d longer q).1 (
        point item d,
        (is_own d (point item d)).1 (same_refl (point item d)),
        leads_in (point alike c) (point told d) (point item d) q (point item d) (same_sym (point told d) (point alike c) same_told) (same_refl (point item d)) lead,
      )

-- members in pairs with their classes
module _ (n m : ℕ) (g : List (List Lit)) (alike item class : TermD) (set : IsColl class) (is : IsClassTerm n m alike item class) where
  own_class : (c e : List Atom) → length c ≡ n → length e ≡ m → IsSetOfLed (point alike c) (point item (c ++ e)) (point class (c ++ e))
  own_class c e l k = (is_set class set (c ++ e), is c e l k)

  classed_is : (c : List Atom) → length c ≡ n → (w : PointValue) → IsCompMember (comp m g (pair_of item class)) c w ↔ IsMadeOfOne (IsClassedAt alike c) (IsCompMember (comp m g item) c) w
  classed_is c l w = (there, back)
    where
      there : IsCompMember (comp m g (pair_of item class)) c w → IsMadeOfOne (IsClassedAt alike c) (IsCompMember (comp m g item) c) w
      there (e, ext, s) =
          let d = c ++ e in
          (point item d, (e, ext, same_refl (point item d)), (point class d, pair_to (point (pair_of item class) d) w (point item d) (point class d) s (pair_is item class d), own_class c e l ext.count))

      back : IsMadeOfOne (IsClassedAt alike c) (IsCompMember (comp m g item) c) w → IsCompMember (comp m g (pair_of item class)) c w
      back (p, (e, ext, s), (x, pair, led)) =
          let d = c ++ e in
          let own : IsSetOfLed (point alike c) p (point class d) = led_same (point alike c) (point item d) p (point class d) s (own_class c e l ext.count) in
          let same : IsSame (point class d) x = set_of_same (LeadsTo (point alike c) p) (point class d) x own led in
          (e, ext, pair_same (point (pair_of item class) d) w (point item d) (point class d) p x s same (pair_is item class d) pair)

  pub adds_class : (before after : CompsD) → IsPut (comp m g (pair_of item class)) before after → Fits (n + m) class → ((o : Bool) → AdmitsTerm o item → AdmitsTerm o alike → AdmitsTerm o class) → (HasBoundedWidths alike → HasBoundedWidths class) → AddsClass n (comp m g item) alike before after
  adds_class before after put fits admits widths = record {
    adds = added_put n (comp m g (pair_of item class)) _ _ _ _ before after put classed_is
        (λ f. (f.0, f.1, (f.2, (fits, tt)))) (λ o a. (a.0.0, (a.0.1, (admits o a.0.1 a.1, tt)))) (λ u. (omega arith, omega arith, (u.0, (widths u.1, tt))));
    each = λ c l p h.
        let d = c ++ h.0 in (
          point (pair_of item class) d,
          (put.members c (point (pair_of item class) d)).1 (inr (h.0, h.1, same_refl (point (pair_of item class) d))),
          (
            point class d,
            pair_parts (point (pair_of item class) d) (point item d) (point class d) p (point class d) h.2 (same_refl (point class d)) (pair_is item class d),
            led_same (point alike c) (point item d) p (point class d) h.2 (own_class c h.0 l h.1.count),
          ),
        );
  }

pub are_classed : (n : ℕ) (nodes made : CompsD) (alike : TermD) → ((c : List Atom) → length c ≡ n → (w : PointValue) → IsIn w (point (coll made) c) ↔ IsMadeOfOne (IsClassedAt alike c) (IsAmong nodes c) w) →
    ((c : List Atom) → length c ≡ n → (p : PointValue) → IsAmong nodes c p → (y : PointValue) × IsAmong made c y × IsClassedAt alike c p y) →
    (c : List Atom) → length c ≡ n → AreClassed (point (coll nodes) c) (point alike c) (point (coll made) c)
are_classed n nodes made alike same each c l = record {
  classed = λ y i. (one_among (IsClassedAt alike) nodes c y).0 ((same c l y).0 i);
  each = λ p i.
      let f = each c l p ((among_in nodes c p).1 i) in
      (f.0, (among_in made c f.0).0 f.1, f.2);
}

-- as a loop goes over the nodes: members with their classes, and one for each node that was met
module _ (n : ℕ) (nodes : CompsD) (alike : TermD) where
  abbrev pub ClassesSoFar : CompsD → CompsD → Type 0
  ClassesSoFar rest made =
      AddsSoFar n (λ c. IsMadeOfOne (IsClassedAt alike c) (IsAmong rest c)) (λ c. IsMadeOfOne (IsClassedAt alike c) (IsAmong nodes c)) (ItemsFit n nodes) (λ o. AdmitsItems o nodes × AdmitsTerm o alike) (ItemsHaveBoundedWidths nodes × HasBoundedWidths alike) no_comps made ×
      CoversSoFar n nodes rest (λ c p. (y : PointValue) × IsAmong made c y × IsClassedAt alike c p y)

  pub classes_begin : (rest made : CompsD) → rest ≡ nodes → made ≡ no_comps → ClassesSoFar rest made
  classes_begin rest made e empty = subst (λ z. ClassesSoFar z made) (sym e) (subst (λ z. ClassesSoFar nodes z) (sym empty) (adds_begin n _ _ _ _ no_comps, covers_begin n nodes nodes _ refl))

  pub classes_more : (rest next made longer : CompsD) (k : CompD) → rest ≡ more k next → (ItemsFit n nodes → CompFits n k) → ((o : Bool) → AdmitsItems o nodes → AdmitsComp o k) → (ItemsHaveBoundedWidths nodes → CompHasBoundedWidths k) → AddsClass n k alike made longer → ClassesSoFar rest made → ClassesSoFar next longer
  classes_more rest next made longer k e fits admits widths add before = (
    adds_more n _ _ _ _ no_comps _ _ _ _ _ _ made longer (one_split (IsClassedAt alike) rest next k e) fits (λ o a. (admits o a.0, a.1)) (λ u. (widths u.0, u.1)) before.0 add.adds,
    covers_more n nodes rest next k (λ c p. (y : PointValue) × IsAmong made c y × IsClassedAt alike c p y) (λ c p. (y : PointValue) × IsAmong longer c y × IsClassedAt alike c p y) e
        (λ c w l h. (h.0, (add.adds.members c l h.0).1 (inl h.1), h.2)) (λ c w l h. add.each c l w h) before.1,
  )

  pub classes_end : (rest made : CompsD) → rest ≡ no_comps → ClassesSoFar rest made → (c : List Atom) → length c ≡ n → AreClassed (point (coll nodes) c) (point alike c) (point (coll made) c)
  classes_end rest made e before = are_classed n nodes made alike
      (added_members n _ _ _ _ made (adds_end n _ _ _ _ no_comps _ made (one_none (IsClassedAt alike) rest e) before.0))
      (covers_end n nodes rest (λ c p. (y : PointValue) × IsAmong made c y × IsClassedAt alike c p y) e before.1)
