-- A comprehension of a normal set of tagged pairs makes all pairs of one tag.
use Rattle.std.proofs.Common.{◌≡◌, ℕ, zero, suc, ◌+◌, ◌%◌, ◌<◌, ◌≤◌, Bool, false, cond, not, List, [], ◌∷◌, ◌++◌, length, map, ◌⊎◌, refl, sym, ap, ◌∙◌, subst, arith, true≢false}
use mathlib.Core.Logic.{inl, inr}
use Rattle.std.specs.Prelude.{IsTrue, IsFalse}
use Rattle.std.proofs.lemmas.List.{length-map, get_or-map, nil_from_length}
use Rattle.lois_base.specs.Atom.{Atom, equal, whole}
use Rattle.lois_base.specs.Data.{TermD, var, tag, tup, coll, TermsD, no_terms, term, CompD, comp, CompsD}
use Rattle.lois_base.specs.Fits.{Fits, ConstraintFits, CompFits}
use Rattle.lois_base.specs.Normal.{Occurs, IsIrredundant}
use Rattle.lois_base.specs.Patterns.{Agree, AreAlike}
use Rattle.lois_base.specs.Truth.{atom_at}
use Rattle.lois_base.specs.Validity.{is_admitted, AdmitsConstraint, AdmitsComp}
use Rattle.lois_base.specs.Values.{PointValue, point, IsExtension, MakesAt, InAt, IsSame, IsIn, SameAt, SamePartsAt}
use Rattle.lois_base.specs.declared.guards.Lit.{Lit}
use Rattle.lois_base.specs.declared.guards.Op.{Op}
use Rattle.lois_base.specs.declared.guards.Op.TheVariants.{Eq, Ne, Lt, AtMost}
use Rattle.lois_base.proofs.Members.{same_sym}
use Rattle.lois_base.proofs.Order.{equal_refl, equal_sym, equal_respects, same_truth}
use Rattle.lois_base.proofs.Truths.{holds_alike}
use Rattle.lois_base.proofs.Twins.{equal_turned}
use Rattle.lois_make.specs.MadeTree.{made_tag}
use Rattle.lois_make.specs.MadeValue.{tagged, IsTagged, IsMade}

-- The comprehension, inside no levels, makes exactly the pairs of different atoms with this tag.
pub record IsOrbit (name : List ℕ) (k : CompD) : Type 0 where
  pub all : (a b : Atom) → IsFalse (equal a b) → (u : PointValue) × MakesAt u.term_of u.choice k [] × IsSame (tagged name a b) u
  pub only : (other : List ℕ) (a b : Atom) (u : PointValue) → MakesAt u.term_of u.choice k [] → IsSame (tagged other a b) u → other ≡ name

-- a term whose value is a tagged pair is one
abbrev item : List ℕ → ℕ → ℕ → TermD
item name i j = tup (term (tag name) (term (var i) (term (var j) no_terms)))

pub record IsPair (name : List ℕ) (a b : Atom) (t : TermD) (e : List Atom) : Type 0 where
  pub i : ℕ
  pub j : ℕ
  pub is : t ≡ item name i j
  pub first : IsTrue (equal a (atom_at e i))
  pub second : IsTrue (equal b (atom_at e j))

-- one level, and two, as the last parts of a tuple
one_var : (x : ℕ) (c : List Atom) (ss : TermsD) (d : List Atom) → SamePartsAt (term (var x) no_terms) c ss d →
    (j : ℕ) × (ss ≡ term (var j) no_terms) × IsTrue (equal (atom_at c x) (atom_at d j))
one_var x c no_terms d h = absurd h
one_var x c (term (var j) no_terms) d h = (j, refl, h.0)
one_var x c (term (var j) (term t ts)) d h = absurd h.1
one_var x c (term (tag n) rest) d h = absurd h.0
one_var x c (term (tup ts) rest) d h = absurd h.0
one_var x c (term (coll ks) rest) d h = absurd h.0

two_vars : (x y : ℕ) (c : List Atom) (ss : TermsD) (d : List Atom) → SamePartsAt (term (var x) (term (var y) no_terms)) c ss d →
    (i j : ℕ) × (ss ≡ term (var i) (term (var j) no_terms)) × IsTrue (equal (atom_at c x) (atom_at d i)) × IsTrue (equal (atom_at c y) (atom_at d j))
two_vars x y c no_terms d h = absurd h
two_vars x y c (term (var i) rest) d h = let last = one_var y c rest d h.1 in (i, last.0, ap (λ z. term (var i) z) last.1, h.0, last.2)
two_vars x y c (term (tag n) rest) d h = absurd h.0
two_vars x y c (term (tup ts) rest) d h = absurd h.0
two_vars x y c (term (coll ks) rest) d h = absurd h.0

pair_of_parts : (name : List ℕ) (a b : Atom) (ss : TermsD) (e : List Atom) → SamePartsAt (term (tag name) (term (var 0) (term (var 1) no_terms))) (a ∷ b ∷ []) ss e → IsPair name a b (tup ss) e
pair_of_parts name a b no_terms e h = absurd h
pair_of_parts name a b (term (tag n) rest) e h =
    let levels = two_vars 0 1 (a ∷ b ∷ []) rest e h.1 in
    let is : tup (term (tag n) rest) ≡ item name levels.0 levels.1 = ap (λ z. tup (term (tag z) rest)) (sym h.0) ∙ ap (λ z. tup (term (tag name) z)) levels.2 in
    record { i = levels.0; j = levels.1; is = is; first = levels.3; second = levels.4 }
pair_of_parts name a b (term (var i) rest) e h = absurd h.0
pair_of_parts name a b (term (tup ts) rest) e h = absurd h.0
pair_of_parts name a b (term (coll ks) rest) e h = absurd h.0

pair_of : (name : List ℕ) (a b : Atom) (t : TermD) (e : List Atom) → IsSame (tagged name a b) (point t e) → IsPair name a b t e
pair_of name a b (tup ss) e s = pair_of_parts name a b ss e s
pair_of name a b (var i) e s = absurd s
pair_of name a b (tag n) e s = absurd s
pair_of name a b (coll ks) e s = absurd s

tag_of_parts : TermsD → List ℕ
tag_of_parts (term (tag n) ts) = n
tag_of_parts _ = []

tag_of : TermD → List ℕ
tag_of (tup ts) = tag_of_parts ts
tag_of _ = []

one_tag : (name other : List ℕ) (i j k l : ℕ) → item name i j ≡ item other k l → name ≡ other
unfolding tag_of tag_of_parts
one_tag name other i j k l e = ap tag_of e

-- tests that agree at two numbers agree at all that are one of them
agree : (f g : ℕ → ℕ → Bool) (i j p q : ℕ) → (i ≡ p) ⊎ (j ≡ p) → (i ≡ q) ⊎ (j ≡ q) → f i i ≡ g i i → f i j ≡ g i j → f j i ≡ g j i → f j j ≡ g j j → f p q ≡ g p q
agree f g i j p q (inl x) (inl y) ii ij ji jj = subst (λ z. f p z ≡ g p z) y (subst (λ z. f z i ≡ g z i) x ii)
agree f g i j p q (inl x) (inr y) ii ij ji jj = subst (λ z. f p z ≡ g p z) y (subst (λ z. f z j ≡ g z j) x ij)
agree f g i j p q (inr x) (inl y) ii ij ji jj = subst (λ z. f p z ≡ g p z) y (subst (λ z. f z i ≡ g z i) x ji)
agree f g i j p q (inr x) (inr y) ii ij ji jj = subst (λ z. f p z ≡ g p z) y (subst (λ z. f z j ≡ g z j) x jj)

-- two levels with different atoms, one of which each level is
module _ (m i j : ℕ) (covers : (p : ℕ) → p < m → (i ≡ p) ⊎ (j ≡ p)) (c d : List Atom) (count : length c ≡ m) (count' : length d ≡ m)
    (apart : IsFalse (equal (atom_at c i) (atom_at c j))) (apart' : IsFalse (equal (atom_at d i) (atom_at d j))) where
  tests_agree : (p q : ℕ) → p < m → q < m → equal (atom_at c p) (atom_at c q) ≡ equal (atom_at d p) (atom_at d q)
  tests_agree p q p_in q_in =
      agree (λ x y. equal (atom_at c x) (atom_at c y)) (λ x y. equal (atom_at d x) (atom_at d y)) i j p q (covers p p_in) (covers q q_in)
      (equal_refl (atom_at c i) ∙ sym (equal_refl (atom_at d i))) (apart ∙ sym apart')
      (equal_turned (atom_at c j) (atom_at c i) ∙ (apart ∙ (sym apart' ∙ equal_turned (atom_at d i) (atom_at d j)))) (equal_refl (atom_at c j) ∙ sym (equal_refl (atom_at d j)))

  operators_agree : (op : Op) → IsTrue (is_admitted false op) → Agree op c d
  operators_agree Eq h p q p_in q_in = tests_agree p q (omega arith) (omega arith)
  operators_agree Ne h p q p_in q_in = ap not (tests_agree p q (omega arith) (omega arith))
  operators_agree Lt h p q p_in q_in = absurd (true≢false (sym h))
  operators_agree AtMost h p q p_in q_in = absurd (true≢false (sym h))

  alike : AreAlike false c d
  alike = record { count = count ∙ sym count'; agree = operators_agree }

-- a comprehension of a pair at two levels, met at a choice
module _ (name : List ℕ) (m : ℕ) (g : List (List Lit)) (t : TermD) (i j : ℕ) (is : t ≡ item name i j) (i_in : i < m) (j_in : j < m) (covers : (p : ℕ) → p < m → (i ≡ p) ⊎ (j ≡ p))
    (fits : ConstraintFits m g) (admits : AdmitsConstraint false g) (e : List Atom) (ext : IsExtension [] m g e) (apart : IsFalse (equal (atom_at e i) (atom_at e j))) where
  abbrev put : Atom → Atom → Atom → Atom
  put a b x = cond (equal (atom_at e i) x) a b

  abbrev moved : Atom → Atom → List Atom
  moved a b = map (put a b) e

  put_at : (a b : Atom) (p : ℕ) → p < m → atom_at (moved a b) p ≡ put a b (atom_at e p)
  put_at a b p p_in = get_or-map (put a b) e p (whole 0) (whole 0) (omega (arith, ext.count))

  first_is : (a b : Atom) → atom_at (moved a b) i ≡ a
  first_is a b = put_at a b i i_in ∙ ap (λ z. cond z a b) (equal_refl (atom_at e i))

  second_is : (a b : Atom) → atom_at (moved a b) j ≡ b
  second_is a b = put_at a b j j_in ∙ ap (λ z. cond z a b) apart

  moved_apart : (a b : Atom) → IsFalse (equal a b) → IsFalse (equal (atom_at (moved a b) i) (atom_at (moved a b) j))
  moved_apart a b differ = ap (λ z. equal z (atom_at (moved a b) j)) (first_is a b) ∙ (ap (λ z. equal a z) (second_is a b) ∙ differ)

  moved_extends : (a b : Atom) → IsFalse (equal a b) → IsExtension [] m g (moved a b)
  moved_extends a b differ =
      let count : length (moved a b) ≡ m = length-map e (put a b) ∙ ext.count in
      let same = alike m i j covers e (moved a b) ext.count count apart (moved_apart a b differ) in
      record { count = count; guard = sym (holds_alike false e (moved a b) same g (subst (λ z. ConstraintFits z g) (sym ext.count) fits) admits) ∙ ext.guard }

  moved_is : (a b : Atom) → IsSame (tagged name a b) (point (item name i j) (moved a b))
  moved_is a b = (refl, (subst (λ z. IsTrue (equal a z)) (sym (first_is a b)) (equal_refl a), (subst (λ z. IsTrue (equal b z)) (sym (second_is a b)) (equal_refl b), tt)))

  orbit : IsOrbit name (comp m g t)
  orbit = record {
    all = λ a b differ. (point t (moved a b), (moved a b, moved_extends a b differ, refl, refl), subst (λ z. SameAt (tagged name a b).term_of (tagged name a b).choice z (moved a b)) (sym is) (moved_is a b));
    only = λ other a b u makes s.
        let pair = pair_of other a b u.term_of u.choice s in
        one_tag other name pair.i pair.j i j (sym pair.is ∙ (makes.2 ∙ is));
  }

made_at : (n : ℕ) (w : PointValue) → IsMade n w → (j : ℕ) × (j < n) × IsTagged (made_tag j) w
made_at zero w h = absurd h
made_at (suc n) w (inl h) = let found = made_at n w h in (found.0, omega (arith, found.1), found.2)
made_at (suc n) w (inr h) = (n, omega arith, h)

-- its tag is one of the first n and of the seven, and it has a member that is in none of the others
pub record HasOwnTag (n : ℕ) (k : CompD) (others : CompsD) : Type 0 where
  pub rank : ℕ
  pub low : rank < 7
  pub early : rank < n
  pub orbit : IsOrbit (made_tag rank) k
  pub own : PointValue
  pub tagged : IsTagged (made_tag rank) own
  pub alone : IsIn own (point (coll others) []) → ⊥

pub own_tag : (n m : ℕ) (g : List (List Lit)) (t : TermD) (others : CompsD) (u : List (List Lit)) → IsIrredundant m g t others u 0 → CompFits 0 (comp m g t) → AdmitsComp false (comp m g t) →
    ((w : PointValue) → MakesAt w.term_of w.choice (comp m g t) [] → IsMade n w) → HasOwnTag n (comp m g t) others
own_tag n m g t others u lean fits admits made =
    let e = lean.own.1 in
    let none : lean.own.0 ≡ [] = nil_from_length lean.own.0 lean.own.2.count in
    let ext : IsExtension [] m g lean.own.1 = subst (λ z. IsExtension z m g e) none lean.own.3 in
    let alone : InAt t lean.own.1 others [] → ⊥ = subst (λ z. InAt t (z ++ e) others z → ⊥) none lean.own.4 in
    let v : PointValue = point t lean.own.1 in
    let found = made_at n v (made v (lean.own.1, ext, refl, refl)) in
    let a = found.2.0 in
    let b = found.2.1.0 in
    let tag_is : made_tag found.0 ≡ made_tag (found.0 % 7) = ap (λ (d : ℕ). 107 ∷ (48 + d) ∷ []) (rank_again found.0) in
    let pair = pair_of (made_tag found.0) a b t e (same_sym v (tagged (made_tag found.0) a b) found.2.1.1.1) in
    let is : t ≡ item (made_tag (found.0 % 7)) pair.i pair.j = pair.is ∙ ap (λ z. item z pair.i pair.j) tag_is in
    let levels : Fits (0 + m) (item (made_tag found.0) pair.i pair.j) = subst (λ z. Fits (0 + m) z) pair.is fits.2 in
    let i_in : pair.i < m = omega (arith, levels.1.0) in
    let j_in : pair.j < m = omega (arith, levels.1.1.0) in
    let covers : (p : ℕ) → p < m → (pair.i ≡ p) ⊎ (pair.j ≡ p) = λ p below. at_levels (made_tag found.0) pair.i pair.j p (subst (λ z. Occurs p z) pair.is (lean.used p (omega arith) (omega arith))) in
    let apart : equal (atom_at e pair.i) (atom_at e pair.j) ≡ false = sym (equal_respects a (atom_at e pair.i) b (atom_at e pair.j) pair.first pair.second) ∙ found.2.1.1.0 in
    let guard_fits : ConstraintFits m g = subst (λ (z : ℕ). ConstraintFits z g) (zero_and m) fits.1 in
    record {
      rank = found.0 % 7;
      low = omega arith;
      early = omega (arith, found.1, rank_most found.0);
      orbit = orbit (made_tag (found.0 % 7)) m g t pair.i pair.j is i_in j_in covers guard_fits admits.0 e ext apart;
      own = v;
      tagged = subst (λ z. IsTagged z v) tag_is found.2;
      alone = λ h. alone (h.0.term_of, h.0.choice, h.1, h.2);
    }
  where
    rank_again : (k : ℕ) → k % 7 ≡ (k % 7) % 7
    rank_again k = omega arith

    rank_most : (k : ℕ) → k % 7 ≤ k
    rank_most k = omega arith

    zero_and : (k : ℕ) → 0 + k ≡ k
    zero_and k = omega arith

    at_levels : (name : List ℕ) (i j p : ℕ) → Occurs p (item name i j) → (i ≡ p) ⊎ (j ≡ p)
    at_levels name i j p (inl h) = absurd h
    at_levels name i j p (inr (inl h)) = inl h
    at_levels name i j p (inr (inr (inl h))) = inr h
    at_levels name i j p (inr (inr (inr h))) = absurd h
