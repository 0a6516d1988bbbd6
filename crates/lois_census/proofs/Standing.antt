-- Atoms that stand to one another as two others do.
use Rattle.std.proofs.Common.{◌≡◌, ℕ, ◌<◌, ◌≤◌, ◌⊎◌, inl, inr, Bool, true, false, not, ◌&&◌, List, length, refl, sym, ap, ◌∙◌, subst, arith}
use Rattle.std.proofs.lemmas.Bool.{cases_lt}
use Rattle.std.proofs.lemmas.Int.{ints}
use Rattle.std.proofs.lemmas.List.{length-map}
use Rattle.std.specs.Bool.{IsTrue, IsFalse}
use Rattle.std.specs.Prelude.{◌↔◌}
use Rattle.lois_base.proofs.Order.{equal_is_neither, below_asym, below_irrefl, equal_out, equal_refl, below_not_equal}
use Rattle.lois_base.specs.Atom.{Atom, equal, below, whole}
use Rattle.lois_base.specs.Patterns.{AreAlike}
use Rattle.lois_base.specs.Truth.{atom_at, op_holds, sampled}
use Rattle.lois_base.specs.Validity.{is_admitted}
use Rattle.lois_base.specs.declared.guards.Op.{Op}
use Rattle.lois_base.specs.declared.guards.Op.TheVariants.{Eq, Ne, Lt, AtMost}
use Rattle.lois_base.proofs.Twins.{equal_turned}
use Rattle.lois_census.specs.Alike.{StandAlike, StandsAt, StandsBelow}

not_in : (b : Bool) → IsTrue (not b) → IsFalse b
not_in true h = absurd (cc)
not_in false h = refl

-- where the one isn't below, the other is, unless they are equal
neither : (p q e : Bool) → e ≡ (not p && not q) → (IsTrue p → IsFalse q) → q ≡ (not e && not p)
neither true q e h k = k refl ∙ sym (ap (λ z. not z && false) h)
neither false true e h k = sym (ap (λ z. not z && true) h)
neither false false e h k = sym (ap (λ z. not z && true) h)

above_is : (a b : Atom) → below b a ≡ (not (equal a b) && not (below a b))
above_is a b = neither (below a b) (below b a) (equal a b) (equal_is_neither a b) (below_asym a b)

above_same : (a b x y : Atom) → equal a b ≡ equal x y → below a b ≡ below x y → below b a ≡ below y x
above_same a b x y e l =
    above_is a b ∙ (ap (λ p. not p && not (below a b)) e ∙ (ap (λ p. not (equal x y) && not p) l ∙ sym (above_is x y)))

-- ---- numbers
pub lower_number : (m n : ℕ) → m < n → IsTrue (below (whole m) (whole n))
lower_number m n l = grind (arith, ints)

pub higher_number : (m n : ℕ) → (m ≡ n → ⊥) → n ≤ m → n < m
higher_number m n apart ge =
    elim (cases_lt n m) [ inl lt ↦ lt | inr le ↦ absurd (apart (omega arith)) ]

-- ----
module _ (ordered : Bool) where
  -- equality decides, and the order where atoms are ordered
  stand_from : (a b x y : Atom) → equal a b ≡ equal x y → (IsTrue ordered → below a b ≡ below x y) → (op : Op) → IsTrue (is_admitted ordered op) → op_holds op a b ≡ op_holds op x y
  stand_from a b x y e l Eq h = e
  stand_from a b x y e l Ne h = ap not e
  stand_from a b x y e l Lt h = l h
  stand_from a b x y e l AtMost h = ap not (above_same a b x y e (l h))

  pub same_stand : (a b x y : Atom) → IsTrue (equal a b) → IsTrue (equal x y) ↔ StandAlike ordered a b x y
  same_stand a b x y h = (
    λ k. stand_from a b x y (h ∙ sym k) (λ o. (equal_out a b h).0 ∙ sym (equal_out x y k).0),
    λ s. sym (s Eq refl) ∙ h,
  )

  pub apart_stand : (a b x y : Atom) → IsFalse ordered → IsFalse (equal a b) → IsTrue (not (equal x y)) ↔ StandAlike ordered a b x y
  apart_stand a b x y none h = (
    λ k. stand_from a b x y (h ∙ sym (not_in (equal x y) k)) (λ o. absurd (cc)),
    λ s. sym (s Ne refl) ∙ ap not h,
  )

  pub below_stand : (a b x y : Atom) → IsTrue ordered → IsTrue (below a b) → IsTrue (below x y) ↔ StandAlike ordered a b x y
  below_stand a b x y some h = (
    λ k. stand_from a b x y (below_not_equal a b h ∙ sym (below_not_equal x y k)) (λ o. h ∙ sym k),
    λ s. sym (s Lt some) ∙ h,
  )

  turned : (a b x y : Atom) → StandAlike ordered a b x y → StandAlike ordered b a y x
  turned a b x y s =
      let same : equal a b ≡ equal x y = s Eq refl in
      stand_from b a y x (equal_turned b a ∙ (same ∙ equal_turned x y)) (λ o. above_same a b x y same (s Lt o))

  pub above_stand : (a b x y : Atom) → IsTrue ordered → IsTrue (below b a) → IsTrue (below y x) ↔ StandAlike ordered a b x y
  above_stand a b x y some h =
      let way = below_stand b a y x some h in
      (λ k. turned b a y x (way.0 k), λ s. way.1 (turned a b x y s))

  alone : (a x : Atom) → StandAlike ordered a a x x
  alone a x =
      stand_from a a x x (equal_refl a ∙ sym (equal_refl x)) (λ o. below_irrefl a ∙ sym (below_irrefl x))

  -- at each two positions, of which the first comes before the second
  module _ (s : List ℕ) (d : List Atom) where
    stands_at : StandsBelow ordered s (length s) d → (i j : ℕ) → i < length s → j < length s → StandsAt ordered s i j d
    stands_at h i j li lj =
        elim (cases_lt i j) [ inl lt ↦ h j lj i lt | inr ge ↦ late (cases_lt j i) ge ]
      where
        late : (j < i) ⊎ (i ≤ j) → j ≤ i → StandsAt ordered s i j d
        late (inl gt) ge = turned (atom_at (sampled s) j) (atom_at (sampled s) i) (atom_at d j) (atom_at d i) (h i li j gt)
        late (inr le) ge =
            let same : i ≡ j = omega arith in
            subst (λ k. StandsAt ordered s i k d) same (alone (atom_at (sampled s) i) (atom_at d i))

    pub stands_alike : length d ≡ length s → StandsBelow ordered s (length s) d ↔ AreAlike ordered (sampled s) d
    stands_alike count =
        let whole_count : length (sampled s) ≡ length s = length-map s whole in (
          λ h. record {
            count = whole_count ∙ sym count;
            agree = λ op admitted i j li lj. stands_at h i j (omega arith) (omega arith) op admitted;
          },
          λ h j lj i li op admitted. h.agree op admitted i j (omega arith) (omega arith),
        )

  pub alike_itself : (c : List Atom) → AreAlike ordered c c
  alike_itself c = record { count = refl; agree = λ op admitted i j li lj. refl }
