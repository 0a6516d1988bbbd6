-- What a round that doesn't leave every member equivalent lowers: the number of lists of k numbers below k at which a member of size k
-- is false where rounds make members weaker, and true where they make them stronger.
use Rattle.std.proofs.Common.{◌≡◌, ℕ, ◌+◌, ◌<◌, ◌≤◌, inl, inr, Bool, true, false, List, [], ◌∷◌, length, refl, sym, ◌∙◌, subst, arith}
use Rattle.std.proofs.lemmas.Bool.{cases_lt}
use Rattle.std.proofs.lemmas.List.{length-map}
use Rattle.std.proofs.lemmas.List.Elements.{All-head, All-tail}
use Rattle.std.specs.List.{All, AllZip}
use Rattle.lois_base.proofs.Samples.{ranks, length_ranks, ranks_small, ranks_alike}
use Rattle.lois_base.proofs.Truths.{holds_ordered}
use Rattle.lois_base.specs.Atom.{Atom, whole}
use Rattle.lois_base.specs.Fits.{ConstraintFits}
use Rattle.lois_base.specs.Truth.{holds, sampled}
use Rattle.lois_base.specs.declared.guards.Lit.{Lit}
use Rattle.lois_rounds.specs.Families.{MemberD, MemberFits, FamilyD, FamilyFits, IsEquivalent, IsWeakened, AreEquivalent, AreWeakened}
use Rattle.lois_rounds.specs.Rounds.{OnlyWeakens, OnlyStrengthens, Changes}
use Rattle.lois_rounds.proofs.Counts.{count_lists, IsSample, Within, count_at_most, count_equal}

-- whether the constraint holds at a list of numbers
abbrev pub at_sample : List (List Lit) → List ℕ → Bool
at_sample g s = holds (sampled s) g

abbrev member_count : Bool → MemberD → ℕ
member_count t m = count_lists t m.0 m.0 (at_sample m.1)

-- at how many lists of k numbers below k a member of size k has the truth t
abbrev pub sample_count : Bool → FamilyD → ℕ
sample_count t [] = 0
sample_count t (m ∷ f) = member_count t m + sample_count t f

-- the same size k, and n has the truth t only at choices of k atoms at which m has it
record Loses (t : Bool) (m n : MemberD) : Type 0 where
  size : m.0 ≡ n.0
  truth : (c : List Atom) → length c ≡ m.0 → holds c n.1 ≡ t → holds c m.1 ≡ t

-- what has the truth t exactly where another has it has the same truth
same_where : (t p q : Bool) → (p ≡ t → q ≡ t) → (q ≡ t → p ≡ t) → p ≡ q
same_where true true q h k = sym (h refl)
same_where true false true h k = k refl
same_where true false false h k = refl
same_where false false q h k = sym (h refl)
same_where false true false h k = k refl
same_where false true true h k = refl

module _ (t : Bool) (k : ℕ) (g h : List (List Lit)) (loses : (c : List Atom) → length c ≡ k → holds c h ≡ t → holds c g ≡ t) where
  within : Within t k k (at_sample h) (at_sample g)
  within s sample e = loses (sampled s) (length-map s whole ∙ sample.count) e

  fewer_samples : count_lists t k k (at_sample h) ≤ count_lists t k k (at_sample g)
  fewer_samples = count_at_most t k k (at_sample h) (at_sample g) within

  -- with as many lists of numbers, the truth is the same at each choice: small numbers stand as its atoms do
  same_truth : ConstraintFits k g → ConstraintFits k h → count_lists t k k (at_sample g) ≤ count_lists t k k (at_sample h) → (c : List Atom) → length c ≡ k → holds c g ≡ holds c h
  same_truth g_fits h_fits as_many c count =
      let s : List ℕ = ranks c in
      let sample : IsSample k k s =
      record { count = length_ranks c ∙ count; small = subst (λ n. All (λ i. i < n) s) count (ranks_small c) } in
      let at_g : holds c g ≡ at_sample g s = holds_ordered c (sampled s) (ranks_alike c) g (subst (λ n. ConstraintFits n g) (sym count) g_fits) in
      let at_h : holds c h ≡ at_sample h s = holds_ordered c (sampled s) (ranks_alike c) h (subst (λ n. ConstraintFits n h) (sym count) h_fits) in
      at_g ∙ same_where t (at_sample g s) (at_sample h s) (count_equal t k k (at_sample h) (at_sample g) within as_many s sample) (within s sample) ∙ sym at_h

module _ (t : Bool) where
  member_at_most : (m n : MemberD) → Loses t m n → member_count t n ≤ member_count t m
  member_at_most m n h =
      subst (λ k. count_lists t k k (at_sample n.1) ≤ member_count t m) h.size (fewer_samples t m.0 m.1 n.1 h.truth)

  member_equivalent : (m n : MemberD) → Loses t m n → MemberFits m → MemberFits n → member_count t m ≤ member_count t n → IsEquivalent m n
  member_equivalent m n h m_fits n_fits as_many =
      record {
        size = h.size;
        truth =
            same_truth t m.0 m.1 n.1 h.truth m_fits (subst (λ k. ConstraintFits k n.1) (sym h.size) n_fits)
            (subst (λ k. member_count t m ≤ count_lists t k k (at_sample n.1)) (sym h.size) as_many);
      }

  family_at_most : (f g : FamilyD) → AllZip (Loses t) f g → sample_count t g ≤ sample_count t f
  family_at_most [] [] h = omega arith
  family_at_most [] (n ∷ g) h = absurd h
  family_at_most (m ∷ f) [] h = absurd h
  family_at_most (m ∷ f) (n ∷ g) h = omega (arith, member_at_most m n h.0, family_at_most f g h.1)

  family_equivalent : (f g : FamilyD) → AllZip (Loses t) f g → FamilyFits f → FamilyFits g → sample_count t f ≤ sample_count t g → AreEquivalent f g
  family_equivalent [] [] h f_fits g_fits as_many = tt
  family_equivalent [] (n ∷ g) h f_fits g_fits as_many = absurd h
  family_equivalent (m ∷ f) [] h f_fits g_fits as_many = absurd h
  family_equivalent (m ∷ f) (n ∷ g) h f_fits g_fits as_many = (
    member_equivalent m n h.0 (All-head MemberFits m f f_fits) (All-head MemberFits n g g_fits) (omega (arith, family_at_most f g h.1)),
    family_equivalent f g h.1 (All-tail MemberFits m f f_fits) (All-tail MemberFits n g g_fits) (omega (arith, member_at_most m n h.0)),
  )

  family_below : (f g : FamilyD) → AllZip (Loses t) f g → FamilyFits f → FamilyFits g → (AreEquivalent f g → ⊥) → sample_count t g < sample_count t f
  family_below f g h f_fits g_fits differ =
      elim (cases_lt (sample_count t g) (sample_count t f)) [ inl lt ↦ lt | inr ge ↦ absurd (differ (family_equivalent f g h f_fits g_fits ge)) ]

-- what is weaker is false only where the other is
weaker_loses : (m n : MemberD) → IsWeakened m n → Loses false m n
weaker_loses m n h =
    record { size = h.size; truth = λ c count. go (holds c m.1) (holds c n.1) (h.truth c count) }
  where
    go : (p q : Bool) → (p ≡ true → q ≡ true) → q ≡ false → p ≡ false
    go true q h e = absurd (cc (h refl, e))
    go false q h e = refl

stronger_loses : (m n : MemberD) → IsWeakened n m → Loses true m n
stronger_loses m n h =
    record { size = sym h.size; truth = λ c count. h.truth c (count ∙ sym h.size) }

weakened_loses : (f g : FamilyD) → AreWeakened f g → AllZip (Loses false) f g
weakened_loses [] [] h = tt
weakened_loses [] (n ∷ g) h = absurd h
weakened_loses (m ∷ f) [] h = absurd h
weakened_loses (m ∷ f) (n ∷ g) h = (weaker_loses m n h.0, weakened_loses f g h.1)

strengthened_loses : (f g : FamilyD) → AreWeakened g f → AllZip (Loses true) f g
strengthened_loses [] [] h = tt
strengthened_loses [] (n ∷ g) h = absurd h
strengthened_loses (m ∷ f) [] h = absurd h
strengthened_loses (m ∷ f) (n ∷ g) h = (stronger_loses m n h.0, strengthened_loses f g h.1)

module _ (leads : FamilyD → FamilyD → Type 0) (f g : FamilyD) (h : Changes leads f g) where
  differ : AreEquivalent f g → ⊥
  differ same = h.changed (g, h.led, same)

  pub grows_below : OnlyWeakens leads → sample_count false g < sample_count false f
  grows_below weakens =
      family_below false f g (weakened_loses f g (weakens f g h.from_fits h.led)) h.from_fits h.to_fits differ

  pub shrinks_below : OnlyStrengthens leads → sample_count true g < sample_count true f
  shrinks_below strengthens =
      family_below true f g (strengthened_loses f g (strengthens f g h.from_fits h.led)) h.from_fits h.to_fits differ
