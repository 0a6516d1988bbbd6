-- Samples whose numbers stand alike.
use Rattle.std.proofs.Common.{◌≡◌, ℕ, ◌<◌, ◌↔◌, true, false, not, List, length, get_or, sym, ap, ◌∙◌, subst, arith}
use Rattle.std.proofs.lemmas.Bool.{lt-ltb, ltb-true, false≢true}
use Rattle.std.proofs.lemmas.List.{get_or-map, length-map}
use Rattle.std.specs.Bool.{IsTrue}
use Rattle.lois_base.specs.Atom.{equal, below, whole}
use Rattle.lois_base.specs.Patterns.{Agree, AreAlike}
use Rattle.lois_base.specs.Truth.{atom_at, sampled}
use Rattle.lois_base.specs.Validity.{is_admitted}
use Rattle.lois_base.specs.declared.guards.Op.{Op}
use Rattle.lois_base.specs.declared.guards.Op.TheVariants.{Eq, Ne, Lt, AtMost}
use Rattle.lois_base.proofs.Order.{equal_refl, numbers_same, same_truth}
use Rattle.lois_base.proofs.Samples.{below_whole}

pub same_numbers : (m n : ℕ) → m ≡ n → IsTrue (equal (whole m) (whole n))
same_numbers m n e = subst (λ k. IsTrue (equal (whole m) (whole k))) e (equal_refl (whole m))

number_at : (s : List ℕ) (i : ℕ) → i < length s → atom_at (sampled s) i ≡ whole (get_or s i 0)
number_at s i l = get_or-map whole s i 0 (whole 0) l

-- the numbers at two positions are equal, or one below the other, in both samples or in neither
abbrev pub EqualAlike : List ℕ → List ℕ → Type 0
EqualAlike s r = (i j : ℕ) → i < length s → j < length s → (get_or s i 0 ≡ get_or s j 0) ↔ (get_or r i 0 ≡ get_or r j 0)

abbrev pub BelowAlike : List ℕ → List ℕ → Type 0
BelowAlike s r = (i j : ℕ) → i < length s → j < length s → (get_or s i 0 < get_or s j 0) ↔ (get_or r i 0 < get_or r j 0)

module _ (s r : List ℕ) (count : length r ≡ length s) where
  inside : (i : ℕ) → i < length (sampled s) → i < length s
  inside i l = omega (arith, l, length-map s whole)

  there : (i : ℕ) → i < length s → i < length r
  there i l = omega (arith, l, count)

  equal_agree : EqualAlike s r → (i j : ℕ) → i < length s → j < length s → equal (atom_at (sampled s) i) (atom_at (sampled s) j) ≡ equal (atom_at (sampled r) i) (atom_at (sampled r) j)
  equal_agree h i j l m =
      rw (number_at s i l, number_at s j m, number_at r i (there i l), number_at r j (there j m))
      (same_truth _ _ (λ e. same_numbers _ _ ((h i j l m).0 (numbers_same _ _ e))) (λ e. same_numbers _ _ ((h i j l m).1 (numbers_same _ _ e))))

  below_agree : BelowAlike s r → (i j : ℕ) → i < length s → j < length s → below (atom_at (sampled s) i) (atom_at (sampled s) j) ≡ below (atom_at (sampled r) i) (atom_at (sampled r) j)
  below_agree h i j l m =
      rw (number_at s i l, number_at s j m, number_at r i (there i l), number_at r j (there j m))
      (same_truth _ _ (λ e. below_whole _ _ ∙ lt-ltb _ _ ((h i j l m).0 (ltb-true _ _ (sym (below_whole _ _) ∙ e)))) (λ e. below_whole _ _ ∙ lt-ltb _ _ ((h i j l m).1 (ltb-true _ _ (sym (below_whole _ _) ∙ e)))))

  pub alike_apart : EqualAlike s r → AreAlike false (sampled s) (sampled r)
  alike_apart h = record { count = length-map s whole ∙ (sym count ∙ sym (length-map r whole)); agree = go }
    where
      go : (op : Op) → IsTrue (is_admitted false op) → Agree op (sampled s) (sampled r)
      go Eq a = λ i j l m. equal_agree h i j (inside i l) (inside j m)
      go Ne a = λ i j l m. ap not (equal_agree h i j (inside i l) (inside j m))
      go Lt a = absurd (false≢true a)
      go AtMost a = absurd (false≢true a)

  pub alike_ordered : EqualAlike s r → BelowAlike s r → AreAlike true (sampled s) (sampled r)
  alike_ordered h b = record { count = length-map s whole ∙ (sym count ∙ sym (length-map r whole)); agree = go }
    where
      go : (op : Op) → IsTrue (is_admitted true op) → Agree op (sampled s) (sampled r)
      go Eq a = λ i j l m. equal_agree h i j (inside i l) (inside j m)
      go Ne a = λ i j l m. ap not (equal_agree h i j (inside i l) (inside j m))
      go Lt a = λ i j l m. below_agree b i j (inside i l) (inside j m)
      go AtMost a = λ i j l m. ap not (below_agree b j i (inside j m) (inside i l))
