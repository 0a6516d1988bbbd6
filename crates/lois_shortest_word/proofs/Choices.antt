-- Choices and samples that are cut in two.
use Rattle.std.proofs.Common.{◌≡◌, ℕ, ◌+◌, ◌-◌, ◌≤◌, List, ◌++◌, length, take, drop, sym, ap, ◌∙◌, arith}
use Rattle.std.proofs.lemmas.List.{take-append-drop, length-take-le, length-drop, length-map, map-append, append_assoc}
use Rattle.lois_base.specs.Atom.{Atom, whole}
use Rattle.lois_base.specs.Truth.{sampled}

-- a choice that is cut at k
pub cut : (c e : List Atom) (k : ℕ) → c ++ e ≡ (c ++ take k e) ++ drop k e
cut c e k = ap (λ z. c ++ z) (sym (take-append-drop k e)) ∙ sym (append_assoc c (take k e) (drop k e))

pub length_front : (e : List Atom) (k n : ℕ) → length e ≡ n → k ≤ n → length (take k e) ≡ k
length_front e k n l le = length-take-le k e (omega arith)

pub length_back : (e : List Atom) (k n : ℕ) → length e ≡ n → length (drop k e) ≡ n - k
length_back e k n l = length-drop k e ∙ ap (λ z. z - k) l

-- the first n numbers of a sample
pub first_count : (n : ℕ) (s : List ℕ) → n ≤ length s → length (sampled (take n s)) ≡ n
first_count n s le = length-map (take n s) whole ∙ length-take-le n s le

-- the numbers of a sample of n numbers and k more
module _ (n k : ℕ) (s : List ℕ) (is : length s ≡ n + k) where
  pub first_length : length (sampled (take n s)) ≡ n
  first_length = first_count n s (omega arith)

  pub other_length : length (sampled (drop n s)) ≡ k
  other_length = length-map (drop n s) whole ∙ (length-drop n s ∙ omega arith)

  pub whole_sample : sampled (take n s) ++ sampled (drop n s) ≡ sampled s
  whole_sample = sym (map-append whole (take n s) (drop n s)) ∙ ap sampled (take-append-drop n s)
