-- The registers that are stored, one more at a time.
use Rattle.std.proofs.Common.{◌≡◌, ℕ, zero, suc, ◌+◌, ◌≤◌, ◌<◌, List, [], ◌∷◌, ◌++◌, length, map, get_or, take, refl, sym, ap, subst, ◌∙◌, arith, ◌↔◌}
use Rattle.std.proofs.lemmas.List.{take-map, map_more, map_push, get_or-map, length-map}
use Rattle.lois_registers.specs.Texts.{digit}
use Rattle.lois_registers.specs.Valid.{AreIncreasing}

module _ (n : ℕ) where
  pub increasing_take : (m k : ℕ) (is : List ℕ) → AreIncreasing m n is → AreIncreasing m n (take k is)
  increasing_take m zero is h = tt
  increasing_take m (suc k) [] h = tt
  increasing_take m (suc k) (i ∷ is) h = (h.0, h.1, increasing_take i k is h.2)

  pub increasing_at : (m k d : ℕ) (is : List ℕ) → AreIncreasing m n is → k < length is → (m < get_or is k d) × (get_or is k d ≤ n)
  increasing_at m k d [] h l = absurd (omega (arith, l))
  increasing_at m zero d (i ∷ is) h l = (h.0, h.1)
  increasing_at m (suc k) d (i ∷ is) h l =
      let r = increasing_at i k d is h.2 (omega (arith, l)) in (omega (arith, r.0, h.0), r.1)

  -- behind the last one
  pub increasing_more : (m i j : ℕ) (is : List ℕ) → AreIncreasing m n (is ++ i ∷ []) → AreIncreasing m n ((is ++ i ∷ []) ++ j ∷ []) ↔ ((i < j) × (j ≤ n))
  increasing_more m i j [] h = (λ g. (g.2.0, g.2.1), λ g. (h.0, h.1, (g.0, g.1, tt)))
  increasing_more m i j (k ∷ is) h =
      let r = increasing_more k i j is h.2 in (λ g. r.0 g.2, λ g. (h.0, h.1, r.1 g))

digit_same : (i j : ℕ) → digit i ≡ digit j → i ≡ j
digit_same i j e = let h : 48 + i ≡ 48 + j = cc in omega (arith, h)

pub digits_same : (is js : List ℕ) → map digit is ≡ map digit js → is ≡ js
digits_same [] [] e = refl
digits_same [] (j ∷ js) e = absurd (cc)
digits_same (i ∷ is) [] e = absurd (cc)
digits_same (i ∷ is) (j ∷ js) e =
    let first : digit i ≡ digit j = cc in
    let rest : map digit is ≡ map digit js = cc in
    ap (λ z. z ∷ is) (digit_same i j first) ∙ ap (λ z. j ∷ z) (digits_same is js rest)

-- one more word
module _ {X : Type 0} (f : X → List ℕ) (slice : List X) (i : ℕ) (d : X) (l : i < length slice) where
  pub register_read : (is : List ℕ) (k : ℕ) → f (get_or slice i d) ≡ digit k → map f (take i slice) ≡ map digit is → map f (take (i + 1) slice) ≡ map digit (is ++ k ∷ [])
  register_read is k e h =
      map_more f slice i d l ∙ (ap (λ z. map f (take i slice) ++ z ∷ []) e ∙ (ap (λ z. z ++ digit k ∷ []) h ∙ sym (map_push digit is k)))

  -- where all words are registers, each is one
  pub register_at : (n : ℕ) (js : List ℕ) → AreIncreasing 0 n js → map f slice ≡ map digit js → (k : ℕ) × (1 ≤ k) × (k ≤ n) × (f (get_or slice i d) ≡ digit k)
  register_at n js h e =
      let inside : i < length js = omega (arith, l, ap length e, length-map slice f, length-map js digit) in
      let r = increasing_at n 0 i 0 js h inside in
      (get_or js i 0, r.0, r.1, sym (get_or-map f slice i d [] l) ∙ (ap (λ z. get_or z i []) e ∙ get_or-map digit js i 0 [] inside))

-- where all words are registers that increase, those so far do
module _ {X : Type 0} (f : X → List ℕ) (slice : List X) (i : ℕ) where
  pub registers_so_far : (n : ℕ) (is js : List ℕ) (k : ℕ) → AreIncreasing 0 n js → map f slice ≡ map digit js → map f (take (i + 1) slice) ≡ map digit (is ++ k ∷ []) → AreIncreasing 0 n (is ++ k ∷ [])
  registers_so_far n is js k h e so =
      let same : take (i + 1) js ≡ is ++ k ∷ [] = digits_same (take (i + 1) js) (is ++ k ∷ []) (sym (take-map digit (i + 1) js) ∙ (ap (take (i + 1)) (sym e) ∙ (take-map f (i + 1) slice ∙ so))) in
      subst (AreIncreasing 0 n) same (increasing_take n 0 (i + 1) js h)
