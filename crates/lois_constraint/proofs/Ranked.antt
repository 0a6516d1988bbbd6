-- An order of the levels of a cube gives a choice that meets the cube.
use Rattle.std.proofs.Common.{◌≡◌, ℕ, zero, suc, ◌+◌, ◌*◌, ◌<◌, ◌≤◌, Bool, true, false, cond, ◌⊎◌, inl, inr, List, get_or, refl, sym, ap, ◌∙◌, arith}
use Rattle.std.proofs.Math.Nat.{mul-le-mul_right}
use Rattle.std.proofs.lemmas.Bool.{and_parts, and_from, cases_Bool, cases_eq, cases_order}
use Rattle.std.proofs.lemmas.Int.{ints}
use Rattle.std.proofs.lemmas.List.Sums.{list_all-from_AllPass}
use Rattle.lois_base.specs.Atom.{Atom, whole}
use Rattle.lois_base.specs.Fits.{CubeFits}
use Rattle.lois_base.specs.Shift.{top_of_lits}
use Rattle.lois_base.specs.Truth.{op_holds}
use Rattle.lois_base.specs.declared.guards.Lit.{Lit}
use Rattle.lois_base.specs.declared.guards.Op.{Op}
use Rattle.lois_base.specs.declared.guards.Op.TheVariants.{Eq, Ne, Lt, AtMost}
use Rattle.lois_constraint.specs.Entailment.{CubeIsSatisfiable}
use Rattle.lois_constraint.specs.Order.{is_tied, HoldsInOrder, IsOrderClosure}
use Rattle.lois_constraint.proofs.Linked.{clash}
use Rattle.lois_constraint.proofs.Listed.{listed, fits_top, listed_meets}

-- ---- how many numbers below n pass, and the greatest of them
counted : (ℕ → Bool) → ℕ → ℕ
counted p zero = 0
counted p (suc n) = cond (p n) 1 0 + counted p n

greatest : (ℕ → Bool) → ℕ → ℕ
greatest p zero = 0
greatest p (suc n) = cond (p n) n (greatest p n)

module _ (p q : ℕ → Bool) (more : (i : ℕ) → p i ≡ true → q i ≡ true) where
  one_le : (s t : Bool) → (s ≡ true → t ≡ true) → cond s 1 0 ≤ cond t 1 0
  one_le true true f = omega arith
  one_le true false f = let no : false ≡ true = f refl in absurd (cc)
  one_le false true f = omega arith
  one_le false false f = omega arith

  counted_le : (n : ℕ) → counted p n ≤ counted q n
  unfolding counted
  counted_le zero = omega arith
  counted_le (suc n) =
      let here = one_le (p n) (q n) (more n) in let rest = counted_le n in omega arith

  one_lt : (s t : Bool) → s ≡ false → t ≡ true → cond s 1 0 < cond t 1 0
  one_lt true t e f = absurd (cc)
  one_lt false true e f = omega arith
  one_lt false false e f = absurd (cc)

  counted_lt : (n j : ℕ) → j < n → p j ≡ false → q j ≡ true → counted p n < counted q n
  unfolding counted
  counted_lt zero j l e f = absurd (omega arith)
  counted_lt (suc n) j l e f = go (cases_eq j n) (counted_lt n j)
    where
      go : (j ≡ n) ⊎ (j ≡ n → ⊥) → (j < n → p j ≡ false → q j ≡ true → counted p n < counted q n) → cond (p n) 1 0 + counted p n < cond (q n) 1 0 + counted q n
      go (inl is) rest =
          let here = one_lt (p n) (q n) (sym (ap p is) ∙ e) (sym (ap q is) ∙ f) in
          let others = counted_le n in
          omega arith
      go (inr not) rest =
          let here = one_le (p n) (q n) (more n) in
          let others : counted p n < counted q n = rest (omega (arith, not)) e f in
          omega arith

greatest_le : (p : ℕ → Bool) (n : ℕ) → greatest p n ≤ n
unfolding greatest
greatest_le p zero = omega arith
greatest_le p (suc n) = go (p n) (greatest_le p n)
  where
    go : (b : Bool) → greatest p n ≤ n → cond b n (greatest p n) ≤ suc n
    go true rest = omega arith
    go false rest = omega arith

greatest_same : (p q : ℕ → Bool) → ((i : ℕ) → p i ≡ q i) → (n : ℕ) → greatest p n ≡ greatest q n
unfolding greatest
greatest_same p q same zero = refl
greatest_same p q same (suc n) = rw (same n, greatest_same p q same n) refl

greatest_passes : (p : ℕ → Bool) (n j : ℕ) → j < n → p j ≡ true → p (greatest p n) ≡ true
unfolding greatest
greatest_passes p zero j l e = absurd (omega arith)
greatest_passes p (suc n) j l e = go (p n) refl (greatest_passes p n j)
  where
    go : (b : Bool) → p n ≡ b → (j < n → p j ≡ true → p (greatest p n) ≡ true) → p (cond b n (greatest p n)) ≡ true
    go true is rest = is
    go false is rest =
        let other : j ≡ n → ⊥ = λ same. clash (p n) (sym (ap p same) ∙ e) is in rest (omega (arith, other)) e

-- ---- numbers for the levels below n
split_equal : (a b r s m : ℕ) → r < m → s < m → a * m + r ≡ b * m + s → r ≡ s
split_equal a b r s m l k e = go (cases_order a b)
  where
    go : (a ≡ b) ⊎ ((a < b) ⊎ (b < a)) → r ≡ s
    go (inl same) = let t : a * m ≡ b * m = ap (λ x. x * m) same in omega arith
    go (inr (inl less)) =
        let t : (a + 1) * m ≤ b * m = mul-le-mul_right m (omega arith) in absurd (omega arith)
    go (inr (inr less)) =
        let t : (b + 1) * m ≤ a * m = mul-le-mul_right m (omega arith) in absurd (omega arith)

module _ (le : ℕ → ℕ → Bool) (k : List Lit) (h : IsOrderClosure le k) (n : ℕ) where
  number : ℕ → ℕ
  number a = counted (λ j. le j a) n * (n + 1) + greatest (λ j. is_tied le j a) n

  tied_sym : (a b : ℕ) → is_tied le a b ≡ true → is_tied le b a ≡ true
  tied_sym a b e = let both = and_parts (le a b) (le b a) e in and_from (le b a) (le a b) both.1 both.0

  tied_trans : (a b c : ℕ) → is_tied le a b ≡ true → is_tied le b c ≡ true → is_tied le a c ≡ true
  tied_trans a b c e f =
      let p = and_parts (le a b) (le b a) e in
      let q = and_parts (le b c) (le c b) f in
      and_from (le a c) (le c a) (h.trans a b c p.0 q.0) (h.trans c b a q.1 p.1)

  same_true : (s t : Bool) → (s ≡ true → t ≡ true) → (t ≡ true → s ≡ true) → s ≡ t
  same_true true t f g = sym (f refl)
  same_true false true f g = g refl
  same_true false false f g = refl

  tied_numbers : (a b : ℕ) → is_tied le a b ≡ true → number a ≡ number b
  unfolding number
  tied_numbers a b e =
      let both = and_parts (le a b) (le b a) e in
      let up : counted (λ j. le j a) n ≤ counted (λ j. le j b) n = counted_le (λ j. le j a) (λ j. le j b) (λ j t. h.trans j a b t both.0) n in
      let down : counted (λ j. le j b) n ≤ counted (λ j. le j a) n = counted_le (λ j. le j b) (λ j. le j a) (λ j t. h.trans j b a t both.1) n in
      let count : counted (λ j. le j a) n ≡ counted (λ j. le j b) n = omega arith in
      let rank : greatest (λ j. is_tied le j a) n ≡ greatest (λ j. is_tied le j b) n = greatest_same (λ j. is_tied le j a) (λ j. is_tied le j b) (λ j. same_true (is_tied le j a) (is_tied le j b) (λ t. tied_trans j a b t e) (λ t. tied_trans j b a t (tied_sym a b e))) n in
      ap (λ x. x * (n + 1) + greatest (λ j. is_tied le j a) n) count ∙ ap (λ x. counted (λ j. le j b) n * (n + 1) + x) rank

  numbers_tied : (a b : ℕ) → a < n → b < n → number a ≡ number b → is_tied le a b ≡ true
  unfolding number
  numbers_tied a b l m e =
      let p : ℕ → Bool = λ j. is_tied le j a in
      let q : ℕ → Bool = λ j. is_tied le j b in
      let small_p : greatest p n ≤ n = greatest_le p n in
      let small_q : greatest q n ≤ n = greatest_le q n in
      let same : greatest p n ≡ greatest q n = split_equal (counted (λ j. le j a) n) (counted (λ j. le j b) n) (greatest p n) (greatest q n) (n + 1) (omega arith) (omega arith) e in
      let to_a : is_tied le (greatest p n) a ≡ true = greatest_passes p n a l (and_from (le a a) (le a a) (h.itself a) (h.itself a)) in
      let to_b : is_tied le (greatest q n) b ≡ true = greatest_passes q n b m (and_from (le b b) (le b b) (h.itself b) (h.itself b)) in
      tied_trans a (greatest p n) b (tied_sym (greatest p n) a to_a) (ap (λ i. is_tied le i b) same ∙ to_b)

  numbers_rise : (a b : ℕ) → b < n → le a b ≡ true → le b a ≡ false → number a < number b
  unfolding number
  numbers_rise a b m e f =
      let less : counted (λ j. le j a) n < counted (λ j. le j b) n = counted_lt (λ j. le j a) (λ j. le j b) (λ j t. h.trans j a b t e) n b m f (h.itself b) in
      let rises : (counted (λ j. le j a) n + 1) * (n + 1) ≤ counted (λ j. le j b) n * (n + 1) = mul-le-mul_right (n + 1) (omega arith) in
      let small : greatest (λ j. is_tied le j a) n ≤ n = greatest_le (λ j. is_tied le j a) n in
      omega arith

  numbers_hold : (o : Op) (a b : ℕ) → a < n → b < n → HoldsInOrder le o a b → op_holds o (whole (number a)) (whole (number b)) ≡ true
  numbers_hold Eq a b l m s =
      let e : number a ≡ number b = tied_numbers a b (and_from (le a b) (le b a) s.0 s.1) in grind (arith, ints)
  numbers_hold Ne a b l m s =
      let e : number a ≡ number b → ⊥ = λ e. clash (is_tied le a b) (numbers_tied a b l m e) s in grind (arith, ints)
  numbers_hold Lt a b l m s = let e : number a < number b = numbers_rise a b m s.0 s.1 in grind (arith, ints)
  numbers_hold AtMost a b l m s = let e : number a ≤ number b = go (cases_Bool (le b a)) in grind (arith, ints)
    where
      go : (le b a ≡ true) ⊎ (le b a ≡ false) → number a ≤ number b
      go (inl t) =
          let same : number a ≡ number b = tied_numbers a b (and_from (le a b) (le b a) s t) in omega arith
      go (inr t) = let less : number a < number b = numbers_rise a b m s t in omega arith

pub order_met : (le : ℕ → ℕ → Bool) (k : List Lit) → IsOrderClosure le k → CubeIsSatisfiable k
order_met le k h =
    let n : ℕ = top_of_lits k in
    let atom : ℕ → Atom = λ i. whole (number le k h n i) in
    let fits : CubeFits n k = fits_top k in
    let test : Lit → Bool = λ l. op_holds l.op (atom l.left) (atom l.right) in (
      listed atom n,
      sym (listed_meets atom n k fits) ∙ list_all-from_AllPass test k (λ i d b. let l : Lit = get_or k i d in numbers_hold le k h n l.op l.left l.right (fits i d b).0 (fits i d b).1 (h.stands i d b)),
    )
