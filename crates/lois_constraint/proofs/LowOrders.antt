-- The order of the levels below eight, in one word.
use Rattle.std.proofs.Common.{◌≡◌, ℕ, ◌+◌, ◌-◌, ◌*◌, ◌/◌, ◌%◌, ◌^◌, ◌<◌, ◌≤◌, Bool, true, false, ◌||◌, ◌&&◌, ◌==◌, ◌⊎◌, inl, inr, List, [], ◌∷◌, length, get_or, eqb, nat_lt, refl, sym, ap, ◌∙◌, pow_pos, arith}
use Rattle.std.proofs.Math.Bool.{or_comm}
use Rattle.std.proofs.Math.ListN.{get_or-eq_default}
use Rattle.std.proofs.lemmas.Bool.{cases_order, lt-ltb, le-ltb}
use Rattle.std.proofs.lemmas.Bool.Decides.{eqb_tells}
use Rattle.std.proofs.lemmas.Nat.{mod_below, div-add-mod'}
use Rattle.std.proofs.lemmas.Nat.Bits.{bit_at_or, bit_at-lt, bit_at_above, bit_at_cat_high}
use Rattle.std.specs.Prelude.{bit_and, bit_or}
use Rattle.std.specs.Int.{bit_at}
use Rattle.lois_base.specs.declared.guards.Lit.{Lit}
use Rattle.lois_constraint.specs.Order.{Row, reaches, at_most, linked, is_tied, is_apart, sets_apart}
use Rattle.lois_constraint.specs.LevelOrders.{has_bit, low_at_most}
use Rattle.lois_constraint.proofs.Lows.{diagonal, low_bound, low_bit}
use Rattle.lois_constraint.proofs.Words.{one_or, or_nothing, no_word, reaches_nothing, first_bit}

-- ---- the rows of a word
pub moved_down : (n k i : ℕ) → bit_at (n / 2 ^ k) i ≡ bit_at n (k + i)
moved_down n k i =
    let parts : n / 2 ^ k * 2 ^ k + n % 2 ^ k ≡ n = div-add-mod' n (2 ^ k) in
    let at : k + i - k ≡ i = omega arith in
    sym (ap (λ x. bit_at x (k + i)) (sym parts) ∙ (bit_at_cat_high (n / 2 ^ k) k (n % 2 ^ k) (k + i) (mod_below n (2 ^ k) (pow_pos k)) (omega arith) ∙ ap (bit_at (n / 2 ^ k)) at))

abbrev row_of : ℕ → ℕ → ℕ
row_of word a = bit_and (word / 2 ^ (8 * a)) 255

pub row_bit : (word a b : ℕ) → b < 8 → (bit_at (row_of word a) b == 1) ≡ has_bit word a b
row_bit word a b l =
    low_bit (word / 2 ^ (8 * a)) [] b l ∙ (sym (first_bit (word / 2 ^ (8 * a)) [] b (omega arith)) ∙ ap (λ n. eqb n 1) (moved_down word (8 * a) b))

-- ---- a word with each level at most itself
pub full : (word a b : ℕ) → a < 8 → b < 8 → has_bit (bit_or word 0x8040201008040201) a b ≡ low_at_most word a b
full word a b l m =
    let i : ℕ = 8 * a + b in
    let either : has_bit (bit_or word 0x8040201008040201) a b ≡ (has_bit word a b || (a == b)) = ap (λ k. eqb k 1) (bit_at_or word 0x8040201008040201 i) ∙ (one_or (bit_at word i) (bit_at 0x8040201008040201 i) (bit_at-lt word i) (bit_at-lt 0x8040201008040201 i) ∙ ap (λ p. has_bit word a b || p) (diagonal a b l m)) in
    rw (lt-ltb a 8 l, lt-ltb b 8 m) (either ∙ or_comm (has_bit word a b) (a == b))

absorbed : (p q r : Bool) → (p || ((p || q) || r)) ≡ ((p || q) || r)
absorbed true q r = refl
absorbed false q r = refl

and_nothing : (p : Bool) → (p && false) ≡ false
and_nothing true = refl
and_nothing false = refl

not_same : (a b : ℕ) → (a ≡ b → ⊥) → eqb a b ≡ false
not_same a b other = go (eqb_tells a b)
  where
    go : ((eqb a b ≡ true) × (a ≡ b)) ⊎ ((eqb a b ≡ false) × (a ≡ b → ⊥)) → eqb a b ≡ false
    go (inl t) = absurd (other t.1)
    go (inr t) = t.0

neither : (p q : Bool) → (p || q) ≡ false → (p ≡ false) × (q ≡ false)
neither true q h = absurd (cc)
neither false q h = (refl, h)

-- a literal whose right level is above neither
pub right_aside : (le : ℕ → ℕ → Bool) (a b : ℕ) (l : Lit) → (le a l.right || le b l.right) ≡ false → false ≡ sets_apart le a b l
right_aside le a b l h =
    let both = neither (le a l.right) (le b l.right) h in
    rw (both.0, both.1, and_nothing (le l.right a), and_nothing (le l.right b), and_nothing (le a l.left && le l.left b), and_nothing (le b l.left && le l.left a), and_nothing (is_tied le l.left a), and_nothing (is_tied le l.left b), and_nothing (is_apart l.op)) refl

pub word_linked : (word r x y : ℕ) → x < 8 → y < 8 → ((a b : ℕ) → a < 8 → b < 8 → has_bit r a b ≡ linked x y (has_bit (bit_or word 0x8040201008040201)) a b) → (a b : ℕ) → low_at_most r a b ≡ linked x y (low_at_most word) a b
word_linked word r x y xl yl is a b = go (cases_order a 8) (cases_order b 8)
  where
    Goal : Type 0
    Goal = low_at_most r a b ≡ linked x y (low_at_most word) a b

    inside : a < 8 → b < 8 → low_at_most r a b ≡ linked x y (low_at_most word) a b
    inside l m =
        let told : has_bit r a b ≡ linked x y (low_at_most word) a b = is a b l m ∙ (ap (λ p. p || (has_bit (bit_or word 0x8040201008040201) a x && has_bit (bit_or word 0x8040201008040201) y b)) (full word a b l m) ∙ (ap (λ p. low_at_most word a b || (p && has_bit (bit_or word 0x8040201008040201) y b)) (full word a x l xl) ∙ ap (λ p. low_at_most word a b || (low_at_most word a x && p)) (full word y b yl m))) in
        let whole : low_at_most r a b ≡ (a == b || has_bit r a b) = rw (lt-ltb a 8 l, lt-ltb b 8 m) refl in
        whole ∙ (ap (λ p. a == b || p) told ∙ absorbed (a == b) ((nat_lt a 8 && nat_lt b 8) && has_bit word a b) (low_at_most word a x && low_at_most word y b))

    left : 8 ≤ a → low_at_most r a b ≡ linked x y (low_at_most word) a b
    left far =
        let apart : eqb a x ≡ false = not_same a x (λ e. omega (arith, e)) in
        rw (le-ltb a 8 far, apart) (or_nothing (a == b || false))

    right : 8 ≤ b → low_at_most r a b ≡ linked x y (low_at_most word) a b
    right far =
        let apart : eqb y b ≡ false = not_same y b (λ e. omega (arith, e)) in
        rw (le-ltb b 8 far, apart, and_nothing (nat_lt a 8), and_nothing (nat_lt y 8), and_nothing (low_at_most word a x)) (or_nothing (a == b || false))

    go : (a ≡ 8) ⊎ ((a < 8) ⊎ (8 < a)) → (b ≡ 8) ⊎ ((b < 8) ⊎ (8 < b)) → low_at_most r a b ≡ linked x y (low_at_most word) a b
    go (inl at) q = left (omega arith)
    go (inr (inr more)) q = left (omega arith)
    go (inr (inl less)) (inl at) = right (omega arith)
    go (inr (inl less)) (inr (inl m)) = inside less m
    go (inr (inl less)) (inr (inr more)) = right (omega arith)

-- ---- a word as rows
one_row : (word a b : ℕ) → reaches (bit_and (word / 2 ^ (8 * a)) 255 ∷ []) b ≡ (nat_lt b 8 && has_bit word a b)
one_row word a b = go (cases_order b 8)
  where
    far : 8 ≤ b → reaches (row_of word a ∷ []) b ≡ false
    far l = go (cases_order b 64)
      where
        near : b < 64 → reaches (row_of word a ∷ []) b ≡ false
        near m =
            sym (first_bit (row_of word a) [] b m) ∙ ap (λ n. eqb n 1) (bit_at_above (row_of word a) 8 b (low_bound (word / 2 ^ (8 * a))) l)

        beyond : 64 ≤ b → reaches (row_of word a ∷ []) b ≡ false
        beyond m =
            let past : 1 ≤ b / 64 = omega arith in
            no_word (row_of word a ∷ []) b (get_or-eq_default (row_of word a ∷ []) 0 past)

        go : (b ≡ 64) ⊎ ((b < 64) ⊎ (64 < b)) → reaches (row_of word a ∷ []) b ≡ false
        go (inl at) = beyond (omega arith)
        go (inr (inl less)) = near less
        go (inr (inr more)) = beyond (omega arith)

    outside : 8 ≤ b → reaches (row_of word a ∷ []) b ≡ (nat_lt b 8 && has_bit word a b)
    outside l = rw (le-ltb b 8 l) (far l)

    go : (b ≡ 8) ⊎ ((b < 8) ⊎ (8 < b)) → reaches (row_of word a ∷ []) b ≡ (nat_lt b 8 && has_bit word a b)
    go (inl at) = outside (omega arith)
    go (inr (inl less)) =
        rw (lt-ltb b 8 less) (sym (first_bit (row_of word a) [] b (omega arith)) ∙ row_bit word a b less)
    go (inr (inr more)) = outside (omega arith)

pub rows_of_word : (word : ℕ) (rows : List Row) → length rows ≡ 8 → ((a : ℕ) → a < 8 → get_or rows a [] ≡ bit_and (word / 2 ^ (8 * a)) 255 ∷ []) → (a b : ℕ) → at_most rows a b ≡ low_at_most word a b
rows_of_word word rows count is a b = go (cases_order a 8)
  where
    past : 8 ≤ a → at_most rows a b ≡ low_at_most word a b
    past far =
        let none : get_or rows a [] ≡ [] = get_or-eq_default rows [] (omega arith) in
        rw (none, reaches_nothing b, le-ltb a 8 far) refl

    go : (a ≡ 8) ⊎ ((a < 8) ⊎ (8 < a)) → at_most rows a b ≡ low_at_most word a b
    go (inl at) = past (omega arith)
    go (inr (inl less)) =
        rw (is a less, lt-ltb a 8 less) (ap (λ p. a == b || p) (one_row word a b))
    go (inr (inr more)) = past (omega arith)
