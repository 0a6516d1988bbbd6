-- Atoms are a dense total order without ends.
use Rattle.std.proofs.Common.{◌≡◌, ℕ, ◌+◌, ◌*◌, ◌<◌, ◌≤◌, Bool, true, false, not, ◌&&◌, pos, negsuc, ◌+ℤ◌, arith, refl, sym, ap, ◌∙◌}
use Rattle.std.proofs.lemmas.Int.{ints}
use Rattle.std.proofs.Math.Nat.{mul-le-mul_right, le_of_mul-le-mul_right}
use Rattle.std.specs.Bool.{IsTrue, IsFalse}
use borrow.Author.Differences.{up, down, sum_is_lem}
use mathlib.Core.Logic.{◌⊎◌, inl, inr}
use Rattle.lois_base.specs.Atom.{Atom, equal, below, whole}

-- the order of two fractions in natural numbers
abbrev AtMost : Atom → Atom → Type 0
AtMost a b = up a.over * (b.under + 1) + down b.over * (a.under + 1) ≤ up b.over * (a.under + 1) + down a.over * (b.under + 1)

at_most_not : (a b : Atom) → IsFalse (below b a) → AtMost a b
at_most_not a b h = grind (arith, ints)

not_at_most : (a b : Atom) → AtMost a b → IsFalse (below b a)
not_at_most a b h = grind (arith, ints)

nat_trans : (p p' r r' t t' q s u : ℕ) → 0 < s → p * s + r' * q ≤ r * q + p' * s → r * u + t' * s ≤ t * s + r' * u → p * u + t' * q ≤ t * q + p' * u
nat_trans p p' r r' t t' q s u l h k =
    le_of_mul-le-mul_right {k = s} (omega (arith, mul-le-mul_right u h, mul-le-mul_right q k)) l

-- a is at most b, and b at most c
pub at_most_trans : (a b c : Atom) → IsFalse (below b a) → IsFalse (below c b) → IsFalse (below c a)
at_most_trans a b c h k =
    not_at_most a c (nat_trans (up a.over) (down a.over) (up b.over) (down b.over) (up c.over) (down c.over) (a.under + 1) (b.under + 1) (c.under + 1) (omega arith) (at_most_not a b h) (at_most_not b c k))

pub below_asym : (a b : Atom) → IsTrue (below a b) → IsFalse (below b a)
below_asym a b h = grind (arith, ints)

pub equal_is_neither : (a b : Atom) → equal a b ≡ (not (below a b) && not (below b a))
equal_is_neither a b = grind (arith, ints)

pub below_irrefl : (a : Atom) → IsFalse (below a a)
below_irrefl a = grind (arith, ints)

abbrev Less : Atom → Atom → Type 0
Less a b = up a.over * (b.under + 1) + down b.over * (a.under + 1) < up b.over * (a.under + 1) + down a.over * (b.under + 1)

less_out : (a b : Atom) → IsTrue (below a b) → Less a b
less_out a b h = grind (arith, ints)

less_in : (a b : Atom) → Less a b → IsTrue (below a b)
less_in a b h = grind (arith, ints)

-- z/(q + s) is the sum of the numerators over that of the denominators
nat_above : (p p' r r' z z' q s : ℕ) → z + p' + r' ≡ z' + p + r → p * s + r' * q < r * q + p' * s → p * (q + s) + z' * q < z * q + p' * (q + s)
nat_above p p' r r' z z' q s e h = omega (arith, ap (λ x. x * q) e)

nat_under : (p p' r r' z z' q s : ℕ) → z + p' + r' ≡ z' + p + r → p * s + r' * q < r * q + p' * s → z * s + r' * (q + s) < r * (q + s) + z' * s
nat_under p p' r r' z z' q s e h = omega (arith, ap (λ x. x * s) e)

middle : Atom → Atom → Atom
middle a b = record { over = a.over +ℤ b.over; under = a.under + b.under + 1 }

above_left : (a b : Atom) → IsTrue (below a b) → IsTrue (below a (middle a b))
unfolding middle
above_left a b h =
    let e = nat_above (up a.over) (down a.over) (up b.over) (down b.over) (up (a.over +ℤ b.over)) (down (a.over +ℤ b.over)) (a.under + 1) (b.under + 1) (omega (arith, sum_is_lem a.over b.over)) (less_out a b h) in
    less_in a (middle a b) (omega (arith, e))

under_right : (a b : Atom) → IsTrue (below a b) → IsTrue (below (middle a b) b)
unfolding middle
under_right a b h =
    let e = nat_under (up a.over) (down a.over) (up b.over) (down b.over) (up (a.over +ℤ b.over)) (down (a.over +ℤ b.over)) (a.under + 1) (b.under + 1) (omega (arith, sum_is_lem a.over b.over)) (less_out a b h) in
    less_in (middle a b) b (omega (arith, e))

pub between : (a b : Atom) → IsTrue (below a b) → (m : Atom) × IsTrue (below a m) × IsTrue (below m b)
between a b h = (middle a b, above_left a b h, under_right a b h)

pub lower : (a : Atom) → (b : Atom) × IsTrue (below b a)
lower a =
    let b : Atom = record { over = a.over +ℤ negsuc 0; under = a.under } in
    (b, less_in b a (omega (arith, ap (λ x. x * (a.under + 1)) (sum_is_lem a.over (negsuc 0)))))

pub higher : (a : Atom) → (b : Atom) × IsTrue (below a b)
higher a =
    let b : Atom = record { over = a.over +ℤ pos 1; under = a.under } in
    (b, less_in a b (omega (arith, ap (λ x. x * (a.under + 1)) (sum_is_lem a.over (pos 1)))))

-- the laws of equality and order, by cases on the tests
pub test : (b : Bool) → IsTrue b ⊎ IsFalse b
test true = inl refl
test false = inr refl

pub same_truth : (a b : Bool) → (IsTrue a → IsTrue b) → (IsTrue b → IsTrue a) → a ≡ b
same_truth true true f g = refl
same_truth true false f g = sym (f refl)
same_truth false true f g = g refl
same_truth false false f g = refl

pub equal_in : (a b : Atom) → IsFalse (below a b) → IsFalse (below b a) → IsTrue (equal a b)
equal_in a b h k = rw equal_is_neither (grind arith)

pub equal_out : (a b : Atom) → IsTrue (equal a b) → IsFalse (below a b) × IsFalse (below b a)
equal_out a b h = grind (arith, equal_is_neither)

pub trichotomy : (a b : Atom) → IsTrue (below a b) ⊎ (IsTrue (equal a b) ⊎ IsTrue (below b a))
trichotomy a b = split (test (below a b)) (test (below b a))
  where
    split : IsTrue (below a b) ⊎ IsFalse (below a b) → IsTrue (below b a) ⊎ IsFalse (below b a) → IsTrue (below a b) ⊎ (IsTrue (equal a b) ⊎ IsTrue (below b a))
    split (inl l) r = inl l
    split (inr l) (inl r) = inr (inr r)
    split (inr l) (inr r) = inr (inl (equal_in a b l r))

pub equal_refl : (a : Atom) → IsTrue (equal a a)
equal_refl a = equal_in a a (below_irrefl a) (below_irrefl a)

pub equal_sym : (a b : Atom) → IsTrue (equal a b) → IsTrue (equal b a)
equal_sym a b h = equal_in b a (equal_out a b h).1 (equal_out a b h).0

pub equal_trans : (a b c : Atom) → IsTrue (equal a b) → IsTrue (equal b c) → IsTrue (equal a c)
equal_trans a b c h k =
    equal_in a c
    (at_most_trans c b a (equal_out b c k).0 (equal_out a b h).0)
    (at_most_trans a b c (equal_out a b h).1 (equal_out b c k).1)

-- below and at most, in either order, make below
pub below_at_most : (a b c : Atom) → IsTrue (below a b) → IsFalse (below c b) → IsTrue (below a c)
below_at_most a b c h k = go (test (below a c))
  where
    go : IsTrue (below a c) ⊎ IsFalse (below a c) → IsTrue (below a c)
    go (inl y) = y
    go (inr n) = let e : IsFalse (below a b) = at_most_trans b c a k n in grind arith

pub at_most_below : (a b c : Atom) → IsFalse (below b a) → IsTrue (below b c) → IsTrue (below a c)
at_most_below a b c h k = go (test (below a c))
  where
    go : IsTrue (below a c) ⊎ IsFalse (below a c) → IsTrue (below a c)
    go (inl y) = y
    go (inr n) = let e : IsFalse (below b c) = at_most_trans c a b n h in grind arith

pub below_trans : (a b c : Atom) → IsTrue (below a b) → IsTrue (below b c) → IsTrue (below a c)
below_trans a b c h k = below_at_most a b c h (below_asym b c k)

-- the tests give the same at equal atoms
pub equal_respects : (a b c d : Atom) → IsTrue (equal a b) → IsTrue (equal c d) → equal a c ≡ equal b d
equal_respects a b c d h k =
    same_truth (equal a c) (equal b d)
    (λ e. equal_trans b a d (equal_sym a b h) (equal_trans a c d e k))
    (λ e. equal_trans a b c h (equal_trans b d c e (equal_sym c d k)))

below_moves : (a b c d : Atom) → IsTrue (equal a b) → IsTrue (equal c d) → IsTrue (below a c) → IsTrue (below b d)
below_moves a b c d h k l =
    at_most_below b a d (equal_out a b h).0 (below_at_most a c d l (equal_out c d k).1)

pub below_respects : (a b c d : Atom) → IsTrue (equal a b) → IsTrue (equal c d) → below a c ≡ below b d
below_respects a b c d h k =
    same_truth (below a c) (below b d) (below_moves a b c d h k) (below_moves b a d c (equal_sym a b h) (equal_sym c d k))

-- the order decides equality
pub equals_from : (a b x y : Atom) → below a b ≡ below x y → below b a ≡ below y x → equal a b ≡ equal x y
equals_from a b x y h k = equal_is_neither a b ∙ both (below a b) (below b a) (below x y) (below y x) h k ∙ sym (equal_is_neither x y)
  where
    both : (p q r s : Bool) → p ≡ r → q ≡ s → (not p && not q) ≡ (not r && not s)
    both p q r s e f = rw (e, f)

pub below_not_equal : (a b : Atom) → IsTrue (below a b) → IsFalse (equal a b)
below_not_equal a b h = grind arith

-- ---- atoms at whole numbers
pub numbers_same : (m n : ℕ) → IsTrue (equal (whole m) (whole n)) → m ≡ n
numbers_same m n h = grind (arith, ints)

pub numbers_differ : (m n : ℕ) → (m ≡ n → ⊥) → IsFalse (equal (whole m) (whole n))
numbers_differ m n d = go (equal (whole m) (whole n)) refl
  where
    go : (t : Bool) → equal (whole m) (whole n) ≡ t → IsFalse t
    go false e = refl
    go true e = absurd (d (numbers_same m n e))
