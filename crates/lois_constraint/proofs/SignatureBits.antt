-- Bits that a word has or lacks, and what an order of the levels below eight shows.
use Rattle.std.proofs.Common.{◌≡◌, ◌≢◌, ℕ, zero, suc, ◌*◌, ◌%◌, ◌^◌, ◌<◌, min, max, Bool, true, false, ◌==◌, ◌⊎◌, inl, inr, List, get_or, eqb, refl, sym, ◌∙◌, subst, arith}
use Rattle.std.specs.Prelude.{bit_and, bit_or}
use Rattle.std.specs.Int.{bit_at}
use Rattle.std.specs.List.{All}
use Rattle.std.proofs.lemmas.Bool.{and_parts}
use Rattle.std.proofs.lemmas.Bool.Decides.{eqb_tells}
use Rattle.std.proofs.lemmas.List.Sums.{AllPass-from_list_all}
use Rattle.std.proofs.lemmas.Nat.{one_shl}
use Rattle.std.proofs.lemmas.Nat.Bits.{bit_at_and, bit_at_or, bit_at-zero, bit_at-lt, bit_at-pow_other, same_from_bits}
use Rattle.lois_base.specs.Atom.{below}
use Rattle.lois_base.specs.Truth.{atom_at, lit_holds}
use Rattle.lois_base.specs.declared.guards.Lit.{Lit}
use Rattle.lois_base.specs.declared.guards.Op.{Op}
use Rattle.lois_base.specs.declared.guards.Op.TheVariants.{Eq, Ne, Lt, AtMost}
use Rattle.lois_constraint.specs.Entailment.{CubeIsSatisfiable, Entails}
use Rattle.lois_constraint.specs.Order.{are_apart, is_implied, IsOrderClosure}
use Rattle.lois_constraint.specs.Signature.{bit_index, EntailsLit, HasOrderBits, RecordsLit, MatchesMask}
use Rattle.lois_constraint.proofs.Implied.{told_exactly}
use Rattle.lois_constraint.proofs.Linked.{not_true, lit_of, clash}
use Rattle.lois_constraint.proofs.Ranked.{order_met}

-- ---- bits
has_bit : (m : ℕ) → m < 2 → (m == 1) ≡ true → m ≡ 1
has_bit zero l e = absurd (cc)
has_bit (suc zero) l e = refl
has_bit (suc (suc m)) l e = absurd (omega arith)

lacks_bit : (m : ℕ) → m < 2 → (m == 1) ≡ false → m ≡ 0
lacks_bit zero l e = refl
lacks_bit (suc zero) l e = absurd (cc)
lacks_bit (suc (suc m)) l e = absurd (omega arith)

one_of : (m n : ℕ) → m < 2 → n < 2 → max m n ≡ 1 → (m ≡ 1) ⊎ (n ≡ 1)
one_of zero zero k l e = absurd (omega (arith, e))
one_of zero (suc zero) k l e = inr refl
one_of (suc zero) n k l e = inl refl
one_of (suc (suc m)) n k l e = absurd (omega arith)
one_of m (suc (suc n)) k l e = absurd (omega arith)

either_bit : (a b i : ℕ) → bit_at (bit_or a b) i ≡ 1 → (bit_at a i ≡ 1) ⊎ (bit_at b i ≡ 1)
either_bit a b i e = one_of (bit_at a i) (bit_at b i) (bit_at-lt a i) (bit_at-lt b i) (sym (bit_at_or a b i) ∙ e)

both_bits : (m n : ℕ) → m < 2 → n < 2 → (n ≡ 1 → m ≡ 1) → min m n ≡ n
both_bits zero zero k l h = refl
both_bits zero (suc zero) k l h = absurd (let no = h refl in omega (arith, no))
both_bits (suc zero) zero k l h = refl
both_bits (suc zero) (suc zero) k l h = refl
both_bits (suc (suc m)) n k l h = absurd (omega arith)
both_bits m (suc (suc n)) k l h = absurd (omega arith)

no_bits : (m n : ℕ) → m < 2 → n < 2 → (n ≡ 1 → m ≡ 0) → min m n ≡ 0
no_bits zero zero k l h = refl
no_bits zero (suc zero) k l h = refl
no_bits (suc zero) zero k l h = refl
no_bits (suc zero) (suc zero) k l h = absurd (let no = h refl in omega (arith, no))
no_bits (suc (suc m)) n k l h = absurd (omega arith)
no_bits m (suc (suc n)) k l h = absurd (omega arith)

-- ---- an order that has bits and lacks others
pub has_all : (order needed : ℕ) → ((i : ℕ) → bit_at needed i ≡ 1 → bit_at order i ≡ 1) → bit_and order needed ≡ needed
has_all order needed h =
    same_from_bits (bit_and order needed) needed (λ i. bit_at_and order needed i ∙ both_bits (bit_at order i) (bit_at needed i) (bit_at-lt order i) (bit_at-lt needed i) (h i))

pub lacks_all : (order refused : ℕ) → ((i : ℕ) → bit_at refused i ≡ 1 → bit_at order i ≡ 0) → bit_and order refused ≡ 0
lacks_all order refused h =
    same_from_bits (bit_and order refused) 0 (λ i. bit_at_and order refused i ∙ (no_bits (bit_at order i) (bit_at refused i) (bit_at-lt order i) (bit_at-lt refused i) (h i) ∙ sym (bit_at-zero i)))

pub meets_nothing : (order : ℕ) → MatchesMask order 0 0
meets_nothing order = (λ i e. let no = bit_at-zero i in absurd (omega (arith, e, no)), λ i e. let no = bit_at-zero i in absurd (omega (arith, e, no)))

pub meets_both : (order n r m s : ℕ) → MatchesMask order n r → MatchesMask order m s → MatchesMask order (bit_or n m) (bit_or r s)
meets_both order n r m s one two = (λ i e. needed i (either_bit n m i e), λ i e. refused i (either_bit r s i e))
  where
    needed : (i : ℕ) → (bit_at n i ≡ 1) ⊎ (bit_at m i ≡ 1) → bit_at order i ≡ 1
    needed i (inl e) = one.0 i e
    needed i (inr e) = two.0 i e

    refused : (i : ℕ) → (bit_at r i ≡ 1) ⊎ (bit_at s i ≡ 1) → bit_at order i ≡ 0
    refused i (inl e) = one.1 i e
    refused i (inr e) = two.1 i e

-- the word has the bit of two levels below eight, and nothing else
abbrev pub IsBit : ℕ → ℕ → ℕ → Type 0
IsBit word low high = (i : ℕ) → bit_at word i ≡ 1 → (low < 8) × (high < 8) × (i ≡ bit_index low high)

pub only_place : (p i : ℕ) → p < 64 → bit_at (1 * 2 ^ p % 2 ^ 64) i ≡ 1 → i ≡ p
only_place p i l e = go (eqb_tells i p)
  where
    is : bit_at (2 ^ p) i ≡ 1
    is = subst (λ w. bit_at w i ≡ 1) (one_shl p 64 l) e

    go : ((eqb i p ≡ true) × (i ≡ p)) ⊎ ((eqb i p ≡ false) × (i ≢ p)) → i ≡ p
    go (inl t) = t.1
    go (inr t) = let no = bit_at-pow_other p i t.1 in absurd (omega (arith, is, no))

pub equal_met : (order up down a b : ℕ) → (a < 8 → b < 8 → HasOrderBits order Eq a b) → IsBit up a b → IsBit down b a → MatchesMask order (bit_or up down) 0
equal_met order up down a b shown one two = (λ i e. go i (either_bit up down i e), (meets_nothing order).1)
  where
    go : (i : ℕ) → (bit_at up i ≡ 1) ⊎ (bit_at down i ≡ 1) → bit_at order i ≡ 1
    go i (inl e) = let at = one i e in subst (λ j. bit_at order j ≡ 1) (sym at.2) (shown at.0 at.1).0
    go i (inr e) = let at = two i e in subst (λ j. bit_at order j ≡ 1) (sym at.2) (shown at.1 at.0).1

-- ---- an order of levels in a word
module _ (le : ℕ → ℕ → Bool) (k : List Lit) (h : IsOrderClosure le k) (order : ℕ) (is : (a b : ℕ) → a < 8 → b < 8 → (bit_at order (bit_index a b) == 1) ≡ le a b) where
  at_most_shown : (a b : ℕ) → a < 8 → b < 8 → le a b ≡ true → bit_at order (bit_index a b) ≡ 1
  at_most_shown a b l m e = has_bit (bit_at order (bit_index a b)) (bit_at-lt order (bit_index a b)) (is a b l m ∙ e)

  above_shown : (a b : ℕ) → a < 8 → b < 8 → le a b ≡ false → bit_at order (bit_index a b) ≡ 0
  above_shown a b l m e = lacks_bit (bit_at order (bit_index a b)) (bit_at-lt order (bit_index a b)) (is a b l m ∙ e)

  -- a choice meets the cube, and there what is below isn't above too
  one_way : (a b : ℕ) → is_implied le k Lt a b ≡ true → le b a ≡ false
  one_way a b e = not_true (le b a) (meets (order_met le k h))
    where
      meets : CubeIsSatisfiable k → le b a ≡ true → ⊥
      meets met t =
          let less : below (atom_at met.0 a) (atom_at met.0 b) ≡ true = (told_exactly le k h (lit_of Lt a b) (is_implied le k Lt a b) refl).0 e met.0 met.1 in
          clash (below (atom_at met.0 a) (atom_at met.0 b)) less (h.at_most met.0 met.1 b a t)

  told_shown : (o : Op) (a b : ℕ) → a < 8 → b < 8 → is_implied le k o a b ≡ true → HasOrderBits order o a b
  told_shown Eq a b l m e = let both = and_parts (le a b) (le b a) e in (at_most_shown a b l m both.0, at_most_shown b a m l both.1)
  told_shown Ne a b l m e = tt
  told_shown Lt a b l m e =
      let both = and_parts (le a b) (are_apart le k a b) e in
      (at_most_shown a b l m both.0, above_shown b a m l (one_way a b e))
  told_shown AtMost a b l m e = at_most_shown a b l m e

  pub follows_shown : (l : Lit) → EntailsLit k l → RecordsLit order l
  follows_shown l follows a b =
      told_shown l.op l.left l.right a b ((told_exactly le k h l (is_implied le k l.op l.left l.right) refl).1 follows)

-- what a cube asks is met by the order of each cube that entails it
pub meets_within : (k j : List Lit) (order needed refused : ℕ) → ((l : Lit) → EntailsLit k l → RecordsLit order l) → ((o : ℕ) → All (RecordsLit o) j → MatchesMask o needed refused) → Entails k j → MatchesMask order needed refused
meets_within k j order needed refused shows asks within =
    asks order (λ i d l. shows (get_or j i d) (λ c holds. AllPass-from_list_all (lit_holds c) j (within c holds) i d l))
