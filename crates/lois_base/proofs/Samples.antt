-- For each choice of atoms a list of small numbers that stand alike: of each atom, how many positions of the choice have a smaller one.
use Rattle.std.proofs.Common.{◌≡◌, ℕ, zero, suc, ◌+◌, ◌<◌, ◌≤◌, ◌⊎◌, inl, inr, Bool, true, false, not, cond, List, [], ◌∷◌, map, length, ltb, refl, sym, ap, ◌∙◌, subst, arith}
use Rattle.std.proofs.lemmas.Bool.{lt-ltb, ltb-true}
use Rattle.std.proofs.lemmas.Int.{ints}
use Rattle.std.proofs.lemmas.List.{get_or-map, length-map}
use Rattle.std.proofs.lemmas.List.Elements.{All-from_get_or}
use Rattle.std.specs.Bool.{IsTrue, IsFalse}
use Rattle.std.specs.List.{All}
use Rattle.lois_base.specs.Atom.{Atom, equal, below, whole}
use Rattle.lois_base.specs.Patterns.{Agree, AreAlike}
use Rattle.lois_base.specs.Fits.{CubeFits}
use Rattle.lois_base.specs.Theory.{IsSatisfiable, IsSampleOf}
use Rattle.lois_base.specs.Truth.{atom_at, sampled}
use Rattle.lois_base.specs.declared.guards.Lit.{Lit}
use Rattle.lois_base.specs.declared.guards.Op.{Op}
use Rattle.lois_base.specs.declared.guards.Op.TheVariants.{Eq, Ne, Lt, AtMost}
use Rattle.lois_base.proofs.Order.{below_irrefl, below_asym, below_trans, below_at_most, equals_from, same_truth, test}
use Rattle.lois_base.proofs.Truths.{cube_ordered}

abbrev pub one_where : Bool → ℕ
one_where b = cond b 1 0

abbrev rank : Atom → List Atom → ℕ
rank a [] = 0
rank a (b ∷ c) = one_where (below b a) + rank a c

abbrev pub ranks : List Atom → List ℕ
ranks c = map (λ a. rank a c) c

pub at_most_where : (p q : Bool) → (IsTrue p → IsTrue q) → one_where p ≤ one_where q
at_most_where false q h = omega arith
at_most_where true q h = rw (h refl) (omega arith)

rank_at_most : (a b : Atom) (c : List Atom) → IsFalse (below b a) → rank a c ≤ rank b c
rank_at_most a b [] h = omega arith
rank_at_most a b (x ∷ c) h =
    omega (arith, at_most_where (below x a) (below x b) (λ l. below_at_most x a b l h), rank_at_most a b c h)

rank_below : (c : List Atom) (i : ℕ) (b : Atom) → i < length c → IsTrue (below (atom_at c i) b) → rank (atom_at c i) c < rank b c
rank_below [] i b l h = absurd (omega arith)
rank_below (x ∷ c) zero b l h =
    let e : one_where (below x x) ≡ 0 = ap one_where (below_irrefl x) in
    let f : one_where (below x b) ≡ 1 = ap one_where h in
    omega (arith, e, f, rank_at_most x b c (below_asym x b h))
rank_below (x ∷ c) (suc i) b l h =
    omega (arith, at_most_where (below x (atom_at c i)) (below x b) (λ k. below_trans x (atom_at c i) b k h), rank_below c i b (omega arith) h)

rank_length : (a : Atom) (c : List Atom) → rank a c ≤ length c
rank_length a [] = omega arith
rank_length a (x ∷ c) = omega (arith, at_most_where (below x a) true (λ l. refl), rank_length a c)

rank_short : (c : List Atom) (i : ℕ) → i < length c → rank (atom_at c i) c < length c
rank_short [] i l = absurd (omega arith)
rank_short (x ∷ c) zero l =
    let e : one_where (below x x) ≡ 0 = ap one_where (below_irrefl x) in
    omega (arith, e, rank_length x c)
rank_short (x ∷ c) (suc i) l =
    omega (arith, at_most_where (below x (atom_at c i)) true (λ l. refl), rank_short c i (omega arith))

pub length_ranks : (c : List Atom) → length (ranks c) ≡ length c
length_ranks c = length-map c (λ a. rank a c)

pub ranks_small : (c : List Atom) → All (λ n. n < length c) (ranks c)
ranks_small c =
    All-from_get_or (λ n. n < length c) (ranks c) 0
    (λ i l. let m : i < length c = omega (arith, length_ranks c) in rw (get_or-map (λ a. rank a c) c i (whole 0) 0 m) (rank_short c i m))

pub below_whole : (m n : ℕ) → below (whole m) (whole n) ≡ ltb m n
below_whole m n = same_truth (below (whole m) (whole n)) (ltb m n) (λ h. lt-ltb m n (grind (arith, ints))) (λ h. let l : m < n = ltb-true m n h in grind (arith, ints))

rank_at : (c : List Atom) (i : ℕ) → i < length c → atom_at (sampled (ranks c)) i ≡ whole (rank (atom_at c i) c)
rank_at c i l =
    let m : i < length (ranks c) = omega (arith, length_ranks c) in
    get_or-map whole (ranks c) i 0 (whole 0) m ∙ ap whole (get_or-map (λ a. rank a c) c i (whole 0) 0 l)

ranks_below : (c : List Atom) (i j : ℕ) → i < length c → j < length c → below (atom_at c i) (atom_at c j) ≡ below (whole (rank (atom_at c i) c)) (whole (rank (atom_at c j) c))
ranks_below c i j l m =
    same_truth _ _ (λ h. below_whole _ _ ∙ lt-ltb _ _ (rank_below c i (atom_at c j) l h)) (λ h. back (ltb-true _ _ (sym (below_whole _ _) ∙ h)) (test (below (atom_at c i) (atom_at c j))))
  where
    back : rank (atom_at c i) c < rank (atom_at c j) c → IsTrue (below (atom_at c i) (atom_at c j)) ⊎ IsFalse (below (atom_at c i) (atom_at c j)) → IsTrue (below (atom_at c i) (atom_at c j))
    back r (inl y) = y
    back r (inr n) = absurd (omega (arith, rank_at_most (atom_at c j) (atom_at c i) c n))

smaller_ranks : (c : List Atom) (i j : ℕ) → i < length c → j < length c → below (atom_at c i) (atom_at c j) ≡ below (atom_at (sampled (ranks c)) i) (atom_at (sampled (ranks c)) j)
smaller_ranks c i j l m = rw (rank_at c i l, rank_at c j m) (ranks_below c i j l m)

-- the ranks stand as the atoms do
pub ranks_alike : (c : List Atom) → AreAlike true c (sampled (ranks c))
ranks_alike c = record { count = sym (length-map (ranks c) whole ∙ length_ranks c); agree = λ op h. go op }
  where
    equal_ranks : (i j : ℕ) → i < length c → j < length c → equal (atom_at c i) (atom_at c j) ≡ equal (atom_at (sampled (ranks c)) i) (atom_at (sampled (ranks c)) j)
    equal_ranks i j l m =
        equals_from (atom_at c i) (atom_at c j) (atom_at (sampled (ranks c)) i) (atom_at (sampled (ranks c)) j) (smaller_ranks c i j l m) (smaller_ranks c j i m l)

    go : (op : Op) → Agree op c (sampled (ranks c))
    go Eq = equal_ranks
    go Ne = λ i j l m. ap not (equal_ranks i j l m)
    go Lt = smaller_ranks c
    go AtMost = λ i j l m. ap not (smaller_ranks c j i m l)

-- what holds at some choice of n atoms holds at n numbers below n
pub sample_of : (n : ℕ) (cube : List Lit) → CubeFits n cube → IsSatisfiable n cube → (s : List ℕ) × IsSampleOf n cube s
sample_of n cube fits (c, count, h) =
    let f : CubeFits (length c) cube = subst (λ m. CubeFits m cube) (sym count) fits in (
      ranks c,
      record {
        count = length_ranks c ∙ count;
        small = subst (λ m. All (λ i. i < m) (ranks c)) count (ranks_small c);
        met = sym (cube_ordered c (sampled (ranks c)) (ranks_alike c) cube f) ∙ h;
      },
    )

pub satisfied_by : (n : ℕ) (cube : List Lit) (s : List ℕ) → IsSampleOf n cube s → IsSatisfiable n cube
satisfied_by n cube s h = (sampled s, length-map s whole ∙ h.count, h.met)
