-- Among finitely many atoms there is always room for one more.
use Rattle.std.proofs.Common.{◌≡◌, ◌⊎◌, inl, inr, List, [], ◌∷◌, arith}
use Rattle.std.proofs.lemmas.List.Elements.{All-nil, All-cons, All-head, All-tail, All-weaker}
use Rattle.std.specs.Bool.{IsTrue, IsFalse}
use Rattle.std.specs.List.{All}
use Rattle.lois_base.specs.Atom.{Atom, equal, below, whole}
use Rattle.lois_base.proofs.Order.{test, below_asym, lower, higher, between, below_at_most, at_most_below, equal_refl, below_respects}

-- a is below each of them; a differs from each of them
abbrev pub IsBelow : List Atom → Atom → Type 0
IsBelow us a = All (λ u. IsTrue (below a u)) us

abbrev pub IsAbove : List Atom → Atom → Type 0
IsAbove ls a = All (λ l. IsTrue (below l a)) ls

abbrev pub IsNew : List Atom → Atom → Type 0
IsNew ns a = All (λ n. IsFalse (equal a n)) ns

module _ (a b : Atom) where
  below_lower : (us : List Atom) → IsFalse (below b a) → IsBelow us b → IsBelow us a
  below_lower us h = All-weaker (λ u. IsTrue (below b u)) (λ u. IsTrue (below a u)) (λ u k. at_most_below a b u h k) us

  above_higher : (ls : List Atom) → IsFalse (below b a) → IsAbove ls a → IsAbove ls b
  above_higher ls h = All-weaker (λ l. IsTrue (below l a)) (λ l. IsTrue (below l b)) (λ l k. below_at_most l a b k h) ls

pub one_below : (us : List Atom) → (m : Atom) × IsBelow us m
one_below [] = (whole 0, All-nil (λ u. IsTrue (below (whole 0) u)))
one_below (u ∷ us) = go (one_below us)
  where
    go : (m : Atom) × IsBelow us m → (m : Atom) × IsBelow (u ∷ us) m
    go (m, h) = pick (test (below m u))
      where
        pick : IsTrue (below m u) ⊎ IsFalse (below m u) → (m : Atom) × IsBelow (u ∷ us) m
        pick (inl y) = (m, All-cons (λ u. IsTrue (below m u)) u us y h)
        pick (inr n) =
            let b = lower u in
            (b.0, All-cons (λ u. IsTrue (below b.0 u)) u us b.1 (below_lower b.0 m us (below_asym b.0 m (below_at_most b.0 u m b.1 n)) h))

pub one_above_below : (l : Atom) (us : List Atom) → IsBelow us l → (m : Atom) × IsTrue (below l m) × IsBelow us m
one_above_below l [] h =
    let b = higher l in (b.0, b.1, All-nil (λ u. IsTrue (below b.0 u)))
one_above_below l (u ∷ us) h = go (one_above_below l us (All-tail (λ u. IsTrue (below l u)) u us h))
  where
    go : (m : Atom) × IsTrue (below l m) × IsBelow us m → (m : Atom) × IsTrue (below l m) × IsBelow (u ∷ us) m
    go (m, k, j) = pick (test (below m u))
      where
        pick : IsTrue (below m u) ⊎ IsFalse (below m u) → (m : Atom) × IsTrue (below l m) × IsBelow (u ∷ us) m
        pick (inl y) = (m, k, All-cons (λ u. IsTrue (below m u)) u us y j)
        pick (inr n) =
            let b = between l u (All-head (λ u. IsTrue (below l u)) u us h) in
            (b.0, b.1, All-cons (λ u. IsTrue (below b.0 u)) u us b.2 (below_lower b.0 m us (below_asym b.0 m (below_at_most b.0 u m b.2 n)) j))

-- above all of ls and below all of us
pub one_between : (ls us : List Atom) → All (IsBelow us) ls → (m : Atom) × IsAbove ls m × IsBelow us m
one_between [] us h = let b = one_below us in (b.0, All-nil (λ l. IsTrue (below l b.0)), b.1)
one_between (l ∷ ls) us h = go (one_between ls us (All-tail (IsBelow us) l ls h))
  where
    go : (m : Atom) × IsAbove ls m × IsBelow us m → (m : Atom) × IsAbove (l ∷ ls) m × IsBelow us m
    go (m, k, j) = pick (test (below l m))
      where
        pick : IsTrue (below l m) ⊎ IsFalse (below l m) → (m : Atom) × IsAbove (l ∷ ls) m × IsBelow us m
        pick (inl y) = (m, All-cons (λ l. IsTrue (below l m)) l ls y k, j)
        pick (inr n) =
            let b = one_above_below l us (All-head (IsBelow us) l ls h) in
            (b.0, All-cons (λ l. IsTrue (below l b.0)) l ls b.1 (above_higher m b.0 ls (below_asym m b.0 (at_most_below m l b.0 n b.1)) k), b.2)

below_all : (a : Atom) (us : List Atom) → IsBelow us a ⊎ ((u : Atom) × IsFalse (below a u) × ((m : Atom) → IsBelow us m → IsTrue (below m u)))
below_all a [] = inl (All-nil (λ u. IsTrue (below a u)))
below_all a (u ∷ us) = pick (test (below a u)) (below_all a us)
  where
    pick : IsTrue (below a u) ⊎ IsFalse (below a u) → IsBelow us a ⊎ ((v : Atom) × IsFalse (below a v) × ((m : Atom) → IsBelow us m → IsTrue (below m v))) → IsBelow (u ∷ us) a ⊎ ((v : Atom) × IsFalse (below a v) × ((m : Atom) → IsBelow (u ∷ us) m → IsTrue (below m v)))
    pick (inr n) r = inr (u, n, λ m h. All-head (λ u. IsTrue (below m u)) u us h)
    pick (inl y) (inl r) = inl (All-cons (λ u. IsTrue (below a u)) u us y r)
    pick (inl y) (inr r) = inr (r.0, r.1, λ m h. r.2 m (All-tail (λ u. IsTrue (below m u)) u us h))

above_new : (m x : Atom) → IsTrue (below x m) → IsFalse (equal m x)
above_new m x h = grind arith

under_new : (m x u : Atom) → IsTrue (below m u) → IsFalse (below x u) → IsFalse (equal m x)
under_new m x u h k = pick (test (equal m x))
  where
    pick : IsTrue (equal m x) ⊎ IsFalse (equal m x) → IsFalse (equal m x)
    pick (inr n) = n
    pick (inl y) = let e : below m u ≡ below x u = below_respects m x u u y (equal_refl u) in absurd (cc)

-- and equal to none of ns
pub one_new_between : (ns ls us : List Atom) → All (IsBelow us) ls → (m : Atom) × IsAbove ls m × IsBelow us m × IsNew ns m
one_new_between [] ls us h =
    let b = one_between ls us h in (b.0, b.1, b.2, All-nil (λ n. IsFalse (equal b.0 n)))
one_new_between (x ∷ ns) ls us h = pick (below_all x us) (λ more k. one_new_between ns more us k)
  where
    pick : IsBelow us x ⊎ ((u : Atom) × IsFalse (below x u) × ((m : Atom) → IsBelow us m → IsTrue (below m u))) → ((more : List Atom) → All (IsBelow us) more → (m : Atom) × IsAbove more m × IsBelow us m × IsNew ns m) → (m : Atom) × IsAbove ls m × IsBelow us m × IsNew (x ∷ ns) m
    pick (inl y) rest =
        let b = rest (x ∷ ls) (All-cons (IsBelow us) x ls y h) in (
          b.0,
          All-tail (λ l. IsTrue (below l b.0)) x ls b.1,
          b.2,
          All-cons (λ n. IsFalse (equal b.0 n)) x ns (above_new b.0 x (All-head (λ l. IsTrue (below l b.0)) x ls b.1)) b.3,
        )
    pick (inr r) rest =
        let b = rest ls h in
        (b.0, b.1, b.2, All-cons (λ n. IsFalse (equal b.0 n)) x ns (under_new b.0 x r.0 (r.2 b.0 b.2) r.1) b.3)

pub one_new : (ns : List Atom) → (m : Atom) × IsNew ns m
one_new ns = let b = one_new_between ns [] [] (All-nil (IsBelow [])) in (b.0, b.3)
