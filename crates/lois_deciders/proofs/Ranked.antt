-- How labels are ranked.
use Rattle.std.proofs.Common.{◌≡◌, ℕ, zero, suc, ◌+◌, ◌<◌, ◌≢◌, ◌⊎◌, inl, inr, Bool, true, false, List, [], ◌∷◌, length, get_or, set, refl, sym, ap, ◌∙◌, subst, arith}
use Rattle.std.proofs.lemmas.Bool.{cases_eq, false_from_ne_true}
use Rattle.std.proofs.lemmas.Int.{ints}
use Rattle.std.proofs.lemmas.List.{length-set, get_or_default, get_or-set_same, get_or-set_other}
use Rattle.std.proofs.lemmas.List.Elements.{All-head, All-tail}
use Rattle.std.proofs.lemmas.List.Sums.{sum_by-set, sum_by-cons}
use Rattle.std.proofs.Math.ListN.{get_or-map}
use Rattle.std.specs.Bool.{IsTrue}
use Rattle.std.specs.List.{All, sum_by}
use Rattle.lois_base.specs.Atom.{Atom, below, whole}
use Rattle.lois_base.specs.Fits.{CubeFits}
use Rattle.lois_base.specs.Truth.{atom_at, sampled}
use Rattle.lois_base.specs.declared.guards.Lit.{Lit}
use Rattle.lois_base.proofs.Samples.{sample_of}
use Rattle.lois_deciders.specs.Labels.{IsLabelling, IsUnmet}
use Rattle.lois_deciders.proofs.Ranking.{Waits, IsPlaced, IsLowest, EachWaitsOnAnother, one_where, IsRanking}

-- ---- the `<` go round
below_numbers : (m n : ℕ) → IsTrue (below (whole m) (whole n)) → m < n
below_numbers m n h = grind (arith, ints)

lower_number : (s : List ℕ) (i j : ℕ) → IsTrue (below (atom_at (sampled s) i) (atom_at (sampled s) j)) → get_or s i 0 < get_or s j 0
lower_number s i j h =
    below_numbers (get_or s i 0) (get_or s j 0) (subst (λ (a : Atom). IsTrue (below a (whole (get_or s j 0)))) (get_or-map whole s i 0) (subst (λ (a : Atom). IsTrue (below (atom_at (sampled s) i) a)) (get_or-map whole s j 0) h))

-- numbers that fall forever
falls : (waiting : List Bool) (s : List ℕ) → ((i : ℕ) → i < length waiting → Waits waiting i → (j : ℕ) × (j < length waiting) × Waits waiting j × (get_or s j 0 < get_or s i 0)) → (m i : ℕ) → i < length waiting → get_or s i 0 < m → Waits waiting i → ⊥
falls waiting s each zero i l b w = absurd (omega arith)
falls waiting s each (suc m) i l b w =
    let next = each i l w in
    let lower : get_or s next.0 0 < get_or s i 0 = next.3 in
    falls waiting s each m next.0 next.1 (omega (arith, lower, b)) next.2

none_left : (w : List Bool) → All (λ b. b ≡ false) w → sum_by one_where w ≡ 0
none_left [] h = refl
none_left (b ∷ w) h =
    sum_by-cons one_where b w ∙ (let e : one_where b ≡ 0 = ap one_where (All-head (λ b. b ≡ false) b w h) in
    let f : sum_by one_where w ≡ 0 = none_left w (All-tail (λ b. b ≡ false) b w h) in
    omega (arith, e, f))

pub goes_round : (cube : List Lit) (labels : List ℕ) (waiting : List Bool) (ranks : List ℕ) (next : ℕ) → CubeFits (length labels) cube → IsRanking cube labels waiting ranks next → next < length labels → EachWaitsOnAnother cube waiting → IsUnmet (length labels) cube
goes_round cube labels waiting ranks next fits r l each = λ sat.
    let s = sample_of (length labels) cube fits sat in
    let lower : ((i : ℕ) → i < length waiting → Waits waiting i → (j : ℕ) × (j < length waiting) × Waits waiting j × (get_or s.0 j 0 < get_or s.0 i 0)) = λ i b w. let x = each i b w in (x.0, x.1, x.2, lower_number s.0 x.0 i (x.3 (sampled s.0) s.1.met)) in
    let all : All (λ b. b ≡ false) waiting = λ i d b. subst (λ (v : Bool). v ≡ false) (get_or_default waiting i true d b) (false_from_ne_true (get_or waiting i true) (λ w. falls waiting s.0 lower (get_or s.0 i 0 + 1) i b (omega arith) w)) in
    omega (arith, none_left waiting all, r.left)

-- ---- a lowest waiting level is placed
module _ (waiting : List Bool) (i : ℕ) (l : i < length waiting) where
  pub placed_same : IsPlaced (set waiting i false) i
  placed_same = get_or-set_same waiting i false true l

  pub placed_other : (j : ℕ) → j ≢ i → IsPlaced (set waiting i false) j → IsPlaced waiting j
  placed_other j ne p = sym (get_or-set_other waiting i j false true ne) ∙ p

  pub stays_placed : (j : ℕ) → j ≢ i → IsPlaced waiting j → IsPlaced (set waiting i false) j
  stays_placed j ne p = get_or-set_other waiting i j false true ne ∙ p

  pub placed_differs : Waits waiting i → (j : ℕ) → IsPlaced waiting j → j ≢ i
  placed_differs w j p e =
      let p' : get_or waiting i true ≡ false = subst (IsPlaced waiting) e p in
      cc

module _ (first : ℕ) (cube : List Lit) (labels : List ℕ) (waiting : List Bool) (ranks : List ℕ) (next i : ℕ) (fits : CubeFits (length labels) cube) (labelling : IsLabelling (length labels) cube first labels) (r : IsRanking cube labels waiting ranks next) (low : IsLowest cube labels waiting i) where
  in_waiting : i < length waiting
  in_waiting = omega (arith, low.level, r.waiting_count)

  in_ranks : i < length ranks
  in_ranks = omega (arith, low.level, r.rank_count)

  rank_here : get_or (set ranks i next) i 0 ≡ next
  rank_here = get_or-set_same ranks i next 0 in_ranks

  rank_other : (j : ℕ) → j ≢ i → get_or (set ranks i next) j 0 ≡ get_or ranks j 0
  rank_other j ne = get_or-set_other ranks i j next 0 ne

  small_now : (j : ℕ) → j < length labels → IsPlaced (set waiting i false) j → (j ≡ i) ⊎ (j ≡ i → ⊥) → get_or (set ranks i next) j 0 < next + 1
  small_now j l p (inl e) = subst (λ x. get_or (set ranks i next) x 0 < next + 1) (sym e) (omega (arith, rank_here))
  small_now j l p (inr ne) =
      let s : get_or ranks j 0 < next = r.small j l (placed_other waiting i in_waiting j ne p) in
      omega (arith, rank_other j ne, s)

  -- the new rank is greater than those before
  fresh : (j : ℕ) → j < length labels → j ≢ i → IsPlaced (set waiting i false) j → get_or (set ranks i next) j 0 ≡ get_or (set ranks i next) i 0 → ⊥
  fresh j l ne p e =
      let s : get_or ranks j 0 < next = r.small j l (placed_other waiting i in_waiting j ne p) in
      omega (arith, rank_other j ne, rank_here, s, e)

  apart_now : (j k : ℕ) → j < length labels → k < length labels → IsPlaced (set waiting i false) j → IsPlaced (set waiting i false) k → get_or (set ranks i next) j 0 ≡ get_or (set ranks i next) k 0 → (j ≡ i) ⊎ (j ≡ i → ⊥) → (k ≡ i) ⊎ (k ≡ i → ⊥) → j ≡ k
  apart_now j k l m p q e (inl f) (inl g) = f ∙ sym g
  apart_now j k l m p q e (inl f) (inr g) =
      let e' : get_or (set ranks i next) i 0 ≡ get_or (set ranks i next) k 0 = subst (λ x. get_or (set ranks i next) x 0 ≡ get_or (set ranks i next) k 0) f e in
      absurd (fresh k m g q (sym e'))
  apart_now j k l m p q e (inr f) (inl g) =
      let e' : get_or (set ranks i next) j 0 ≡ get_or (set ranks i next) i 0 = subst (λ x. get_or (set ranks i next) j 0 ≡ get_or (set ranks i next) x 0) g e in
      absurd (fresh j l f p e')
  apart_now j k l m p q e (inr f) (inr g) =
      r.apart j k l m (placed_other waiting i in_waiting j f p) (placed_other waiting i in_waiting k g q) (sym (rank_other j f) ∙ (e ∙ rank_other k g))

  -- of two labels, x below y
  abbrev Stands : ℕ → ℕ → Type 0
  Stands x y =
      IsPlaced (set waiting i false) x × (get_or (set ranks i next) x 0 < get_or (set ranks i next) y 0)

  ordered_now : (x y : ℕ) → x < length labels → (y ≡ i → IsPlaced waiting x) → (IsPlaced waiting y → IsPlaced waiting x × (get_or ranks x 0 < get_or ranks y 0)) → IsPlaced (set waiting i false) y → (y ≡ i) ⊎ (y ≡ i → ⊥) → Stands x y
  ordered_now x y l lowest before p (inl e) =
      let px : IsPlaced waiting x = lowest e in
      let ne : x ≢ i = placed_differs waiting i in_waiting low.waits x px in
      let s : get_or ranks x 0 < next = r.small x l px in
      (stays_placed waiting i in_waiting x ne px, subst (λ z. get_or (set ranks i next) x 0 < get_or (set ranks i next) z 0) (sym e) (omega (arith, rank_here, rank_other x ne, s)))
  ordered_now x y l lowest before p (inr ne) =
      let old = before (placed_other waiting i in_waiting y ne p) in
      let s : get_or ranks x 0 < get_or ranks y 0 = old.1 in
      let nx : x ≢ i = placed_differs waiting i in_waiting low.waits x old.0 in
      (stays_placed waiting i in_waiting x nx old.0, omega (arith, rank_other x nx, rank_other y ne, s))

  pub one_more : IsRanking cube labels (set waiting i false) (set ranks i next) (next + 1)
  one_more = record {
    rank_count = length-set ranks i next ∙ r.rank_count;
    waiting_count = length-set waiting i false ∙ r.waiting_count;
    small = λ j l p. small_now j l p (cases_eq j i);
    apart = λ j k l m p q e. apart_now j k l m p q e (cases_eq j i) (cases_eq k i);
    ordered = λ k d b q p. let m : Lit = get_or cube k d in ordered_now (get_or labels m.left 0) (get_or labels m.right 0) (labelling.small m.left (fits k d b).0) (λ e. low.lowest k d b q e) (λ f. r.ordered k d b q f) p (cases_eq (get_or labels m.right 0) i);
    left = let e : one_where (get_or waiting i true) ≡ 1 = ap one_where low.waits in
        omega (arith, sum_by-set one_where waiting i false true in_waiting, e, r.left);
  }
