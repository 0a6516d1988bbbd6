-- Labels that wait for those below them, by the number of steps to them.
use Rattle.std.proofs.Common.{◌≡◌, ℕ, zero, suc, ◌+◌, ◌-◌, ◌<◌, ◌≤◌, ◌⊎◌, inl, inr, Bool, true, false, ◌&&◌, ◌==◌, cond, List, [], ◌∷◌, ◌++◌, length, get_or, set, map, take, replicate, refl, sym, ap, ◌∙◌, subst, arith, eq-eqb, length-append, length-take}
use Rattle.std.proofs.lemmas.Bool.{cases_eq, cases_lt, eqb-true}
use Rattle.std.proofs.lemmas.List.{length-replicate, get_or-replicate, get_or_default, get_or-set_same, get_or-set_other, get_or_past, get_or_push, get_or_append_left}
use Rattle.std.proofs.lemmas.List.Elements.{All-nil, All-cons, All-push, Contains-push, Contains-append_left, Contains-push_cases, Contains-get_or, All-contains}
use Rattle.std.proofs.lemmas.List.Quantifiers.{all_pairs_push}
use Rattle.std.proofs.lemmas.List.Sums.{sum_by-cons, count_by_more_yes, count_by_more_no, count_by-le-length, sum_by-set}
use Rattle.std.proofs.lemmas.List.Folds.{sum_by-replicate}
use Rattle.std.specs.List.{All, AllPairs, Contains, count_by, filter}
use Rattle.lois_base.specs.Fits.{CubeFits}
use Rattle.lois_base.specs.declared.guards.Lit.{Lit}
use Rattle.lois_base.specs.declared.guards.Op.{Op}
use Rattle.lois_base.specs.declared.guards.Op.TheVariants.{Eq, Ne, Lt, AtMost}
use Rattle.lois_base.proofs.Booleans.{and_first, and_second}
use Rattle.lois_deciders.specs.Labels.{Follows, IsLabelling, IsUnmet}
use Rattle.lois_deciders.specs.Ranks.{is_less, is_step_to, is_step_from, occurrences, AreUnheld, IsReleasedLabel, IsReleased, IsFullRanking}
use Rattle.lois_deciders.proofs.Ranking.{Waits, IsPlaced, WaitsOnAnother, IsLowest, one_where, IsRanking}
use Rattle.lois_deciders.proofs.Following.{literal_follows, follows_below}
use Rattle.lois_deciders.proofs.Ranked.{placed_same, one_more, goes_round}

-- ---- counts
module _ {X : Type 0} (p : X → Bool) where
  count_cons : (x : X) (xs : List X) → count_by p (x ∷ xs) ≡ cond (p x) 1 0 + count_by p xs
  count_cons x xs = sum_by-cons (λ y. cond (p y) 1 0) x xs

  none_first : (x : X) (xs : List X) → count_by p (x ∷ xs) ≡ 0 → (b : Bool) → p x ≡ b → (count_by p xs ≡ 0 → All (λ x. p x ≡ false) xs) → All (λ x. p x ≡ false) (x ∷ xs)
  none_first x xs e true h rest =
      let c : cond (p x) 1 0 ≡ 1 = ap one_where h in
      absurd (omega (arith, c, count_cons x xs, e))
  none_first x xs e false h rest = All-cons (λ x. p x ≡ false) x xs h (rest (omega (arith, count_cons x xs, e)))

  none_counted : (xs : List X) → count_by p xs ≡ 0 → All (λ x. p x ≡ false) xs
  none_counted [] e = All-nil (λ x. p x ≡ false)
  none_counted (x ∷ xs) e = none_first x xs e (p x) refl (none_counted xs)

  abbrev SomePasses : List X → Type 0
  SomePasses xs = (i : ℕ) × (i < length xs) × ((d : X) → p (get_or xs i d) ≡ true)

  some_first : (x : X) (xs : List X) → 0 < count_by p (x ∷ xs) → (b : Bool) → p x ≡ b → (0 < count_by p xs → SomePasses xs) → SomePasses (x ∷ xs)
  some_first x xs l true h rest = (0, omega arith, λ d. h)
  some_first x xs l false h rest =
      let c : cond (p x) 1 0 ≡ 0 = ap one_where h in
      let r = rest (omega (arith, l, c, count_cons x xs)) in
      (suc r.0, omega (arith, r.1), r.2)

  some_counted : (xs : List X) → 0 < count_by p xs → SomePasses xs
  some_counted [] l = absurd (omega (arith, l))
  some_counted (x ∷ xs) l = some_first x xs l (p x) refl (some_counted xs)

  pub count_take : (n : ℕ) (xs : List X) → count_by p (take n xs) ≤ count_by p xs
  count_take zero xs = omega arith
  count_take (suc n) [] = omega arith
  count_take (suc n) (x ∷ xs) =
      omega (arith, count_cons x (take n xs), count_cons x xs, count_take n xs)

  pub count_so_far : (xs : List X) (i : ℕ) → count_by p (take i xs) ≤ i
  count_so_far xs i = omega (arith, count_by-le-length p (take i xs), length-take i xs)

pub read_at : (steps : List ℕ) (y v : ℕ) → v ≡ get_or steps y v → y < length steps → v ≡ get_or steps y 0
read_at steps y v is l = is ∙ get_or_default steps y v 0 l

pub read_count : (steps : List ℕ) (y v b : ℕ) → v ≡ get_or steps y v → y < length steps → get_or steps y 0 ≤ b → v ≤ b
read_count steps y v b is l h = omega (arith, is, get_or_default steps y v 0 l, h)

-- how many `<` set a waiting label below the label y
abbrev holds_back : List ℕ → List Bool → ℕ → Lit → Bool
holds_back labels waiting y l = is_step_to labels y l && get_or waiting (get_or labels l.left 0) true

abbrev pub waiting_below : List ℕ → List Bool → List Lit → ℕ → ℕ
waiting_below labels waiting cube y = count_by (holds_back labels waiting y) cube

abbrev uppers : List ℕ → ℕ → List Lit → List ℕ
uppers labels x cube = map (λ l. get_or labels l.right 0) (filter (is_step_from labels x) cube)

-- ---- a label is placed
module _ (labels : List ℕ) (waiting : List Bool) (x y : ℕ) (in_range : x < length waiting) (waits : Waits waiting x) where
  module _ (l : Lit) (k : List Lit) (rest : waiting_below labels waiting k y ≡ waiting_below labels (set waiting x false) k y + occurrences y (uppers labels x k)) where
    abbrev before_here : Bool → Bool → ℕ
    before_here s r = cond ((s && r) && get_or waiting (get_or labels l.left 0) true) 1 0

    abbrev after_here : Bool → Bool → ℕ
    after_here s r = cond ((s && r) && get_or (set waiting x false) (get_or labels l.left 0) true) 1 0

    abbrev listed_here : Bool → Bool → List ℕ
    listed_here s e = map (λ l. get_or labels l.right 0) (cond (s && e) (l ∷ filter (is_step_from labels x) k) (filter (is_step_from labels x) k))

    counted : (s r e : Bool) → (get_or labels l.right 0 == y) ≡ r → (get_or labels l.left 0 == x) ≡ e → before_here s r + waiting_below labels waiting k y ≡ (after_here s r + waiting_below labels (set waiting x false) k y) + occurrences y (listed_here s e)
    counted false r e f g = omega (arith, rest)
    counted true r true f g =
        let is_x : get_or labels l.left 0 ≡ x = eqb-true (get_or labels l.left 0) x g in
        let w : get_or waiting (get_or labels l.left 0) true ≡ true = subst (Waits waiting) (sym is_x) waits in
        let w' : get_or (set waiting x false) (get_or labels l.left 0) true ≡ false = subst (IsPlaced (set waiting x false)) (sym is_x) (placed_same waiting x in_range) in
        let a : before_here true r ≡ cond (r && true) 1 0 = ap (λ b. one_where (r && b)) w in
        let b : after_here true r ≡ cond (r && false) 1 0 = ap (λ b. one_where (r && b)) w' in
        let c : cond (get_or labels l.right 0 == y) 1 0 ≡ cond r 1 0 = ap one_where f in
        omega (arith, rest, a, b, c, both_ways r, count_cons (λ u. u == y) (get_or labels l.right 0) (uppers labels x k))
      where
        both_ways : (r : Bool) → cond (r && true) 1 0 ≡ cond (r && false) 1 0 + cond r 1 0
        both_ways true = refl
        both_ways false = refl
    counted true r false f g =
        let ne : get_or labels l.left 0 ≡ x → ⊥ = λ e. let t : (get_or labels l.left 0 == x) ≡ true = eq-eqb (get_or labels l.left 0) x e in cc in
        let same : get_or (set waiting x false) (get_or labels l.left 0) true ≡ get_or waiting (get_or labels l.left 0) true = get_or-set_other waiting x (get_or labels l.left 0) false true ne in
        let a : before_here true r ≡ after_here true r = ap (λ b. one_where (r && b)) (sym same) in
        omega (arith, rest, a)

  pub released : (k : List Lit) → waiting_below labels waiting k y ≡ waiting_below labels (set waiting x false) k y + occurrences y (uppers labels x k)
  released [] = omega arith
  released (l ∷ k) =
      let h = counted l k (released k) (is_less l.op) (get_or labels l.right 0 == y) (get_or labels l.left 0 == x) refl refl in
      omega (arith, h, count_cons (holds_back labels waiting y) l k, count_cons (holds_back labels (set waiting x false) y) l k)

-- ---- one step less
module _ (steps0 steps : List ℕ) (above : List ℕ) (i : ℕ) (u : ℕ) (l : i < length above) (is : u ≡ get_or above i 0) (enough : (y : ℕ) → occurrences y above ≤ get_or steps0 y 0) (so_far : (y : ℕ) → get_or steps y 0 + occurrences y (take i above) ≡ get_or steps0 y 0) where
  counted_here : occurrences u (take (i + 1) above) ≡ occurrences u (take i above) + 1
  counted_here = count_by_more_yes (λ x. x == u) above i 0 l (eq-eqb (get_or above i 0) u (sym is))

  counted_other : (y : ℕ) → (y ≡ u → ⊥) → occurrences y (take (i + 1) above) ≡ occurrences y (take i above)
  counted_other y ne =
      count_by_more_no (λ x. x == y) above i 0 l (not_eq (get_or above i 0 == y) refl)
    where
      not_eq : (b : Bool) → (get_or above i 0 == y) ≡ b → (get_or above i 0 == y) ≡ false
      not_eq true e = absurd (ne (sym (is ∙ eqb-true (get_or above i 0) y e)))
      not_eq false e = e

  pub some_left : 0 < get_or steps u 0
  some_left = omega (arith, counted_here, count_take (λ x. x == u) (i + 1) above, enough u, so_far u)

  pub was_held : 0 < get_or steps0 u 0
  was_held = omega (arith, some_left, so_far u)

  pub within : u < length steps
  within = go (cases_lt u (length steps))
    where
      go : (u < length steps) ⊎ (length steps ≤ u) → u < length steps
      go (inl m) = m
      go (inr m) = absurd (omega (arith, some_left, get_or_past steps u 0 m))

  abbrev lower : List ℕ
  lower = set steps u (get_or steps u 0 - 1)

  pub lower_here : get_or lower u 0 ≡ get_or steps u 0 - 1
  lower_here = get_or-set_same steps u (get_or steps u 0 - 1) 0 within

  lower_other : (y : ℕ) → (y ≡ u → ⊥) → get_or lower y 0 ≡ get_or steps y 0
  lower_other y ne = get_or-set_other steps u y (get_or steps u 0 - 1) 0 ne

  pub lower_steps : (y : ℕ) → get_or lower y 0 + occurrences y (take (i + 1) above) ≡ get_or steps0 y 0
  lower_steps y = go (cases_eq y u)
    where
      go : (y ≡ u) ⊎ (y ≡ u → ⊥) → get_or lower y 0 + occurrences y (take (i + 1) above) ≡ get_or steps0 y 0
      go (inl e) =
          subst (λ z. get_or lower z 0 + occurrences z (take (i + 1) above) ≡ get_or steps0 z 0) (sym e) (omega (arith, lower_here, counted_here, some_left, so_far u))
      go (inr ne) = omega (arith, lower_other y ne, counted_other y ne, so_far y)

  module _ (free next : List ℕ) (h : IsReleased steps0 steps free next) where
    still : (z : ℕ) → IsReleasedLabel steps0 steps z → IsReleasedLabel steps0 lower z
    still z r =
        let ne : z ≡ u → ⊥ = λ e. let s : get_or steps u 0 ≡ 0 = subst (λ x. get_or steps x 0 ≡ 0) e r.1 in omega (arith, s, some_left) in
        (r.0, lower_other z ne ∙ r.1)

    still_added : (z : ℕ) → Contains free z ⊎ IsReleasedLabel steps0 steps z → Contains free z ⊎ IsReleasedLabel steps0 lower z
    still_added z (inl c) = inl c
    still_added z (inr r) = inr (still z r)

    was : (z : ℕ) → (z ≡ u → ⊥) → IsReleasedLabel steps0 lower z → IsReleasedLabel steps0 steps z
    was z ne r = (r.0, sym (lower_other z ne) ∙ r.1)

    -- the last step has gone
    pub released_more : get_or lower u 0 ≡ 0 → IsReleased steps0 lower free (next ++ u ∷ [])
    released_more gone = record {
      keeps = λ k d m. Contains-append_left next (u ∷ []) (get_or free k d) (h.keeps k d m);
      added = All-push (λ z. Contains free z ⊎ IsReleasedLabel steps0 lower z) next u (λ k d m. still_added (get_or next k d) (h.added k d m)) (inr (was_held, gone));
      found = λ z r. found_now z r (cases_eq z u);
      distinct = λ d none. all_pairs_push (λ y z. y ≡ z → ⊥) next u (h.distinct d none) (λ k e m same. differs (get_or next k e) same none (h.added k e m));
    }
      where
        found_now : (z : ℕ) → IsReleasedLabel steps0 lower z → (z ≡ u) ⊎ (z ≡ u → ⊥) → Contains (next ++ u ∷ []) z
        found_now z r (inl e) = subst (Contains (next ++ u ∷ [])) (sym e) (Contains-push next u)
        found_now z r (inr ne) = Contains-append_left next (u ∷ []) z (h.found z (was z ne r))

        differs : (z : ℕ) → z ≡ u → All (λ z. get_or steps0 z 0 ≡ 0) free → Contains free z ⊎ IsReleasedLabel steps0 steps z → ⊥
        differs z same none (inl c) =
            let e : get_or steps0 z 0 ≡ 0 = All-contains (λ z. get_or steps0 z 0 ≡ 0) free z none c in
            let f : get_or steps0 u 0 ≡ 0 = subst (λ x. get_or steps0 x 0 ≡ 0) same e in
            omega (arith, f, was_held)
        differs z same none (inr r) =
            let f : get_or steps u 0 ≡ 0 = subst (λ x. get_or steps x 0 ≡ 0) same r.1 in
            omega (arith, f, some_left)

    -- steps are left
    pub released_same : (get_or lower u 0 ≡ 0 → ⊥) → IsReleased steps0 lower free next
    released_same left = record {
      keeps = h.keeps;
      added = λ k d m. still_added (get_or next k d) (h.added k d m);
      found = λ z r. found_now z r (cases_eq z u);
      distinct = h.distinct;
    }
      where
        found_now : (z : ℕ) → IsReleasedLabel steps0 lower z → (z ≡ u) ⊎ (z ≡ u → ⊥) → Contains next z
        found_now z r (inl e) = absurd (left (subst (λ x. get_or lower x 0 ≡ 0) e r.1))
        found_now z r (inr ne) = h.found z (was z ne r)

pub nothing_released : (steps free : List ℕ) → IsReleased steps steps free free
nothing_released steps free = record {
  keeps = λ k d m. Contains-get_or free k d m;
  added = λ k d m. inl (Contains-get_or free k d m);
  found = λ z r. absurd (omega (arith, r.0, r.1));
  distinct = λ d none. d;
}

-- ---- the labels to which no step leads, up to the label i
module _ (steps : List ℕ) (i : ℕ) (l : i < length steps) (unheld : List ℕ) (free : All (λ z. (z < i) × (get_or steps z 0 ≡ 0)) unheld) (found : (z : ℕ) → z < i → get_or steps z 0 ≡ 0 → Contains unheld z) where
  pub still_free : All (λ z. (z < i + 1) × (get_or steps z 0 ≡ 0)) unheld
  still_free k d m = let f = free k d m in (omega (arith, f.0), f.1)

  pub also_free : get_or steps i 0 ≡ 0 → All (λ z. (z < i + 1) × (get_or steps z 0 ≡ 0)) (unheld ++ i ∷ [])
  also_free e = All-push (λ z. (z < i + 1) × (get_or steps z 0 ≡ 0)) unheld i still_free (omega arith, e)

  pub also_found : get_or steps i 0 ≡ 0 → (z : ℕ) → z < i + 1 → get_or steps z 0 ≡ 0 → Contains (unheld ++ i ∷ []) z
  also_found e z m f = go (cases_lt z i)
    where
      go : (z < i) ⊎ (i ≤ z) → Contains (unheld ++ i ∷ []) z
      go (inl b) = Contains-append_left unheld (i ∷ []) z (found z b f)
      go (inr b) = let same : i ≡ z = omega arith in subst (Contains (unheld ++ i ∷ [])) same (Contains-push unheld i)

  pub still_found : (get_or steps i 0 ≡ 0 → ⊥) → (z : ℕ) → z < i + 1 → get_or steps z 0 ≡ 0 → Contains unheld z
  still_found ne z m f = go (cases_lt z i)
    where
      go : (z < i) ⊎ (i ≤ z) → Contains unheld z
      go (inl b) = found z b f
      go (inr b) = let same : z ≡ i = omega arith in absurd (ne (subst (λ j. get_or steps j 0 ≡ 0) same f))

  pub also_distinct : AllPairs (λ y z. y ≡ z → ⊥) unheld → AllPairs (λ y z. y ≡ z → ⊥) (unheld ++ i ∷ [])
  also_distinct h =
      all_pairs_push (λ y z. y ≡ z → ⊥) unheld i h (λ k d m e. let f = free k d m in omega (arith, f.0, e))

-- ---- the ranks so far, and what is ready for the next one
abbrev IsReady : ℕ → List Bool → List ℕ → ℕ → Type 0
IsReady n waiting steps z = (z < n) × Waits waiting z × (get_or steps z 0 ≡ 0)

pub record IsQueue (cube : List Lit) (labels : List ℕ) (steps unheld ranks : List ℕ) (next : ℕ) (waiting : List Bool) : Type 0 where
  pub ranking : IsRanking cube labels waiting ranks next
  pub exact : (y : ℕ) → get_or steps y 0 ≡ waiting_below labels waiting cube y
  pub ready : All (IsReady (length labels) waiting steps) unheld
  pub distinct : AllPairs (λ y z. y ≡ z → ⊥) unheld
  pub complete : (y : ℕ) → y < length labels → Waits waiting y → get_or steps y 0 ≡ 0 → Contains unheld y

is_lt : (o : Op) → o ≡ Lt → is_less o ≡ true
is_lt Eq e = absurd (cc)
is_lt Ne e = absurd (cc)
is_lt Lt e = refl
is_lt AtMost e = absurd (cc)

is_step_lt : (o : Op) → is_less o ≡ true → o ≡ Lt
is_step_lt Eq e = absurd (cc)
is_step_lt Ne e = absurd (cc)
is_step_lt Lt e = refl
is_step_lt AtMost e = absurd (cc)

last_fails : (p q : Bool) → (p && q) ≡ false → p ≡ true → q ≡ false
last_fails true q h e = h
last_fails false q h e = absurd (cc)

both_hold : (p q : Bool) → p ≡ true → q ≡ true → (p && q) ≡ true
both_hold p q e f = rw (e, f) refl

module _ (cube : List Lit) (labels steps ranks : List ℕ) (next : ℕ) (waiting : List Bool) (fits : CubeFits (length labels) cube) (labelling : IsLabelling (length labels) cube (length cube) labels) where
  -- what holds a label back
  blocker : (unheld : List ℕ) → IsQueue cube labels steps unheld ranks next waiting → (y : ℕ) → 0 < get_or steps y 0 → WaitsOnAnother cube waiting y × ((z : ℕ) → z ≡ y → Waits waiting z)
  blocker unheld q y l =
      let r = some_counted (holds_back labels waiting y) cube (omega (arith, l, q.exact y)) in
      let d : Lit = record { op = Eq; left = 0; right = 0 } in
      let m : Lit = get_or cube r.0 d in
      let held : holds_back labels waiting y m ≡ true = r.2 d in
      let to_y : is_step_to labels y m ≡ true = and_first (is_step_to labels y m) _ held in
      let waits : Waits waiting (get_or labels m.left 0) = and_second (is_step_to labels y m) _ held in
      let lt : m.op ≡ Lt = is_step_lt m.op (and_first (is_less m.op) _ to_y) in
      let at : get_or labels m.right 0 ≡ y = eqb-true (get_or labels m.right 0) y (and_second (is_less m.op) _ to_y) in
      let small : get_or labels m.left 0 < length waiting = let s = labelling.small m.left (fits r.0 d r.1).0 in omega (arith, s, q.ranking.waiting_count) in
      let follows = follows_below cube m.left (get_or labels m.left 0) m.right (get_or labels m.right 0) (labelling.equal m.left (fits r.0 d r.1).0) (labelling.equal m.right (fits r.0 d r.1).1) (literal_follows cube r.0 d Lt r.1 lt) in (
        (get_or labels m.left 0, small, waits, subst (λ j. Follows cube Lt (get_or labels m.left 0) j) at follows),
        λ z e. not_placed z (λ p. let low : IsPlaced waiting (get_or labels m.left 0) = (q.ranking.ordered r.0 d r.1 lt (subst (IsPlaced waiting) (e ∙ sym at) p)).0 in cc),
      )
    where
      not_placed : (z : ℕ) → (IsPlaced waiting z → ⊥) → Waits waiting z
      not_placed z f = go (get_or waiting z true) refl
        where
          go : (b : Bool) → get_or waiting z true ≡ b → Waits waiting z
          go true e = e
          go false e = absurd (f e)

  -- nothing is ready
  pub no_label_ready : IsQueue cube labels steps [] ranks next waiting → next < length labels → IsUnmet (length labels) cube
  no_label_ready q l = goes_round cube labels waiting ranks next fits q.ranking l (λ i m w. held i m w)
    where
      held : (i : ℕ) → i < length waiting → Waits waiting i → WaitsOnAnother cube waiting i
      held i m w = go (cases_eq (get_or steps i 0) 0)
        where
          go : (get_or steps i 0 ≡ 0) ⊎ (get_or steps i 0 ≡ 0 → ⊥) → WaitsOnAnother cube waiting i
          go (inl e) =
              let c = q.complete i (omega (arith, m, q.ranking.waiting_count)) w e in
              absurd (omega (arith, c.1))
          go (inr ne) = (blocker [] q i (omega (arith, ne))).0

  -- a label that is ready takes the next rank
  module _ (rest : List ℕ) (x : ℕ) (q : IsQueue cube labels steps (rest ++ x ∷ []) ranks next waiting) (lower after : List ℕ) (dropped : (y : ℕ) → get_or lower y 0 + occurrences y (uppers labels x cube) ≡ get_or steps y 0) (moved : IsReleased steps lower rest after) where
    x_ready : IsReady (length labels) waiting steps x
    x_ready = All-contains (IsReady (length labels) waiting steps) (rest ++ x ∷ []) x q.ready (Contains-push rest x)

    in_waiting : x < length waiting
    in_waiting = omega (arith, x_ready.0, q.ranking.waiting_count)

    lowest : IsLowest cube labels waiting x
    lowest = record {
      level = x_ready.0;
      waits = x_ready.1;
      lowest = λ k d l lt at. let m : Lit = get_or cube k d in
          let none : holds_back labels waiting x m ≡ false = none_counted (holds_back labels waiting x) cube (sym (q.exact x) ∙ x_ready.2) k d l in
          last_fails (is_step_to labels x m) _ none (both_hold (is_less m.op) _ (is_lt m.op lt) (eq-eqb (get_or labels m.right 0) x at));
    }

    waits_now : (z : ℕ) → (z ≡ x → ⊥) → Waits waiting z → Waits (set waiting x false) z
    waits_now z ne w = get_or-set_other waiting x z false true ne ∙ w

    waited : (z : ℕ) → Waits (set waiting x false) z → (z ≡ x → ⊥) × Waits waiting z
    waited z w =
        let ne : z ≡ x → ⊥ = λ e. let p : IsPlaced (set waiting x false) z = subst (IsPlaced (set waiting x false)) (sym e) (placed_same waiting x in_waiting) in cc in
        (ne, sym (get_or-set_other waiting x z false true ne) ∙ w)

    lower_le : (z : ℕ) → get_or steps z 0 ≡ 0 → get_or lower z 0 ≡ 0
    lower_le z e = omega (arith, e, dropped z)

    ready_now : (z : ℕ) → Contains rest z ⊎ IsReleasedLabel steps lower z → IsReady (length labels) (set waiting x false) lower z
    ready_now z (inl c) =
        let r = All-contains (IsReady (length labels) waiting steps) (rest ++ x ∷ []) z q.ready (Contains-append_left rest (x ∷ []) z c) in
        (r.0, waits_now z (differs z c) r.1, lower_le z r.2)
      where
        differs : (z : ℕ) → Contains rest z → z ≡ x → ⊥
        differs z c e =
            let l : c.0 < length rest = c.1 in
            let at : get_or (rest ++ x ∷ []) c.0 x ≡ z = get_or_append_left rest (x ∷ []) x c.0 l ∙ (get_or_default rest c.0 x z l ∙ c.2) in
            let end : get_or (rest ++ x ∷ []) (length rest) x ≡ x = get_or_push rest x x (length rest) refl in
            q.distinct c.0 (length rest) x l (omega (arith, length-append rest (x ∷ []))) (at ∙ (e ∙ sym end))
    ready_now z (inr r) =
        let ne : z ≡ x → ⊥ = λ e. let s : get_or steps x 0 ≡ 0 = x_ready.2 in let p : 0 < get_or steps x 0 = subst (λ j. 0 < get_or steps j 0) e r.0 in omega (arith, s, p) in
        let w : Waits waiting z = (blocker (rest ++ x ∷ []) q z r.0).1 z refl in
        (z_small z w r.0, waits_now z ne w, r.1)
      where
        z_small : (z : ℕ) → Waits waiting z → 0 < get_or steps z 0 → z < length labels
        z_small z w l =
            let c = some_counted (holds_back labels waiting z) cube (omega (arith, l, q.exact z)) in
            let d : Lit = record { op = Eq; left = 0; right = 0 } in
            let m : Lit = get_or cube c.0 d in
            let at : get_or labels m.right 0 ≡ z = eqb-true (get_or labels m.right 0) z (and_second (is_less m.op) _ (and_first (is_step_to labels z m) _ (c.2 d))) in
            subst (λ j. j < length labels) at (labelling.small m.right (fits c.0 d c.1).1)

    complete_now : (y : ℕ) → y < length labels → Waits (set waiting x false) y → get_or lower y 0 ≡ 0 → (get_or steps y 0 ≡ 0) ⊎ (get_or steps y 0 ≡ 0 → ⊥) → Contains after y
    complete_now y l w e (inl z) =
        let v = waited y w in
        All-contains (Contains after) rest y moved.keeps (others (q.complete y l v.1 z))
      where
        others : Contains (rest ++ x ∷ []) y → Contains rest y
        others c = elim (Contains-push_cases rest x y c) [ inl d ↦ d | inr f ↦ absurd ((waited y w).0 (sym f)) ]
    complete_now y l w e (inr z) = moved.found y (omega (arith, z), e)

    pub next_queue : IsQueue cube labels lower after (set ranks x next) (next + 1) (set waiting x false)
    next_queue = record {
      ranking = one_more (length cube) cube labels waiting ranks next x fits labelling q.ranking lowest;
      exact = λ y. omega (arith, dropped y, q.exact y, released labels waiting x y in_waiting x_ready.1 cube);
      ready = λ k d l. ready_now (get_or after k d) (moved.added k d l);
      distinct = moved.distinct (λ i j d l m. rest_distinct i j d l m) (λ k d l. (All-contains (IsReady (length labels) waiting steps) (rest ++ x ∷ []) (get_or rest k d) q.ready (Contains-append_left rest (x ∷ []) (get_or rest k d) (Contains-get_or rest k d l))).2);
      complete = λ y l w e. complete_now y l w e (cases_eq (get_or steps y 0) 0);
    }
      where
        rest_distinct : (i j : ℕ) (d : ℕ) → i < j → j < length rest → get_or rest i d ≡ get_or rest j d → ⊥
        rest_distinct i j d l m e =
            q.distinct i j d l (omega (arith, m, length-append rest (x ∷ []))) (get_or_append_left rest (x ∷ []) d i (omega (arith, l, m)) ∙ (e ∙ sym (get_or_append_left rest (x ∷ []) d j m)))

-- ---- before the first rank
all_wait : (n i : ℕ) → Waits (replicate n true) i
all_wait n i = go (cases_lt i n)
  where
    go : (i < n) ⊎ (n ≤ i) → Waits (replicate n true) i
    go (inl l) = get_or-replicate n i true true l
    go (inr l) = get_or_past (replicate n true) i true (omega (arith, l, length-replicate n true))

none_placed : (n i : ℕ) → IsPlaced (replicate n true) i → ⊥
none_placed n i p = let w : get_or (replicate n true) i true ≡ true = all_wait n i in cc

steps_wait : (labels : List ℕ) (n y : ℕ) (cube : List Lit) → waiting_below labels (replicate n true) cube y ≡ count_by (is_step_to labels y) cube
steps_wait labels n y [] = refl
steps_wait labels n y (l ∷ k) =
    let e : holds_back labels (replicate n true) y l ≡ is_step_to labels y l = ap (λ b. is_step_to labels y l && b) (all_wait n (get_or labels l.left 0)) ∙ and_true (is_step_to labels y l) in
    let f : cond (holds_back labels (replicate n true) y l) 1 0 ≡ cond (is_step_to labels y l) 1 0 = ap one_where e in
    omega (arith, f, steps_wait labels n y k, count_cons (holds_back labels (replicate n true) y) l k, count_cons (is_step_to labels y) l k)
  where
    and_true : (b : Bool) → (b && true) ≡ b
    and_true true = refl
    and_true false = refl

pub first_queue : (cube : List Lit) (labels steps unheld ranks : List ℕ) → length steps ≡ length labels → length ranks ≡ length labels → ((y : ℕ) → get_or steps y 0 ≡ count_by (is_step_to labels y) cube) → AreUnheld steps unheld → (waiting : List Bool) × IsQueue cube labels steps unheld ranks 0 waiting
first_queue cube labels steps unheld ranks as_many of_ranks counts h = (
  replicate (length labels) true,
  record {
    ranking = record {
      rank_count = of_ranks;
      waiting_count = length-replicate (length labels) true;
      small = λ i l p. absurd (none_placed (length labels) i p);
      apart = λ i j l m p q e. absurd (none_placed (length labels) i p);
      ordered = λ k d l e p. absurd (none_placed (length labels) _ p);
      left = omega (arith, sum_by-replicate one_where (length labels) true);
    };
    exact = λ y. counts y ∙ sym (steps_wait labels (length labels) y cube);
    ready = λ k d l. let f = h.free k d l in (omega (arith, f.0, as_many), all_wait (length labels) (get_or unheld k d), f.1);
    distinct = h.distinct;
    complete = λ y l w e. h.found y (omega (arith, l, as_many)) e;
  },
)

-- ---- what is released at a rank
pub enough_steps : (cube : List Lit) (labels steps unheld ranks : List ℕ) (next : ℕ) (waiting : List Bool) (x : ℕ) → IsQueue cube labels steps unheld ranks next waiting → Contains unheld x → (y : ℕ) → occurrences y (map (λ l. get_or labels l.right 0) (filter (is_step_from labels x) cube)) ≤ get_or steps y 0
enough_steps cube labels steps unheld ranks next waiting x q c y =
    let r = All-contains (IsReady (length labels) waiting steps) unheld x q.ready c in
    let l : x < length waiting = omega (arith, r.0, q.ranking.waiting_count) in
    omega (arith, q.exact y, released labels waiting x y l r.1 cube)

pub ready_level : (cube : List Lit) (labels steps unheld ranks : List ℕ) (next : ℕ) (waiting : List Bool) (x : ℕ) → IsQueue cube labels steps unheld ranks next waiting → Contains unheld x → x < length labels
ready_level cube labels steps unheld ranks next waiting x q c =
    (All-contains (IsReady (length labels) waiting steps) unheld x q.ready c).0

-- ---- at last
pub all_ranked : (cube : List Lit) (labels : List ℕ) (waiting : List Bool) (ranks : List ℕ) → CubeFits (length labels) cube → IsLabelling (length labels) cube (length cube) labels → IsRanking cube labels waiting ranks (length labels) → IsFullRanking cube labels ranks
all_ranked cube labels waiting ranks fits labelling r = record {
  count = r.rank_count;
  small = λ i l. r.small i l (placed i l);
  apart = λ i j l m e. r.apart i j l m (placed i l) (placed j m) e;
  ordered = λ k d l e. (r.ordered k d l e (placed (get_or labels (get_or cube k d).right 0) (labelling.small (get_or cube k d).right (fits k d l).1))).1;
}
  where
    placed : (i : ℕ) → i < length labels → IsPlaced waiting i
    placed i l = go (get_or waiting i true) refl
      where
        go : (b : Bool) → get_or waiting i true ≡ b → IsPlaced waiting i
        go false e = e
        go true e =
            let one : one_where (get_or waiting i true) ≡ 1 = ap one_where e in
            absurd (omega (arith, one, sum_by-set one_where waiting i false true (omega (arith, l, r.waiting_count)), r.left))
