-- A list of the patterns in which n atoms can stand: each choice of n atoms stands as the numbers of one of them.
use Rattle.std.proofs.Common.{◌≡◌, ℕ, zero, suc, ◌+◌, ◌*◌, ◌<◌, ◌≤◌, ◌⊎◌, inl, inr, Bool, true, false, not, cond, List, [], ◌∷◌, ◌++◌, map, length, max, get_or, length-append, append_assoc, append-nil, ltb, refl, sym, ap, ◌∙◌, subst, arith}
use Rattle.std.proofs.lemmas.Bool.{cases_Bool, cases_lt, lt-ltb, ltb-true, true≢false}
use Rattle.std.proofs.lemmas.List.{get_or-map, get_or_append_left, length-map}
use Rattle.std.specs.Bool.{IsTrue, IsFalse}
use mathlib.Core.List.{map-append}
use Rattle.lois_base.specs.Atom.{Atom, equal, below, whole}
use Rattle.lois_base.specs.Patterns.{Agree, AreAlike}
use Rattle.lois_base.specs.Truth.{atom_at, op_holds, sampled}
use Rattle.lois_base.specs.Validity.{is_admitted}
use Rattle.lois_base.specs.declared.guards.Op.{Op}
use Rattle.lois_base.specs.declared.guards.Op.TheVariants.{Eq, Ne, Lt, AtMost}
use Rattle.lois_base.proofs.Choices.{atom_at_end}
use Rattle.lois_base.proofs.Order.{equal_refl, equal_sym, equal_is_neither, below_irrefl, below_asym, below_at_most, equals_from, same_truth, test}
use Rattle.lois_base.proofs.Samples.{below_whole}
use Rattle.lois_base.proofs.Truths.{op_respects}
use Rattle.lois_cases.specs.CaseCount.{gaps, patterns}

module _ {X : Type 0} where
  abbrev pub In : List X → X → Type 0
  In [] x = ⊥
  In (y ∷ ys) x = (y ≡ x) ⊎ In ys x

  in_left : (xs ys : List X) (x : X) → In xs x → In (xs ++ ys) x
  in_left (z ∷ xs) ys x (inl h) = inl h
  in_left (z ∷ xs) ys x (inr h) = inr (in_left xs ys x h)
  in_left [] ys x h = absurd h

  in_right : (xs ys : List X) (x : X) → In ys x → In (xs ++ ys) x
  in_right [] ys x h = h
  in_right (z ∷ xs) ys x h = inr (in_right xs ys x h)

  in_either : (xs ys : List X) (x : X) → In (xs ++ ys) x → In xs x ⊎ In ys x
  in_either [] ys x h = inr h
  in_either (z ∷ xs) ys x (inl h) = inl (inl h)
  in_either (z ∷ xs) ys x (inr h) = elim (in_either xs ys x h) [ inl l ↦ inl (inr l) | inr r ↦ inr r ]

  -- the lists for 0 to k - 1, end to end
  abbrev pub each_below : ℕ → (ℕ → List X) → List X
  each_below zero f = []
  each_below (suc k) f = each_below k f ++ f k

  each_length : (k m : ℕ) (f : ℕ → List X) → ((j : ℕ) → length (f j) ≡ m) → length (each_below k f) ≡ k * m
  each_length zero m f h = omega arith
  each_length (suc k) m f h =
      omega (arith, length-append (each_below k f) (f k), each_length k m f h, h k)

  in_each : (k j : ℕ) (f : ℕ → List X) (x : X) → j < k → In (f j) x → In (each_below k f) x
  in_each zero j f x l h = absurd (omega arith)
  in_each (suc k) j f x l h = elim (cases_lt j k) [
    | inl y ↦ in_left (each_below k f) (f k) x (in_each k j f x y h)
    | inr n ↦ let same : j ≡ k = omega (arith, n, l) in in_right (each_below k f) (f k) x (subst (λ i. In (f i) x) same h)
  ]

  of_each : (k : ℕ) (f : ℕ → List X) (x : X) → In (each_below k f) x → (j : ℕ) × In (f j) x
  of_each zero f x h = absurd h
  of_each (suc k) f x h = elim (in_either (each_below k f) (f k) x h) [ inl l ↦ of_each k f x l | inr r ↦ (k, r) ]

-- numbers with a gap at j
abbrev raised : ℕ → ℕ → ℕ
raised j h = cond (ltb h j) h (suc h)

-- a new atom in gap j of k different ones
abbrev beside : Bool → ℕ → ℕ → List ℕ → List ℕ
beside true k j hs = map (raised j) hs ++ j ∷ []
beside false k j hs = hs ++ k ∷ []

abbrev pub listed : Bool → ℕ → List ℕ → ℕ → List (List ℕ)
listed o zero hs k = hs ∷ []
listed o (suc n) hs k =
    each_below k (λ j. listed o n (hs ++ j ∷ []) k) ++ each_below (gaps o k) (λ j. listed o n (beside o k j hs) (suc k))

pub listed_length : (o : Bool) (n : ℕ) (hs : List ℕ) (k : ℕ) → length (listed o n hs k) ≡ patterns o n k
listed_length o zero hs k = refl
listed_length o (suc n) hs k =
    length-append (each_below k (λ j. listed o n (hs ++ j ∷ []) k)) (each_below (gaps o k) (λ j. listed o n (beside o k j hs) (suc k)))
    ∙ (ap (λ z. z + length (each_below (gaps o k) (λ j. listed o n (beside o k j hs) (suc k)))) (each_length k (patterns o n k) (λ j. listed o n (hs ++ j ∷ []) k) (λ j. listed_length o n (hs ++ j ∷ []) k))
    ∙ ap (λ z. k * patterns o n k + z) (each_length (gaps o k) (patterns o n (suc k)) (λ j. listed o n (beside o k j hs) (suc k)) (λ j. listed_length o n (beside o k j hs) (suc k))))

pushed_length : (hs : List ℕ) (j : ℕ) → length (hs ++ j ∷ []) ≡ suc (length hs)
pushed_length hs j = omega (arith, length-append hs (j ∷ []))

beside_length : (o : Bool) (k j : ℕ) (hs : List ℕ) → length (beside o k j hs) ≡ suc (length hs)
beside_length true k j hs = pushed_length (map (raised j) hs) j ∙ ap suc (length-map hs (raised j))
beside_length false k j hs = pushed_length hs k

pub listed_count : (o : Bool) (n : ℕ) (hs : List ℕ) (k : ℕ) (p : List ℕ) → In (listed o n hs k) p → length p ≡ length hs + n
listed_count o zero hs k p (inl h) = omega (arith, ap length h)
listed_count o zero hs k p (inr h) = absurd h
listed_count o (suc n) hs k p h =
    elim (in_either (each_below k (λ j. listed o n (hs ++ j ∷ []) k)) (each_below (gaps o k) (λ j. listed o n (beside o k j hs) (suc k))) p h) [
      | inl l ↦ let found = of_each k (λ j. listed o n (hs ++ j ∷ []) k) p l in omega (arith, listed_count o n (hs ++ found.0 ∷ []) k p found.1, pushed_length hs found.0)
      | inr r ↦ let found = of_each (gaps o k) (λ j. listed o n (beside o k j hs) (suc k)) p r in omega (arith, listed_count o n (beside o k found.0 hs) (suc k) p found.1, beside_length o k found.0 hs)
    ]

-- ---- one atom more
abbrev AllBelow : ℕ → List ℕ → Type 0
AllBelow k [] = Unit {0}
AllBelow k (h ∷ hs) = (h < k) × AllBelow k hs

at_below : (k : ℕ) (hs : List ℕ) (i : ℕ) → AllBelow k hs → i < length hs → get_or hs i 0 < k
at_below k [] i h l = absurd (omega arith)
at_below k (x ∷ hs) zero h l = h.0
at_below k (x ∷ hs) (suc i) h l = at_below k hs i h.1 (omega arith)

pushed_below : (k : ℕ) (hs : List ℕ) (j : ℕ) → AllBelow k hs → j < k → AllBelow k (hs ++ j ∷ [])
pushed_below k [] j h l = (l, tt)
pushed_below k (x ∷ hs) j h l = (h.0, pushed_below k hs j h.1 l)

more_below : (k : ℕ) (hs : List ℕ) → AllBelow k hs → AllBelow (suc k) hs
more_below k [] h = tt
more_below k (x ∷ hs) h = (omega (arith, h.0), more_below k hs h.1)

ge_ltb : (m n : ℕ) → n ≤ m → ltb m n ≡ false
ge_ltb m n h = elim (cases_Bool (ltb m n)) [ inl y ↦ absurd (let l = ltb-true m n y in omega (arith, l, h)) | inr f ↦ f ]

raised_at_most : (j h : ℕ) → raised j h ≤ suc h
raised_at_most j h = elim (cases_Bool (ltb h j)) [ inl y ↦ rw y (omega arith) | inr n ↦ rw n (omega arith) ]

raised_below : (k j : ℕ) (hs : List ℕ) → AllBelow k hs → AllBelow (suc k) (map (raised j) hs)
raised_below k j [] h = tt
raised_below k j (x ∷ hs) h = (omega (arith, raised_at_most j x, h.0), raised_below k j hs h.1)

-- the atoms stand as the numbers, which are below k
record Stands (o : Bool) (c : List Atom) (hs : List ℕ) (k : ℕ) : Type 0 where
  small : AllBelow k hs
  alike : AreAlike o c (sampled hs)

sampled_pushed : (hs : List ℕ) (j : ℕ) → sampled (hs ++ j ∷ []) ≡ sampled hs ++ whole j ∷ []
sampled_pushed hs j = map-append whole hs (j ∷ [])

module _ (op : Op) (c d : List Atom) (a b : Atom) (count : length c ≡ length d) (old : Agree op c d) (right : (i : ℕ) → i < length c → op_holds op (atom_at c i) a ≡ op_holds op (atom_at d i) b) (left : (i : ℕ) → i < length c → op_holds op a (atom_at c i) ≡ op_holds op b (atom_at d i)) (own : op_holds op a a ≡ op_holds op b b) where
  at_old : (e : List Atom) (x : Atom) (i : ℕ) → i < length e → atom_at (e ++ x ∷ []) i ≡ atom_at e i
  at_old e x i l = get_or_append_left e (x ∷ []) (whole 0) i l

  at_new : (e : List Atom) (x : Atom) (i : ℕ) → length e ≡ i → atom_at (e ++ x ∷ []) i ≡ x
  at_new e x i l = atom_at_end e x i l

  agree_more : Agree op (c ++ a ∷ []) (d ++ b ∷ [])
  agree_more = λ i j l m. go i j l m (cases_lt i (length c)) (cases_lt j (length c))
    where
      go : (i j : ℕ) → i < length (c ++ a ∷ []) → j < length (c ++ a ∷ []) → (i < length c) ⊎ (length c ≤ i) → (j < length c) ⊎ (length c ≤ j) → op_holds op (atom_at (c ++ a ∷ []) i) (atom_at (c ++ a ∷ []) j) ≡ op_holds op (atom_at (d ++ b ∷ []) i) (atom_at (d ++ b ∷ []) j)
      go i j l m (inl p) (inl q) =
          let n : i < length d = omega (arith, p, count) in
          let u : j < length d = omega (arith, q, count) in
          rw (at_old c a i p, at_old c a j q, at_old d b i n, at_old d b j u) (old i j p q)
      go i j l m (inl p) (inr q) =
          let n : i < length d = omega (arith, p, count) in
          let v : length c ≡ j = omega (arith, q, m, length-append c (a ∷ [])) in
          let w : length d ≡ j = omega (arith, v, count) in
          rw (at_old c a i p, at_new c a j v, at_old d b i n, at_new d b j w) (right i p)
      go i j l m (inr p) (inl q) =
          let n : j < length d = omega (arith, q, count) in
          let v : length c ≡ i = omega (arith, p, l, length-append c (a ∷ [])) in
          let w : length d ≡ i = omega (arith, v, count) in
          rw (at_old c a j q, at_new c a i v, at_old d b j n, at_new d b i w) (left j q)
      go i j l m (inr p) (inr q) =
          let v : length c ≡ i = omega (arith, p, l, length-append c (a ∷ [])) in
          let v' : length c ≡ j = omega (arith, q, m, length-append c (a ∷ [])) in
          let w : length d ≡ i = omega (arith, v, count) in
          let w' : length d ≡ j = omega (arith, v', count) in
          rw (at_new c a i v, at_new c a j v', at_new d b i w, at_new d b j w') own

found_or_new : (c : List Atom) (a : Atom) → ((i : ℕ) × (i < length c) × IsTrue (equal (atom_at c i) a)) ⊎ ((i : ℕ) → i < length c → IsFalse (equal (atom_at c i) a))
found_or_new [] a = inr (λ i l. absurd (omega arith))
found_or_new (x ∷ c) a = elim (test (equal x a)) [
  | inl y ↦ inl (0, omega arith, y)
  | inr n ↦ elim (found_or_new c a) [
    | inl f ↦ inl (suc f.0, omega (arith, f.1), f.2)
    | inr g ↦ inr (λ i l. later n g i l)
  ]
]
  where
    later : IsFalse (equal x a) → ((i : ℕ) → i < length c → IsFalse (equal (atom_at c i) a)) → (i : ℕ) → i < length (x ∷ c) → IsFalse (equal (atom_at (x ∷ c) i) a)
    later n g zero l = n
    later n g (suc i) l = g i (omega arith)

module _ (o : Bool) (c : List Atom) (hs : List ℕ) (k : ℕ) (a : Atom) (h : Stands o c hs k) where
  counted : length c ≡ length hs
  counted = h.alike.count ∙ length-map hs whole

  -- the atom is equal to an earlier one
  stands_again : (i : ℕ) → i < length c → IsTrue (equal (atom_at c i) a) → (j : ℕ) × (j < k) × Stands o (c ++ a ∷ []) (hs ++ j ∷ []) k
  stands_again i l e = (
    get_or hs i 0,
    at_below k hs i h.small (omega (arith, l, counted)),
    record {
      small = pushed_below k hs (get_or hs i 0) h.small (at_below k hs i h.small (omega (arith, l, counted)));
      alike = subst (AreAlike o (c ++ a ∷ [])) (sym (sampled_pushed hs (get_or hs i 0))) alike;
    },
  )
    where
      b : Atom
      b = whole (get_or hs i 0)

      is_b : atom_at (sampled hs) i ≡ b
      is_b = get_or-map whole hs i 0 (whole 0) (omega (arith, l, counted))

      same : IsTrue (equal a (atom_at c i))
      same = equal_sym (atom_at c i) a e

      alike : AreAlike o (c ++ a ∷ []) (sampled hs ++ b ∷ [])
      alike = record {
        count = omega (arith, length-append c (a ∷ []), length-append (sampled hs) (b ∷ []), h.alike.count);
        agree = λ op ok. agree_more op c (sampled hs) a b h.alike.count (h.alike.agree op ok)
            (λ n m. op_respects op (atom_at c n) (atom_at c n) a (atom_at c i) (equal_refl (atom_at c n)) same ∙ (h.alike.agree op ok n i m l ∙ ap (op_holds op (atom_at (sampled hs) n)) is_b))
            (λ n m. op_respects op a (atom_at c i) (atom_at c n) (atom_at c n) same (equal_refl (atom_at c n)) ∙ (h.alike.agree op ok i n l m ∙ ap (λ z. op_holds op z (atom_at (sampled hs) n)) is_b))
            (op_respects op a (atom_at c i) a (atom_at c i) same same ∙ (h.alike.agree op ok i i l l ∙ ap (λ z. op_holds op z z) is_b));
      }

equal_turned : (a b : Atom) → IsFalse (equal a b) → IsFalse (equal b a)
equal_turned a b n = elim (test (equal b a)) [ inl y ↦ absurd (let e = equal_sym b a y in cc) | inr m ↦ m ]

numbers_apart : (m n : ℕ) → m < n → equal (whole m) (whole n) ≡ false
numbers_apart m n l = let b = below_whole m n ∙ lt-ltb m n l in equal_is_neither (whole m) (whole n) ∙ rw b refl

-- the atom is a new one, and equality alone is admitted
module _ (c : List Atom) (hs : List ℕ) (k : ℕ) (a : Atom) (h : Stands false c hs k) (new : (i : ℕ) → i < length c → IsFalse (equal (atom_at c i) a)) where
  number_apart : (i : ℕ) → i < length c → equal (atom_at (sampled hs) i) (whole k) ≡ false
  number_apart i l =
      let m : i < length hs = omega (arith, l, h.alike.count, length-map hs whole) in
      rw (get_or-map whole hs i 0 (whole 0) m) (numbers_apart (get_or hs i 0) k (at_below k hs i h.small m))

  equal_beside : Agree Eq (c ++ a ∷ []) (sampled hs ++ whole k ∷ [])
  equal_beside =
      agree_more Eq c (sampled hs) a (whole k) h.alike.count (h.alike.agree Eq refl)
      (λ i l. new i l ∙ sym (number_apart i l))
      (λ i l. equal_turned (atom_at c i) a (new i l) ∙ sym (equal_turned (atom_at (sampled hs) i) (whole k) (number_apart i l)))
      (equal_refl a ∙ sym (equal_refl (whole k)))

  stands_apart : Stands false (c ++ a ∷ []) (hs ++ k ∷ []) (suc k)
  stands_apart = record {
    small = pushed_below (suc k) hs k (more_below k hs h.small) (omega arith);
    alike = subst (AreAlike false (c ++ a ∷ [])) (sym (sampled_pushed hs k)) (record {
      count = omega (arith, length-append c (a ∷ []), length-append (sampled hs) (whole k ∷ []), h.alike.count);
      agree = go;
    });
  }
    where
      go : (op : Op) → IsTrue (is_admitted false op) → Agree op (c ++ a ∷ []) (sampled hs ++ whole k ∷ [])
      go Eq ok = equal_beside
      go Ne ok = λ i j l m. ap not (equal_beside i j l m)
      go Lt ok = absurd (cc)
      go AtMost ok = absurd (cc)

-- one more than the greatest number of an atom below a
abbrev place : List Atom → List ℕ → Atom → ℕ
place [] hs a = 0
place (x ∷ c) [] a = 0
place (x ∷ c) (h ∷ hs) a = cond (below x a) (max (suc h) (place c hs a)) (place c hs a)

place_above : (c : List Atom) (hs : List ℕ) (a : Atom) (i : ℕ) → length c ≡ length hs → i < length c → IsTrue (below (atom_at c i) a) → get_or hs i 0 < place c hs a
place_above [] hs a i e l b = absurd (omega arith)
place_above (x ∷ c) [] a i e l b = absurd (omega arith)
place_above (x ∷ c) (h ∷ hs) a zero e l b = rw b (omega arith)
place_above (x ∷ c) (h ∷ hs) a (suc i) e l b =
    let r = place_above c hs a i (omega arith) (omega arith) b in
    elim (test (below x a)) [ inl y ↦ rw y (omega (arith, r)) | inr n ↦ rw n r ]

place_reached : (c : List Atom) (hs : List ℕ) (a : Atom) (n : ℕ) → length c ≡ length hs → n < place c hs a → (i : ℕ) × (i < length c) × IsTrue (below (atom_at c i) a) × (n ≤ get_or hs i 0)
place_reached [] hs a n e l = absurd (omega arith)
place_reached (x ∷ c) [] a n e l = absurd (omega arith)
place_reached (x ∷ c) (h ∷ hs) a n e l = elim (test (below x a)) [
  | inl y ↦ elim (cases_lt n (place c hs a)) [
    | inl u ↦ later (place_reached c hs a n (omega arith) u)
    | inr v ↦ (0, omega arith, y, let m : n < max (suc h) (place c hs a) = rw y at l in omega (arith, m, v))
  ]
  | inr z ↦ later (place_reached c hs a n (omega arith) (rw z at l))
]
  where
    later : ((i : ℕ) × (i < length c) × IsTrue (below (atom_at c i) a) × (n ≤ get_or hs i 0)) → (i : ℕ) × (i < length (x ∷ c)) × IsTrue (below (atom_at (x ∷ c) i) a) × (n ≤ get_or (h ∷ hs) i 0)
    later f = (suc f.0, omega (arith, f.1), f.2, f.3)

place_at_most : (c : List Atom) (hs : List ℕ) (a : Atom) (k : ℕ) → AllBelow k hs → place c hs a ≤ k
place_at_most [] hs a k s = omega arith
place_at_most (x ∷ c) [] a k s = omega arith
place_at_most (x ∷ c) (h ∷ hs) a k s =
    let r = place_at_most c hs a k s.1 in
    elim (test (below x a)) [ inl y ↦ rw y (omega (arith, r, s.0)) | inr n ↦ rw n r ]

raised_lt : (j m n : ℕ) → m < n → raised j m < raised j n
raised_lt j m n l = elim (cases_lt n j) [
  | inl y ↦ rw (lt-ltb n j y, lt-ltb m j (omega (arith, l, y))) l
  | inr z ↦ rw (ge_ltb n j z) (omega (arith, raised_at_most j m, l))
]

raised_keeps : (j m n : ℕ) → ltb m n ≡ ltb (raised j m) (raised j n)
raised_keeps j m n =
    same_truth (ltb m n) (ltb (raised j m) (raised j n)) (λ t. lt-ltb (raised j m) (raised j n) (raised_lt j m n (ltb-true m n t))) (λ t. lt-ltb m n (back (ltb-true (raised j m) (raised j n) t) (cases_lt m n)))
  where
    back : raised j m < raised j n → (m < n) ⊎ (n ≤ m) → m < n
    back r (inl y) = y
    back r (inr z) = elim (cases_lt n m) [
      | inl u ↦ absurd (let v = raised_lt j n m u in omega (arith, v, r))
      | inr w ↦ absurd (let same : m ≡ n = omega (arith, w, z) in let q : raised j m < raised j m = subst (λ x. raised j m < raised j x) (sym same) r in omega (arith, q))
    ]

ordered_alike : (c d : List Atom) → length c ≡ length d → Agree Lt c d → AreAlike true c d
ordered_alike c d e below_same = record { count = e; agree = λ op ok. go op }
  where
    equal_same : Agree Eq c d
    equal_same = λ i j l m.
        equals_from (atom_at c i) (atom_at c j) (atom_at d i) (atom_at d j) (below_same i j l m) (below_same j i m l)

    go : (op : Op) → Agree op c d
    go Eq = equal_same
    go Ne = λ i j l m. ap not (equal_same i j l m)
    go Lt = below_same
    go AtMost = λ i j l m. ap not (below_same j i m l)

-- the atom is a new one, in a gap of the order
module _ (c : List Atom) (hs : List ℕ) (k : ℕ) (a : Atom) (h : Stands true c hs k) (new : (i : ℕ) → i < length c → IsFalse (equal (atom_at c i) a)) where
  abbrev j : ℕ
  j = place c hs a

  all : length c ≡ length hs
  all = h.alike.count ∙ length-map hs whole

  abbrev number : ℕ → ℕ
  number i = get_or hs i 0

  is_number : (i : ℕ) → i < length c → atom_at (sampled hs) i ≡ whole (number i)
  is_number i l = get_or-map whole hs i 0 (whole 0) (omega (arith, l, all))

  is_raised : (i : ℕ) → i < length c → atom_at (sampled (map (raised j) hs)) i ≡ whole (raised j (number i))
  is_raised i l =
      get_or-map whole (map (raised j) hs) i 0 (whole 0) (omega (arith, l, all, length-map hs (raised j)))
      ∙ ap whole (get_or-map (raised j) hs i 0 0 (omega (arith, l, all)))

  numbers_compared : (i m : ℕ) → i < length c → m < length c → below (atom_at c i) (atom_at c m) ≡ ltb (number i) (number m)
  numbers_compared i m l n =
      h.alike.agree Lt refl i m l n ∙ rw (is_number i l, is_number m n) (below_whole (number i) (number m))

  is_above : (i : ℕ) → i < length c → number i < j → IsTrue (below (atom_at c i) a)
  is_above i l m = go (test (below (atom_at c i) a))
    where
      go : IsTrue (below (atom_at c i) a) ⊎ IsFalse (below (atom_at c i) a) → IsTrue (below (atom_at c i) a)
      go (inl y) = y
      go (inr n) =
          let f = place_reached c hs a (number i) all m in
          let b = below_at_most (atom_at c f.0) a (atom_at c i) f.2 n in
          let t = ltb-true (number f.0) (number i) (sym (numbers_compared f.0 i f.1 l) ∙ b) in
          absurd (omega (arith, f.3, t))

  below_new : (i : ℕ) → i < length c → below (atom_at c i) a ≡ below (atom_at (sampled (map (raised j) hs)) i) (whole j)
  below_new i l = rw (is_raised i l) (rw (below_whole (raised j (number i)) j) (same_truth _ _ there back))
    where
      there : IsTrue (below (atom_at c i) a) → IsTrue (ltb (raised j (number i)) j)
      there b = let m = place_above c hs a i all l b in let t = lt-ltb (number i) j m in rw (t, t) refl

      back : IsTrue (ltb (raised j (number i)) j) → IsTrue (below (atom_at c i) a)
      back t = elim (cases_lt (number i) j) [
        | inl m ↦ is_above i l m
        | inr n ↦ absurd (let e = ge_ltb (number i) j n in let u : suc (number i) < j = ltb-true (suc (number i)) j (rw e at t) in omega (arith, u, n))
      ]

  above_new : (i : ℕ) → i < length c → below a (atom_at c i) ≡ below (whole j) (atom_at (sampled (map (raised j) hs)) i)
  above_new i l = rw (is_raised i l) (rw (below_whole j (raised j (number i))) (same_truth _ _ there back))
    where
      there : IsTrue (below a (atom_at c i)) → IsTrue (ltb j (raised j (number i)))
      there b = elim (cases_lt (number i) j) [
        | inl m ↦ absurd (let x = is_above i l m in let y = below_asym a (atom_at c i) b in cc)
        | inr n ↦ let e = ge_ltb (number i) j n in rw e (lt-ltb j (suc (number i)) (omega (arith, n)))
      ]

      back : IsTrue (ltb j (raised j (number i))) → IsTrue (below a (atom_at c i))
      back t = go (test (below a (atom_at c i))) (test (below (atom_at c i) a))
        where
          go : IsTrue (below a (atom_at c i)) ⊎ IsFalse (below a (atom_at c i)) → IsTrue (below (atom_at c i) a) ⊎ IsFalse (below (atom_at c i) a) → IsTrue (below a (atom_at c i))
          go (inl y) z = y
          go (inr n) (inl z) =
              let m = place_above c hs a i all l z in
              let e = lt-ltb (number i) j m in
              let u : j < number i = ltb-true j (number i) (rw e at t) in
              absurd (omega (arith, u, m))
          go (inr n) (inr z) =
              let e : equal (atom_at c i) a ≡ true = equal_is_neither (atom_at c i) a ∙ rw (n, z) refl in
              absurd (let f = new i l in cc)

  old_raised : Agree Lt c (sampled (map (raised j) hs))
  old_raised = λ i m l n.
      numbers_compared i m l n ∙ (raised_keeps j (number i) (number m) ∙ rw (is_raised i l, is_raised m n) (sym (below_whole (raised j (number i)) (raised j (number m)))))

  stands_between : Stands true (c ++ a ∷ []) (map (raised j) hs ++ j ∷ []) (suc k)
  stands_between = record {
    small = pushed_below (suc k) (map (raised j) hs) j (raised_below k j hs h.small) (omega (arith, place_at_most c hs a k h.small));
    alike = subst (AreAlike true (c ++ a ∷ [])) (sym (sampled_pushed (map (raised j) hs) j))
        (ordered_alike (c ++ a ∷ []) (sampled (map (raised j) hs) ++ whole j ∷ [])
        (omega (arith, length-append c (a ∷ []), length-append (sampled (map (raised j) hs)) (whole j ∷ []), all, length-map (map (raised j) hs) whole, length-map hs (raised j)))
        (agree_more Lt c (sampled (map (raised j) hs)) a (whole j) (omega (arith, all, length-map (map (raised j) hs) whole, length-map hs (raised j))) old_raised below_new above_new (below_irrefl a ∙ sym (below_irrefl (whole j)))));
  }

StandsWithNext : Bool → List Atom → List ℕ → ℕ → Atom → Type 0
StandsWithNext o c hs k a =
    ((j : ℕ) × (j < k) × Stands o (c ++ a ∷ []) (hs ++ j ∷ []) k) ⊎ ((j : ℕ) × (j < gaps o k) × Stands o (c ++ a ∷ []) (beside o k j hs) (suc k))

next : (o : Bool) (c : List Atom) (hs : List ℕ) (k : ℕ) (a : Atom) → Stands o c hs k → StandsWithNext o c hs k a
unfolding StandsWithNext
next o c hs k a h = elim (found_or_new c a) [
  | inl f ↦ inl (stands_again o c hs k a h f.0 f.1 f.2)
  | inr new ↦ inr (one_new o h new)
]
  where
    one_new : (o : Bool) → Stands o c hs k → ((i : ℕ) → i < length c → IsFalse (equal (atom_at c i) a)) → (j : ℕ) × (j < gaps o k) × Stands o (c ++ a ∷ []) (beside o k j hs) (suc k)
    one_new true h new = (place c hs a, omega (arith, place_at_most c hs a k h.small), stands_between c hs k a h new)
    one_new false h new = (0, omega arith, stands_apart c hs k a h new)

covered : (o : Bool) (n : ℕ) (e : List Atom) → length e ≡ n → (c : List Atom) (hs : List ℕ) (k : ℕ) → Stands o c hs k → (p : List ℕ) × In (listed o n hs k) p × AreAlike o (c ++ e) (sampled p)
unfolding StandsWithNext
covered o zero [] l c hs k h = (hs, inl refl, subst (λ z. AreAlike o z (sampled hs)) (sym (append-nil c)) h.alike)
covered o zero (a ∷ e) l c hs k h = absurd (omega arith)
covered o (suc n) [] l c hs k h = absurd (omega arith)
covered o (suc n) (a ∷ e) l c hs k h = elim (next o c hs k a h) [
  | inl f ↦ let r = covered o n e (omega arith) (c ++ a ∷ []) (hs ++ f.0 ∷ []) k f.2 in
      (r.0, in_left (each_below k (λ j. listed o n (hs ++ j ∷ []) k)) (each_below (gaps o k) (λ j. listed o n (beside o k j hs) (suc k))) r.0 (in_each k f.0 (λ j. listed o n (hs ++ j ∷ []) k) r.0 f.1 r.1), subst (λ z. AreAlike o z (sampled r.0)) (append_assoc c (a ∷ []) e) r.2)
  | inr f ↦ let r = covered o n e (omega arith) (c ++ a ∷ []) (beside o k f.0 hs) (suc k) f.2 in
      (r.0, in_right (each_below k (λ j. listed o n (hs ++ j ∷ []) k)) (each_below (gaps o k) (λ j. listed o n (beside o k j hs) (suc k))) r.0 (in_each (gaps o k) f.0 (λ j. listed o n (beside o k j hs) (suc k)) r.0 f.1 r.1), subst (λ z. AreAlike o z (sampled r.0)) (append_assoc c (a ∷ []) e) r.2)
]

-- each choice of n atoms stands as the numbers of a pattern
pub pattern_of : (o : Bool) (n : ℕ) (e : List Atom) → length e ≡ n → (p : List ℕ) × In (listed o n [] 0) p × AreAlike o e (sampled p)
pattern_of o n e l =
    covered o n e l [] [] 0 (record { small = tt; alike = record { count = refl; agree = λ op ok i j l m. absurd (omega arith) } })
