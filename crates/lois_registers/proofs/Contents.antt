-- Contents at levels: which placement a configuration has, and what it is there.
use Rattle.std.proofs.Common.{◌≡◌, ℕ, zero, suc, ◌+◌, ◌*◌, ◌/◌, ◌%◌, ◌^◌, ◌<◌, ◌≤◌, Bool, true, false, cond, List, [], ◌∷◌, ◌++◌, Option, Some, None, length, map, refl, sym, ap, subst, ◌∙◌, ◌⊎◌, inl, inr, arith, append_assoc, zero-add}
use Rattle.std.specs.Prelude.{nat_eq, if◌then◌else◌}
use Rattle.std.specs.List.{Contains, list_any}
use Rattle.std.proofs.lemmas.List.{length-append, length-map, get_or_at, get_or-map}
use Rattle.std.proofs.lemmas.List.Elements.{Contains-append_left, Contains-push}
use Rattle.lois_base.specs.Atom.{Atom}
use Rattle.lois_base.specs.Truth.{atom_at}
use Rattle.lois_registers.specs.Placed.{full, contents_from, numbers, placements}
use Rattle.lois_registers.specs.Runs.{stored_from}

-- what stands at the levels
abbrev pub at_level : List Atom → Option ℕ → Option Atom
at_level e None = None
at_level e (Some i) = Some (atom_at e i)

abbrev pub filled : List Atom → List (Option ℕ) → List (Option Atom)
filled e os = map (at_level e) os

-- each level is below n
abbrev pub AreBelow : ℕ → List (Option ℕ) → Type 0
AreBelow n [] = Unit {0}
AreBelow n (None ∷ os) = AreBelow n os
AreBelow n (Some i ∷ os) = (i < n) × AreBelow n os

pub below_more : (n m : ℕ) (os : List (Option ℕ)) → n ≤ m → AreBelow n os → AreBelow m os
below_more n m [] l h = tt
below_more n m (None ∷ os) l h = below_more n m os l h
below_more n m (Some i ∷ os) l h = (omega (arith, h.0), below_more n m os l h.1)

pub length_contents : (m k p : ℕ) → length (contents_from m k p) ≡ k
length_contents m zero p = refl
length_contents m (suc k) p = go (nat_eq (p % 2) 1) (length_contents (m + 1) k (p / 2)) (length_contents m k (p / 2))
  where
    go : (b : Bool) → length (contents_from (m + 1) k (p / 2)) ≡ k → length (contents_from m k (p / 2)) ≡ k → length (cond b (Some m ∷ contents_from (m + 1) k (p / 2)) (None ∷ contents_from m k (p / 2))) ≡ suc k
    go true h i = ap suc h
    go false h i = ap suc i

pub below_contents : (m k p : ℕ) → AreBelow (m + full (contents_from m k p)) (contents_from m k p)
below_contents m zero p = tt
below_contents m (suc k) p = go (nat_eq (p % 2) 1) (below_contents (m + 1) k (p / 2)) (below_contents m k (p / 2))
  where
    go : (b : Bool) → AreBelow (m + 1 + full (contents_from (m + 1) k (p / 2))) (contents_from (m + 1) k (p / 2)) → AreBelow (m + full (contents_from m k (p / 2))) (contents_from m k (p / 2)) → AreBelow (m + full (cond b (Some m ∷ contents_from (m + 1) k (p / 2)) (None ∷ contents_from m k (p / 2)))) (cond b (Some m ∷ contents_from (m + 1) k (p / 2)) (None ∷ contents_from m k (p / 2)))
    go true h i =
        let rest = contents_from (m + 1) k (p / 2) in
        let l : m + 1 + full rest ≤ m + suc (full rest) = omega arith in
        (omega arith, below_more (m + 1 + full rest) (m + suc (full rest)) rest l h)
    go false h i = i

pub full_few : (os : List (Option ℕ)) → full os ≤ length os
full_few [] = omega arith
full_few (None ∷ os) = omega (arith, full_few os)
full_few (Some i ∷ os) = omega (arith, full_few os)

contents_even : (m k p : ℕ) → contents_from m (suc k) (2 * p) ≡ None ∷ contents_from m k p
contents_even m k p =
    let r : (2 * p) % 2 ≡ 0 = omega arith in
    let h : (2 * p) / 2 ≡ p = omega arith in
    rw (r, h)

contents_odd : (m k p : ℕ) → contents_from m (suc k) (2 * p + 1) ≡ Some m ∷ contents_from (m + 1) k p
contents_odd m k p =
    let r : (2 * p + 1) % 2 ≡ 1 = omega arith in
    let h : (2 * p + 1) / 2 ≡ p = omega arith in
    rw (r, h)

-- the pattern of the full ones, and their atoms, where the levels before m have the atoms d
record HasPattern (d : List Atom) (m : ℕ) (os : List (Option Atom)) : Type 0 where
  pattern : ℕ
  atoms : List Atom
  small : pattern < 2 ^ length os
  count : length atoms ≡ full (contents_from m (length os) pattern)
  same : filled (d ++ atoms) (contents_from m (length os) pattern) ≡ os

pow_double : (k p : ℕ) → p < 2 ^ k → 2 * p + 1 < 2 ^ suc k
pow_double k p l = omega arith

pattern_of : (os : List (Option Atom)) (d : List Atom) (m : ℕ) → length d ≡ m → HasPattern d m os
pattern_of [] d m l = record { pattern = 0; atoms = []; small = omega arith; count = refl; same = refl }
pattern_of (None ∷ os) d m l =
    let h = pattern_of os d m l in
    let e = contents_even m (length os) h.pattern in
    record {
      pattern = 2 * h.pattern;
      atoms = h.atoms;
      small = omega (arith, pow_double (length os) h.pattern h.small);
      count = h.count ∙ sym (ap full e);
      same = ap (filled (d ++ h.atoms)) e ∙ ap (λ z. None ∷ z) h.same;
    }
pattern_of (Some a ∷ os) d m l =
    let k : length (d ++ a ∷ []) ≡ m + 1 = omega (arith, length-append d (a ∷ [])) in
    let h = pattern_of os (d ++ a ∷ []) (m + 1) k in
    let e = contents_odd m (length os) h.pattern in
    let both : (d ++ a ∷ []) ++ h.atoms ≡ d ++ (a ∷ h.atoms) = append_assoc d (a ∷ []) h.atoms in
    let here : atom_at (d ++ (a ∷ h.atoms)) m ≡ a = get_or_at d a h.atoms _ m l in
    record {
      pattern = 2 * h.pattern + 1;
      atoms = a ∷ h.atoms;
      small = pow_double (length os) h.pattern h.small;
      count = ap suc h.count ∙ sym (ap full e);
      same = ap (filled (d ++ (a ∷ h.atoms))) e ∙ (ap (λ z. Some z ∷ filled (d ++ (a ∷ h.atoms)) (contents_from (m + 1) (length os) h.pattern)) here ∙ ap (λ z. Some a ∷ z) (ap (λ z. filled z (contents_from (m + 1) (length os) h.pattern)) (sym both) ∙ h.same));
    }

last_or_below : (i n : ℕ) → i < suc n → (i < n) ⊎ (n ≡ i)
last_or_below zero zero l = inr refl
last_or_below zero (suc n) l = inl (omega arith)
last_or_below (suc i) zero l = absurd (omega arith)
last_or_below (suc i) (suc n) l =
    let less : i < suc n = omega arith in
    elim (last_or_below i n less) [ inl h ↦ inl (omega (arith, h)) | inr e ↦ inr (ap suc e) ]

pub contains_numbers : (n i : ℕ) → i < n → Contains (numbers n) i
contains_numbers zero i l = absurd (omega arith)
contains_numbers (suc n) i l = go (last_or_below i n l) (contains_numbers n i)
  where
    go : (i < n) ⊎ (n ≡ i) → (i < n → Contains (numbers n) i) → Contains (numbers n ++ n ∷ []) i
    go (inl h) f = Contains-append_left (numbers n) (n ∷ []) i (f h)
    go (inr h) f = subst (λ z. Contains (numbers n ++ n ∷ []) z) h (Contains-push (numbers n) n)

module _ {X Y : Type 0} (f : X → Y) where
  pub contains_mapped : (xs : List X) (x : X) → Contains xs x → Contains (map f xs) (f x)
  contains_mapped xs x (k, l, e) = (k, omega (arith, length-map xs f), get_or-map f xs k x (f x) l ∙ ap f e)

  pub mapped_from : (xs : List X) (y : Y) → Contains (map f xs) y → (x : X) × Contains xs x × (f x ≡ y)
  mapped_from [] y (k, l, e) = absurd (omega (arith, l))
  mapped_from (x ∷ xs) y (zero, l, e) = (x, (0, omega arith, refl), e)
  mapped_from (x ∷ xs) y (suc k, l, e) = go (mapped_from xs y (k, omega (arith, l), e))
    where
      go : (z : X) × Contains xs z × (f z ≡ y) → (z : X) × Contains (x ∷ xs) z × (f z ≡ y)
      go (z, (j, i, h), s) = (z, (suc j, omega (arith, i), h), s)

-- where the contents of a configuration stand
pub record IsPlaced (k : ℕ) (os : List (Option Atom)) : Type 0 where
  pub place : List (Option ℕ)
  pub atoms : List Atom
  pub listed : Contains (placements k) place
  pub count : length atoms ≡ full place
  pub same : filled atoms place ≡ os

pub placed_at : (k : ℕ) (os : List (Option Atom)) → length os ≡ k → IsPlaced k os
unfolding placements
placed_at k os l =
    let h = pattern_of os [] 0 refl in
    let le : Contains (placements (length os)) (contents_from 0 (length os) h.pattern) = contains_mapped (contents_from 0 (length os)) (numbers (2 ^ length os)) h.pattern (contains_numbers (2 ^ length os) h.pattern h.small) in
    subst (λ n. IsPlaced n os) l (record {
      place = contents_from 0 (length os) h.pattern;
      atoms = h.atoms;
      listed = le;
      count = h.count;
      same = h.same;
    })

-- the placements of k registers: each has k contents, whose levels are below the number of the full ones
pub record IsPlace (k : ℕ) (os : List (Option ℕ)) : Type 0 where
  pub count : length os ≡ k
  pub below : AreBelow (full os) os

pub place_is : (k : ℕ) (os : List (Option ℕ)) → Contains (placements k) os → IsPlace k os
unfolding placements
place_is k os h = go (mapped_from (contents_from 0 k) (numbers (2 ^ k)) os h)
  where
    go : (p : ℕ) × Contains (numbers (2 ^ k)) p × (contents_from 0 k p ≡ os) → IsPlace k os
    go (p, i, e) = subst (IsPlace k) e (record {
      count = length_contents 0 k p;
      below = subst (λ n. AreBelow n (contents_from 0 k p)) (zero-add (full (contents_from 0 k p))) (below_contents 0 k p);
    })

-- storing at levels and storing atoms
pub filled_stored : (e : List Atom) (i : ℕ) (stores : List ℕ) (m : ℕ) (os : List (Option ℕ)) → filled e (stored_from i stores m os) ≡ stored_from i stores (atom_at e m) (filled e os)
filled_stored e i stores m [] = refl
filled_stored e i stores m (o ∷ os) = go (list_any (nat_eq i) stores) (filled_stored e (i + 1) stores m os)
  where
    go : (b : Bool) → filled e (stored_from (i + 1) stores m os) ≡ stored_from (i + 1) stores (atom_at e m) (filled e os) → at_level e (if b then Some m else o) ∷ filled e (stored_from (i + 1) stores m os) ≡ (if b then Some (atom_at e m) else at_level e o) ∷ stored_from (i + 1) stores (atom_at e m) (filled e os)
    go true h = ap (λ z. Some (atom_at e m) ∷ z) h
    go false h = ap (λ z. at_level e o ∷ z) h

pub length_stored : {X : Type 0} (i : ℕ) (stores : List ℕ) (x : X) (os : List (Option X)) → length (stored_from i stores x os) ≡ length os
length_stored i stores x [] = refl
length_stored i stores x (o ∷ os) = ap suc (length_stored (i + 1) stores x os)

pub below_stored : (n i : ℕ) (stores : List ℕ) (m : ℕ) (os : List (Option ℕ)) → m < n → AreBelow n os → AreBelow n (stored_from i stores m os)
below_stored n i stores m [] l h = tt
below_stored n i stores m (None ∷ os) l h = go (list_any (nat_eq i) stores) (below_stored n (i + 1) stores m os l h)
  where
    go : (b : Bool) → AreBelow n (stored_from (i + 1) stores m os) → AreBelow n ((if b then Some m else None) ∷ stored_from (i + 1) stores m os)
    go true k = (l, k)
    go false k = k
below_stored n i stores m (Some j ∷ os) l h = go (list_any (nat_eq i) stores) (below_stored n (i + 1) stores m os l h.1)
  where
    go : (b : Bool) → AreBelow n (stored_from (i + 1) stores m os) → AreBelow n ((if b then Some m else Some j) ∷ stored_from (i + 1) stores m os)
    go true k = (l, k)
    go false k = (h.0, k)
