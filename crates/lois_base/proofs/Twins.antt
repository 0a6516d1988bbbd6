-- Pairs of atoms of which the first ones stand as the second ones do. To each atom a partner can be found.
use Rattle.std.proofs.Common.{◌≡◌, ℕ, zero, suc, ◌+◌, ◌-◌, ◌<◌, ◌≤◌, ◌⊎◌, inl, inr, Bool, true, false, not, cond, add-one, List, [], ◌∷◌, ◌++◌, length, length-append, refl, sym, ap, ◌∙◌, subst, arith}
use Rattle.std.proofs.lemmas.Bool.{cases_lt}
use Rattle.std.proofs.lemmas.List.{get_or_append_left, get_or-append_right}
use Rattle.std.proofs.lemmas.List.Elements.{All-nil, All-cons, All-head, All-tail}
use Rattle.std.specs.Bool.{IsTrue, IsFalse}
use Rattle.std.specs.List.{All}
use Rattle.lois_base.specs.Atom.{Atom, equal, below, whole}
use Rattle.lois_base.specs.Patterns.{AreAlike}
use Rattle.lois_base.specs.Truth.{atom_at, op_holds}
use Rattle.lois_base.specs.Validity.{is_admitted}
use Rattle.lois_base.specs.declared.guards.Op.{Op}
use Rattle.lois_base.specs.declared.guards.Op.TheVariants.{Eq, Ne, Lt, AtMost}
use Rattle.lois_base.proofs.Gaps.{IsBelow, one_between, one_new}
use Rattle.lois_base.proofs.Order.{test, same_truth, equal_refl, equal_sym, equals_from, trichotomy, below_irrefl, below_asym, below_trans}
use Rattle.lois_base.proofs.Truths.{op_respects}

pub record Twins : Type 0 where
  pub one : Atom
  pub other : Atom

abbrev pub twins : Atom → Atom → Twins
twins a b = record { one = a; other = b }

abbrev pub Has : List Twins → Twins → Type 0
Has [] p = ⊥
Has (q ∷ ps) p = (p ≡ q) ⊎ Has ps p

abbrev pub StandAlike : Bool → Twins → Twins → Type 0
StandAlike ordered p q =
    (op : Op) → IsTrue (is_admitted ordered op) → op_holds op p.one q.one ≡ op_holds op p.other q.other

pub record IsPattern (ordered : Bool) (ps : List Twins) : Type 0 where
  pub alike : (p q : Twins) → Has ps p → Has ps q → StandAlike ordered p q

abbrev pub Within : List Twins → List Twins → Type 0
Within ps qs = (p : Twins) → Has ps p → Has qs p

-- ---- one pair more
self_alike : (ordered : Bool) (p : Twins) → StandAlike ordered p p
self_alike ordered p Eq h = equal_refl p.one ∙ sym (equal_refl p.other)
self_alike ordered p Ne h = ap not (equal_refl p.one ∙ sym (equal_refl p.other))
self_alike ordered p Lt h = below_irrefl p.one ∙ sym (below_irrefl p.other)
self_alike ordered p AtMost h = ap not (below_irrefl p.one ∙ sym (below_irrefl p.other))

one_more : (ordered : Bool) (ps : List Twins) (p : Twins) → IsPattern ordered ps → ((q : Twins) → Has ps q → StandAlike ordered p q × StandAlike ordered q p) → IsPattern ordered (p ∷ ps)
one_more ordered ps p h k = record { alike = go }
  where
    go : (x y : Twins) → Has (p ∷ ps) x → Has (p ∷ ps) y → StandAlike ordered x y
    go x y (inl e) (inl f) =
        subst (λ z. StandAlike ordered z y) (sym e) (subst (λ z. StandAlike ordered p z) (sym f) (self_alike ordered p))
    go x y (inl e) (inr f) = subst (λ z. StandAlike ordered z y) (sym e) (k y f).0
    go x y (inr e) (inl f) = subst (λ z. StandAlike ordered x z) (sym f) (k x e).1
    go x y (inr e) (inr f) = h.alike x y e f

find : (a : Atom) (ps : List Twins) → ((q : Twins) × Has ps q × IsTrue (equal a q.one)) ⊎ ((q : Twins) → Has ps q → IsFalse (equal a q.one))
find a [] = inr (λ q h. absurd h)
find a (p ∷ ps) = pick (test (equal a p.one)) (find a ps)
  where
    pick : IsTrue (equal a p.one) ⊎ IsFalse (equal a p.one) → ((q : Twins) × Has ps q × IsTrue (equal a q.one)) ⊎ ((q : Twins) → Has ps q → IsFalse (equal a q.one)) → ((q : Twins) × Has (p ∷ ps) q × IsTrue (equal a q.one)) ⊎ ((q : Twins) → Has (p ∷ ps) q → IsFalse (equal a q.one))
    pick (inl y) r = inl (p, inl refl, y)
    pick (inr n) (inl r) = inl (r.0, inr r.1, r.2)
    pick (inr n) (inr r) = inr each
      where
        each : (q : Twins) → Has (p ∷ ps) q → IsFalse (equal a q.one)
        each q (inl e) = subst (λ z. IsFalse (equal a z.one)) (sym e) n
        each q (inr h) = r q h

-- the partners of those that pass a test
abbrev others : (Twins → Bool) → List Twins → List Atom
others passes [] = []
others passes (p ∷ ps) = cond (passes p) (p.other ∷ others passes ps) (others passes ps)

module _ (P : Atom → Type 0) (passes : Twins → Bool) where
  others_all : (ps : List Twins) → ((q : Twins) → Has ps q → IsTrue (passes q) → P q.other) → All P (others passes ps)
  others_all [] h = All-nil P
  others_all (p ∷ ps) h = pick (test (passes p)) (others_all ps (λ q m. h q (inr m)))
    where
      pick : IsTrue (passes p) ⊎ IsFalse (passes p) → All P (others passes ps) → All P (others passes (p ∷ ps))
      pick (inl y) r =
          subst (λ b. All P (cond b (p.other ∷ others passes ps) (others passes ps))) (sym y) (All-cons P p.other (others passes ps) (h p (inl refl) y) r)
      pick (inr n) r = subst (λ b. All P (cond b (p.other ∷ others passes ps) (others passes ps))) (sym n) r

  all_others : (ps : List Twins) → All P (others passes ps) → (q : Twins) → Has ps q → IsTrue (passes q) → P q.other
  all_others [] h q m y = absurd m
  all_others (p ∷ ps) h q (inl e) y =
      let z : IsTrue (passes p) = subst (λ x. IsTrue (passes x)) e y in
      subst (λ x. P x.other) (sym e) (All-head P p.other (others passes ps) (subst (λ b. All P (cond b (p.other ∷ others passes ps) (others passes ps))) z h))
  all_others (p ∷ ps) h q (inr m) y = all_others ps (rest (test (passes p))) q m y
    where
      rest : IsTrue (passes p) ⊎ IsFalse (passes p) → All P (others passes ps)
      rest (inl z) =
          All-tail P p.other (others passes ps) (subst (λ b. All P (cond b (p.other ∷ others passes ps) (others passes ps))) z h)
      rest (inr z) = subst (λ b. All P (cond b (p.other ∷ others passes ps) (others passes ps))) z h

pub equal_turned : (a b : Atom) → equal a b ≡ equal b a
equal_turned a b = same_truth (equal a b) (equal b a) (equal_sym a b) (equal_sym b a)

apart : (p q : Twins) → IsFalse (equal p.one q.one) → IsFalse (equal p.other q.other) → StandAlike false p q
apart p q h k Eq a = h ∙ sym k
apart p q h k Ne a = ap not (h ∙ sym k)
apart p q h k Lt a = absurd (cc)
apart p q h k AtMost a = absurd (cc)

in_order : (p q : Twins) → below p.one q.one ≡ below p.other q.other → below q.one p.one ≡ below q.other p.other → StandAlike true p q
in_order p q h k Eq a = equals_from p.one q.one p.other q.other h k
in_order p q h k Ne a = ap not (equals_from p.one q.one p.other q.other h k)
in_order p q h k Lt a = h
in_order p q h k AtMost a = ap not k

under : (p q : Twins) → IsTrue (below p.one q.one) → IsTrue (below p.other q.other) → StandAlike true p q × StandAlike true q p
under p q h k =
    let there : below p.one q.one ≡ below p.other q.other = h ∙ sym k in
    let back : below q.one p.one ≡ below q.other p.other = below_asym p.one q.one h ∙ sym (below_asym p.other q.other k) in
    (in_order p q there back, in_order q p back there)

-- an atom that equals none of those that have partners
add_new : (ordered : Bool) (ps : List Twins) → IsPattern ordered ps → (a : Atom) → ((q : Twins) → Has ps q → IsFalse (equal a q.one)) → (b : Atom) × IsPattern ordered (twins a b ∷ ps)
add_new false ps h a none =
    let b = one_new (others (λ p. true) ps) in
    let new : (q : Twins) → Has ps q → IsFalse (equal b.0 q.other) = λ q m. all_others (λ z. IsFalse (equal b.0 z)) (λ p. true) ps b.1 q m refl in
    (b.0, one_more false ps (twins a b.0) h (λ q m. (apart (twins a b.0) q (none q m) (new q m), apart q (twins a b.0) (equal_turned q.one a ∙ none q m) (equal_turned q.other b.0 ∙ new q m))))
add_new true ps h a none =
    let low : List Atom = others (λ p. below p.one a) ps in
    let high : List Atom = others (λ p. below a p.one) ps in
    let b = one_between low high (others_all (IsBelow high) (λ p. below p.one a) ps (λ p m l. others_all (λ z. IsTrue (below p.other z)) (λ q. below a q.one) ps (λ q n k. sym (h.alike p q m n Lt refl) ∙ below_trans p.one a q.one l k))) in
    (b.0, one_more true ps (twins a b.0) h (λ q m. place b.0 q m (λ l. all_others (λ z. IsTrue (below z b.0)) (λ p. below p.one a) ps b.1 q m l) (λ l. all_others (λ z. IsTrue (below b.0 z)) (λ p. below a p.one) ps b.2 q m l) (trichotomy a q.one)))
  where
    place : (b : Atom) (q : Twins) → Has ps q → (IsTrue (below q.one a) → IsTrue (below q.other b)) → (IsTrue (below a q.one) → IsTrue (below b q.other)) → IsTrue (below a q.one) ⊎ (IsTrue (equal a q.one) ⊎ IsTrue (below q.one a)) → StandAlike true (twins a b) q × StandAlike true q (twins a b)
    place b q m lower higher (inl l) = under (twins a b) q l (higher l)
    place b q m lower higher (inr (inl e)) = absurd (let f : IsFalse (equal a q.one) = none q m in cc)
    place b q m lower higher (inr (inr l)) =
        let u = under q (twins a b) l (lower l) in (u.1, u.0)

pub add : (ordered : Bool) (ps : List Twins) → IsPattern ordered ps → (a : Atom) → (b : Atom) × IsPattern ordered (twins a b ∷ ps)
add ordered ps h a = pick (find a ps)
  where
    pick : ((q : Twins) × Has ps q × IsTrue (equal a q.one)) ⊎ ((q : Twins) → Has ps q → IsFalse (equal a q.one)) → (b : Atom) × IsPattern ordered (twins a b ∷ ps)
    pick (inl (q, m, e)) = (
      q.other,
      one_more ordered ps (twins a q.other) h (λ x n. (
        (λ op k. op_respects op a q.one x.one x.one e (equal_refl x.one) ∙ h.alike q x m n op k),
        (λ op k. op_respects op x.one x.one a q.one (equal_refl x.one) e ∙ h.alike x q n m op k),
      )),
    )
    pick (inr none) = add_new ordered ps h a none

-- ---- pairs the other way round
abbrev pub swap : Twins → Twins
swap p = twins p.other p.one

abbrev pub swapped : List Twins → List Twins
swapped [] = []
swapped (p ∷ ps) = swap p ∷ swapped ps

has_swap : (ps : List Twins) (p : Twins) → Has ps p → Has (swapped ps) (swap p)
has_swap [] p h = h
has_swap (q ∷ ps) p (inl e) = inl (ap swap e)
has_swap (q ∷ ps) p (inr h) = inr (has_swap ps p h)

has_swapped : (ps : List Twins) (p : Twins) → Has (swapped ps) p → Has ps (swap p)
has_swapped [] p h = h
has_swapped (q ∷ ps) p (inl e) = inl (ap swap e)
has_swapped (q ∷ ps) p (inr h) = inr (has_swapped ps p h)

pub pattern_swap : (ordered : Bool) (ps : List Twins) → IsPattern ordered ps → IsPattern ordered (swapped ps)
pattern_swap ordered ps h = record { alike = λ p q m n op k. sym (h.alike (swap p) (swap q) (has_swapped ps p m) (has_swapped ps q n) op k) }

pub within_back : (ps qs : List Twins) → Within (swapped ps) qs → Within ps (swapped qs)
within_back ps qs h p m = has_swap qs (swap p) (h (swap p) (has_swap ps p m))

-- ---- choices whose atoms are partners
pub record IsCarried (ps : List Twins) (n : ℕ) (c d : List Atom) : Type 0 where
  pub left : length c ≡ n
  pub right : length d ≡ n
  pub atoms : (i : ℕ) → i < n → Has ps (twins (atom_at c i) (atom_at d i))

pub carried_more : (ps qs : List Twins) (n : ℕ) (c d : List Atom) → Within ps qs → IsCarried ps n c d → IsCarried qs n c d
carried_more ps qs n c d w h =
    record { left = h.left; right = h.right; atoms = λ i l. w (twins (atom_at c i) (atom_at d i)) (h.atoms i l) }

pub carried_swap : (ps : List Twins) (n : ℕ) (c d : List Atom) → IsCarried ps n c d → IsCarried (swapped ps) n d c
carried_swap ps n c d h =
    record { left = h.right; right = h.left; atoms = λ i l. has_swap ps (twins (atom_at c i) (atom_at d i)) (h.atoms i l) }

pub carried_longer : (ps : List Twins) (n m : ℕ) (c d e f : List Atom) → IsCarried ps n c d → IsCarried ps m e f → IsCarried ps (n + m) (c ++ e) (d ++ f)
carried_longer ps n m c d e f h k = record {
  left = omega (arith, h.left, k.left, length-append c e);
  right = omega (arith, h.right, k.right, length-append d f);
  atoms = λ i l. go i l (cases_lt i n);
}
  where
    go : (i : ℕ) → i < n + m → i < n ⊎ n ≤ i → Has ps (twins (atom_at (c ++ e) i) (atom_at (d ++ f) i))
    go i l (inl p) =
        let q : i < length c = omega (arith, h.left) in
        let r : i < length d = omega (arith, h.right) in
        rw (get_or_append_left c e (whole 0) i q, get_or_append_left d f (whole 0) i r) (h.atoms i p)
    go i l (inr p) =
        rw (get_or-append_right c e n i (whole 0) h.left p, get_or-append_right d f n i (whole 0) h.right p) (k.atoms (i - n) (omega arith))

carried_one : (ps : List Twins) (a b : Atom) → Has ps (twins a b) → IsCarried ps 1 (a ∷ []) (b ∷ [])
carried_one ps a b h = record { left = refl; right = refl; atoms = λ i l. go i l }
  where
    go : (i : ℕ) → i < 1 → Has ps (twins (atom_at (a ∷ []) i) (atom_at (b ∷ []) i))
    go zero l = h
    go (suc i) l = absurd (omega arith)

pub carried_push : (ps : List Twins) (n : ℕ) (c d : List Atom) (a b : Atom) → IsCarried ps n c d → IsCarried (twins a b ∷ ps) (suc n) (c ++ a ∷ []) (d ++ b ∷ [])
carried_push ps n c d a b h =
    let here : IsCarried (twins a b ∷ ps) n c d = carried_more ps (twins a b ∷ ps) n c d (λ p m. inr m) h in
    rw add-one at (carried_longer (twins a b ∷ ps) n 1 c d (a ∷ []) (b ∷ []) here (carried_one (twins a b ∷ ps) a b (inl refl)))

-- partners for a whole list
pub record Extended (ordered : Bool) (ps : List Twins) (e : List Atom) : Type 0 where
  pub pairs : List Twins
  pub image : List Atom
  pub pattern : IsPattern ordered pairs
  pub within : Within ps pairs
  pub carried : IsCarried pairs (length e) e image

pub extend : (ordered : Bool) (ps : List Twins) → IsPattern ordered ps → (e : List Atom) → Extended ordered ps e
extend ordered ps h [] = record {
  pairs = ps;
  image = [];
  pattern = h;
  within = λ p m. m;
  carried = record { left = refl; right = refl; atoms = λ i l. absurd (omega arith) };
}
extend ordered ps h (a ∷ e) = longer (add ordered ps h a) (λ b k. extend ordered (twins a b ∷ ps) k e)
  where
    longer : (b : Atom) × IsPattern ordered (twins a b ∷ ps) → ((b : Atom) → IsPattern ordered (twins a b ∷ ps) → Extended ordered (twins a b ∷ ps) e) → Extended ordered ps (a ∷ e)
    longer (b, k) rest = record {
      pairs = (rest b k).pairs;
      image = b ∷ (rest b k).image;
      pattern = (rest b k).pattern;
      within = λ p m. (rest b k).within p (inr m);
      carried = record {
        left = refl;
        right = omega (arith, (rest b k).carried.right);
        atoms = each;
      };
    }
      where
        each : (i : ℕ) → i < length (a ∷ e) → Has (rest b k).pairs (twins (atom_at (a ∷ e) i) (atom_at (b ∷ (rest b k).image) i))
        each zero l = (rest b k).within (twins a b) (inl refl)
        each (suc i) l = (rest b k).carried.atoms i (omega arith)

-- ---- the pairs of two choices that stand alike
abbrev pub zipped : List Atom → List Atom → List Twins
zipped [] d = []
zipped (a ∷ c) [] = []
zipped (a ∷ c) (b ∷ d) = twins a b ∷ zipped c d

pub has_zipped : (c d : List Atom) (i : ℕ) → i < length c → i < length d → Has (zipped c d) (twins (atom_at c i) (atom_at d i))
has_zipped [] d i l m = absurd (omega arith)
has_zipped (a ∷ c) [] i l m = absurd (omega arith)
has_zipped (a ∷ c) (b ∷ d) zero l m = inl refl
has_zipped (a ∷ c) (b ∷ d) (suc i) l m = inr (has_zipped c d i (omega arith) (omega arith))

zipped_has : (c d : List Atom) (p : Twins) → Has (zipped c d) p → (i : ℕ) × (i < length c) × (p ≡ twins (atom_at c i) (atom_at d i))
zipped_has [] d p h = absurd h
zipped_has (a ∷ c) [] p h = absurd h
zipped_has (a ∷ c) (b ∷ d) p (inl e) = (zero, omega arith, e)
zipped_has (a ∷ c) (b ∷ d) p (inr h) =
    let r = zipped_has c d p h in (suc r.0, omega (arith, r.1), r.2)

pub pattern_zipped : (ordered : Bool) (c d : List Atom) → AreAlike ordered c d → IsPattern ordered (zipped c d)
pattern_zipped ordered c d h = record { alike = λ p q m n. both p q (zipped_has c d p m) (zipped_has c d q n) }
  where
    both : (p q : Twins) → (i : ℕ) × (i < length c) × (p ≡ twins (atom_at c i) (atom_at d i)) → (i : ℕ) × (i < length c) × (q ≡ twins (atom_at c i) (atom_at d i)) → StandAlike ordered p q
    both p q (i, l, e) (j, m, f) =
        subst (λ x. StandAlike ordered x q) (sym e) (subst (λ y. StandAlike ordered (twins (atom_at c i) (atom_at d i)) y) (sym f) (λ op k. h.agree op k i j l m))
