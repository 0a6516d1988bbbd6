-- One comprehension in the place of another: another guard, another item, a binder less, no members.
use Rattle.std.proofs.Common.{◌≡◌, ℕ, suc, ◌+◌, ◌-◌, ◌<◌, ◌≤◌, ◌⊎◌, inl, inr, ◌&&◌, List, [], ◌∷◌, ◌++◌, length, refl, sym, ap, ◌∙◌, subst, arith, length-append}
use Rattle.std.proofs.lemmas.Bool.{cases_order}
use Rattle.std.specs.Bool.{IsTrue}
use Rattle.lois_base.specs.Atom.{Atom, equal}
use Rattle.lois_base.specs.Data.{TermD, comp, comps_of}
use Rattle.lois_base.specs.Fits.{ConstraintFits}
use Rattle.lois_base.specs.Normal.{Occurs}
use Rattle.lois_base.specs.Rename.{rename, rename_constraint}
use Rattle.lois_base.specs.Truth.{atom_at, holds}
use Rattle.lois_base.specs.Values.{IsExtension, MakesAt, SameAt, InAt}
use Rattle.lois_base.specs.declared.guards.Lit.{Lit}
use Rattle.lois_base.proofs.Order.{equal_refl}
use Rattle.lois_base.proofs.Renamed.{Renames, same_renamed}
use Rattle.lois_base.proofs.Same.{same_at_refl, same_at_sym}
use Rattle.lois_base.specs.Bound.{HoldsForSome}
use Rattle.lois_simplify.specs.Simplification.{IsSameWhere, set_of}
use Rattle.lois_simplify.specs.Moved.{moved}
use Rattle.lois_simplify.specs.Rounds.{only}
use Rattle.lois_simplify.proofs.Inserted.{put, length-put, put_below, put_at, put_above, put-append, IsPut, taken_out, moved_below, moved_at, moved_above, holds_moved, holds_before}
use Rattle.lois_simplify.proofs.Members.{sets_same}

-- for each member of the one a member of the other, both ways
pub record AreMatched (c : List Atom) (m : ℕ) (g : List (List Lit)) (t : TermD) (k : ℕ) (h : List (List Lit)) (s : TermD) : Type 0 where
  pub there : (e : List Atom) → IsExtension c m g e → (d : List Atom) × IsExtension c k h d × SameAt t (c ++ e) s (c ++ d)
  pub back : (d : List Atom) → IsExtension c k h d → (e : List Atom) × IsExtension c m g e × SameAt t (c ++ e) s (c ++ d)

pub matched_same : (c : List Atom) (m : ℕ) (g : List (List Lit)) (t : TermD) (k : ℕ) (h : List (List Lit)) (s : TermD) → AreMatched c m g t k h s → SameAt (set_of (only (comp m g t))) c (set_of (only (comp k h s))) c
matched_same c m g t k h s a = sets_same (only (comp m g t)) (only (comp k h s)) c c there back
  where
    there : (w : TermD) (x : List Atom) → MakesAt w x (comp m g t) c ⊎ ⊥ → InAt w x (comps_of (only (comp k h s))) c
    there w x (inl (e, i, p, q)) =
        let r = a.there e i in
        (s, c ++ r.0, inl (r.0, r.1, refl, refl), subst (λ z. SameAt z x s (c ++ r.0)) (sym p) (subst (λ z. SameAt t z s (c ++ r.0)) (sym q) r.2))
    there w x (inr f) = absurd f

    back : (w : TermD) (x : List Atom) → MakesAt w x (comp k h s) c ⊎ ⊥ → InAt w x (comps_of (only (comp m g t))) c
    back w x (inl (d, i, p, q)) =
        let r = a.back d i in
        (t, c ++ r.0, inl (r.0, r.1, refl, refl), subst (λ z. SameAt z x t (c ++ r.0)) (sym p) (subst (λ z. SameAt s z t (c ++ r.0)) (sym q) (same_at_sym t (c ++ r.0) s (c ++ d) r.2)))
    back w x (inr f) = absurd f

-- where u holds at the first levels, it holds at more
holds_longer : (u : List (List Lit)) (n : ℕ) (c e : List Atom) → ConstraintFits n u → length c ≡ n → IsTrue (holds c u) → IsTrue (holds (c ++ e) u)
holds_longer u n c e f l o = holds_before c e u (subst (λ k. ConstraintFits k u) (sym l) f) ∙ o

-- another guard that is equally true where u holds
pub guard_changed : (u : List (List Lit)) (n m : ℕ) (g h : List (List Lit)) (t : TermD) → ConstraintFits n u → ((c : List Atom) → IsTrue (holds c u) → holds c g ≡ holds c h) → IsSameWhere u n (set_of (only (comp m g t))) (set_of (only (comp m h t)))
guard_changed u n m g h t f same c l o =
    let alike : (e : List Atom) → holds (c ++ e) g ≡ holds (c ++ e) h = λ e. same (c ++ e) (holds_longer u n c e f l o) in
    matched_same c m g t m h t (record {
      there = λ e i. (e, record { count = i.count; guard = subst IsTrue (alike e) i.guard }, same_at_refl t (c ++ e));
      back = λ e i. (e, record { count = i.count; guard = subst IsTrue (sym (alike e)) i.guard }, same_at_refl t (c ++ e));
    })

both_hold : (c e : List Atom) (n m : ℕ) (u g h : List (List Lit)) → length c ≡ n → ConstraintFits n u → ((d : List Atom) → holds d h ≡ (holds d u && holds d g)) → IsTrue (holds c u) → IsTrue (holds (c ++ e) g) → IsTrue (holds (c ++ e) h)
both_hold c e n m u g h l f both o p =
    both (c ++ e) ∙ (ap (λ b. b && holds (c ++ e) g) (holds_longer u n c e f l o) ∙ p)

-- another item with the same value where the guard holds
pub item_changed : (u h : List (List Lit)) (n m : ℕ) (g : List (List Lit)) (t s : TermD) → ConstraintFits n u → ((d : List Atom) → holds d h ≡ (holds d u && holds d g)) → IsSameWhere h (n + m) t s → IsSameWhere u n (set_of (only (comp m g t))) (set_of (only (comp m g s)))
item_changed u h n m g t s f both same c l o =
    let here : (e : List Atom) → IsExtension c m g e → SameAt t (c ++ e) s (c ++ e) =
    λ e i. same (c ++ e) (omega (arith, length-append c e, i.count)) (both_hold c e n m u g h l f both o i.guard) in
    matched_same c m g t m g s (record { there = λ e i. (e, i, here e i); back = λ e i. (e, i, here e i) })

-- no members
pub nothing_there : (u h : List (List Lit)) (n m : ℕ) (g : List (List Lit)) (t : TermD) → ConstraintFits n u → ((d : List Atom) → holds d h ≡ (holds d u && holds d g)) → ((d : List Atom) × (length d ≡ n + m) × IsTrue (holds d h) → ⊥) → IsSameWhere u n (set_of (only (comp m g t))) (set_of [])
nothing_there u h n m g t f both none c l o = sets_same (only (comp m g t)) [] c c there (λ w x k. absurd k)
  where
    there : (w : TermD) (x : List Atom) → MakesAt w x (comp m g t) c ⊎ ⊥ → InAt w x (comps_of []) c
    there w x (inl (e, i, p, q)) =
        absurd (none (c ++ e, omega (arith, length-append c e, i.count), both_hold c e n m u g h l f both o i.guard))
    there w x (inr k) = absurd k

-- ---- a binder less
-- what the item needs of the level that is left out
pub record CanLeave (u g : List (List Lit)) (n b a : ℕ) (t : TermD) : Type 0 where
  pub place : Occurs b t → a < b
  pub atom : Occurs b t → (d : List Atom) → length d ≡ n → IsTrue (holds d u) → IsTrue (holds d g) → IsTrue (equal (atom_at d b) (atom_at d a))

module _ (b a : ℕ) (x : Atom) (short : List Atom) (t : TermD) (l : b ≤ length short) where
  put_renames : (Occurs b t → a < b) → (Occurs b t → IsTrue (equal x (atom_at short a))) → Renames (moved b a) (λ i. Occurs i t) (put b x short) short
  put_renames place same = record { within = within; atoms = atoms; after = after }
    where
      count : length (put b x short) ≡ suc (length short)
      count = length-put b x short

      within : (i : ℕ) → Occurs i t → i < length (put b x short) → moved b a i < length short
      within i o m = go (cases_order i b)
        where
          go : (i ≡ b) ⊎ ((i < b) ⊎ (b < i)) → moved b a i < length short
          go (inl e) =
              let p : a < b = place (subst (λ j. Occurs j t) e o) in
              subst (λ j. moved b a j < length short) (sym e) (omega (arith, moved_at b a, p))
          go (inr (inl k)) = omega (arith, moved_below b a i k)
          go (inr (inr k)) = omega (arith, moved_above b a i k, count)

      atoms : (i : ℕ) → Occurs i t → i < length (put b x short) → IsTrue (equal (atom_at (put b x short) i) (atom_at short (moved b a i)))
      atoms i o m = go (cases_order i b)
        where
          go : (i ≡ b) ⊎ ((i < b) ⊎ (b < i)) → IsTrue (equal (atom_at (put b x short) i) (atom_at short (moved b a i)))
          go (inl e) =
              let here : IsTrue (equal x (atom_at short a)) = same (subst (λ j. Occurs j t) e o) in
              subst (λ j. IsTrue (equal (atom_at (put b x short) j) (atom_at short (moved b a j)))) (sym e)
              (subst (λ z. IsTrue (equal z (atom_at short (moved b a b)))) (sym (put_at b x short l))
              (subst (λ j. IsTrue (equal x (atom_at short j))) (sym (moved_at b a)) here))
          go (inr (inl k)) =
              let e : atom_at (put b x short) i ≡ atom_at short (moved b a i) = put_below b x short i k (omega arith) ∙ ap (λ j. atom_at short j) (sym (moved_below b a i k)) in
              subst (λ z. IsTrue (equal (atom_at (put b x short) i) z)) e (equal_refl (atom_at (put b x short) i))
          go (inr (inr k)) =
              let up : i ≡ suc (i - 1) = omega arith in
              let e : atom_at (put b x short) i ≡ atom_at short (moved b a i) = ap (λ j. atom_at (put b x short) j) up ∙ put_above b x short (i - 1) (omega arith) l ∙ ap (λ j. atom_at short j) (sym (moved_above b a i k)) in
              subst (λ z. IsTrue (equal (atom_at (put b x short) i) z)) e (equal_refl (atom_at (put b x short) i))

      after : (j : ℕ) → moved b a (length (put b x short) + j) ≡ length short + j
      after j =
          let k : b < length (put b x short) + j = omega (arith, count) in
          moved_above b a (length (put b x short) + j) k ∙ omega (arith, count)

-- The guard holds for some atom at b, and in the item a stands for b.
pub binder_left_out : (u : List (List Lit)) (n m b a : ℕ) (g h : List (List Lit)) (t : TermD) → ConstraintFits n u → n ≤ b → b < n + suc m → ConstraintFits (n + suc m) g → HoldsForSome (n + m) (rename_constraint (moved b (n + m)) g) h → CanLeave u g (n + suc m) b a t → IsSameWhere u n (set_of (only (comp (suc m) g t))) (set_of (only (comp m h (rename (moved b a) t))))
binder_left_out u n m b a g h t f from below gf some leave c l o =
    matched_same c (suc m) g t m h (rename (moved b a) t) (record { there = there; back = back })
  where
    at_b : length c + (b - n) ≡ b
    at_b = omega (arith, l)

    count : (d : List Atom) → length d ≡ m → length (c ++ d) ≡ n + m
    count d e = omega (arith, length-append c d, l, e)

    inside : (d : List Atom) → length d ≡ m → b ≤ length (c ++ d)
    inside d e = omega (arith, count d e)

    whole_is : (x : Atom) (d : List Atom) → put b x (c ++ d) ≡ c ++ put (b - n) x d
    whole_is x d = ap (λ j. put j x (c ++ d)) (sym at_b) ∙ put-append c (b - n) x d

    turned : (x : Atom) (d : List Atom) → length d ≡ m → holds (c ++ put (b - n) x d) g ≡ holds ((c ++ d) ++ x ∷ []) (rename_constraint (moved b (n + m)) g)
    turned x d e =
        ap (λ z. holds z g) (sym (whole_is x d)) ∙
        holds_moved b x (c ++ d) (inside d e) g (subst (λ j. ConstraintFits j g) (omega (arith, count d e)) gf) ∙
        ap (λ j. holds ((c ++ d) ++ x ∷ []) (rename_constraint (moved b j) g)) (count d e)

    same : (x : Atom) (d : List Atom) → length d ≡ m → IsTrue (holds (c ++ put (b - n) x d) g) → SameAt t (c ++ put (b - n) x d) (rename (moved b a) t) (c ++ d)
    same x d e holding =
        let full : List Atom = put b x (c ++ d) in
        let long : length full ≡ n + suc m = omega (arith, length-put b x (c ++ d), count d e) in
        let under : IsTrue (holds full u) = subst (λ z. IsTrue (holds z u)) (sym (whole_is x d)) (holds_before c (put (b - n) x d) u (subst (λ j. ConstraintFits j u) (sym l) f) ∙ o) in
        let guard : IsTrue (holds full g) = subst (λ z. IsTrue (holds z g)) (sym (whole_is x d)) holding in
        let agree : Occurs b t → IsTrue (equal x (atom_at (c ++ d) a)) =
        λ w. let p : a < b = leave.place w in
        subst (λ z. IsTrue (equal z (atom_at (c ++ d) a))) (put_at b x (c ++ d) (inside d e))
        (subst (λ z. IsTrue (equal (atom_at full b) z)) (put_below b x (c ++ d) a p (omega (arith, inside d e, p))) (leave.atom w full long under guard)) in
        subst (λ z. SameAt t z (rename (moved b a) t) (c ++ d)) (whole_is x d)
        (same_renamed (moved b a) t full (c ++ d) (put_renames b a x (c ++ d) t (inside d e) leave.place agree))

    there : (e : List Atom) → IsExtension c (suc m) g e → (d : List Atom) × IsExtension c m h d × SameAt t (c ++ e) (rename (moved b a) t) (c ++ d)
    there e i =
        let r : IsPut (b - n) e = taken_out (b - n) e (omega (arith, i.count, at_b, l)) in
        let short : length r.rest ≡ m = omega (arith, r.count, i.count) in
        let holding : IsTrue (holds (c ++ put (b - n) r.atom r.rest) g) = subst (λ z. IsTrue (holds (c ++ z) g)) r.made i.guard in (
          r.rest,
          record {
            count = short;
            guard = (some (c ++ r.rest) (count r.rest short)).1 (r.atom, sym (turned r.atom r.rest short) ∙ holding);
          },
          subst (λ z. SameAt t (c ++ z) (rename (moved b a) t) (c ++ r.rest)) (sym r.made) (same r.atom r.rest short holding),
        )

    back : (d : List Atom) → IsExtension c m h d → (e : List Atom) × IsExtension c (suc m) g e × SameAt t (c ++ e) (rename (moved b a) t) (c ++ d)
    back d i =
        let r : (x : Atom) × IsTrue (holds ((c ++ d) ++ x ∷ []) (rename_constraint (moved b (n + m)) g)) = (some (c ++ d) (count d i.count)).0 i.guard in
        let holding : IsTrue (holds (c ++ put (b - n) r.0 d) g) = turned r.0 d i.count ∙ r.1 in (
          put (b - n) r.0 d,
          record { count = length-put (b - n) r.0 d ∙ ap suc i.count; guard = holding },
          same r.0 d i.count holding,
        )
