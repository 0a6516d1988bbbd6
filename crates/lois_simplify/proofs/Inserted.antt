-- An atom put into a choice, and the levels that are moved for it.
use Rattle.std.proofs.Common.{◌≡◌, ℕ, zero, suc, ◌+◌, ◌-◌, ◌<◌, ◌≤◌, ◌⊎◌, inl, inr, List, [], ◌∷◌, ◌++◌, length, refl, sym, ap, ◌∙◌, subst, arith}
use Rattle.std.proofs.lemmas.Bool.{cases_order, false≢true}
use Rattle.std.proofs.lemmas.Bool.Decides.{nat_tests}
use Rattle.std.proofs.lemmas.List.{get_or_append_left, get_or-append-add, length-map}
use Rattle.std.proofs.lemmas.List.Elements.{All-head, All-tail, All-weaker, All-map}
use Rattle.std.specs.Bool.{IsTrue, IsFalse}
use Rattle.std.specs.List.{All}
use Rattle.lois_base.specs.Atom.{Atom, whole}
use Rattle.lois_base.specs.Fits.{LitFits, CubeFits, ConstraintFits}
use Rattle.lois_base.specs.Rename.{rename_lit, rename_cube, rename_constraint}
use Rattle.lois_base.specs.Truth.{atom_at, op_holds, lit_holds, cube_holds, holds, sampled}
use Rattle.lois_base.specs.declared.guards.Lit.{Lit}
use Rattle.lois_base.proofs.Truths.{LitAgrees, holds_agree}
use Rattle.lois_simplify.specs.Moved.{moved}

-- x at position k
pub put : ℕ → Atom → List Atom → List Atom
put zero x s = x ∷ s
put (suc k) x [] = x ∷ []
put (suc k) x (y ∷ s) = y ∷ put k x s

pub length-put : (k : ℕ) (x : Atom) (s : List Atom) → length (put k x s) ≡ suc (length s)
unfolding put
length-put zero x s = refl
length-put (suc k) x [] = refl
length-put (suc k) x (y ∷ s) = ap suc (length-put k x s)

pub put_below : (k : ℕ) (x : Atom) (s : List Atom) (i : ℕ) → i < k → i < length s → atom_at (put k x s) i ≡ atom_at s i
unfolding put
put_below zero x s i l m = absurd (omega arith)
put_below (suc k) x [] i l m = absurd (omega arith)
put_below (suc k) x (y ∷ s) zero l m = refl
put_below (suc k) x (y ∷ s) (suc i) l m = put_below k x s i (omega arith) (omega arith)

pub put_at : (k : ℕ) (x : Atom) (s : List Atom) → k ≤ length s → atom_at (put k x s) k ≡ x
unfolding put
put_at zero x s l = refl
put_at (suc k) x [] l = absurd (omega arith)
put_at (suc k) x (y ∷ s) l = put_at k x s (omega arith)

pub put_above : (k : ℕ) (x : Atom) (s : List Atom) (i : ℕ) → k ≤ i → k ≤ length s → atom_at (put k x s) (suc i) ≡ atom_at s i
unfolding put
put_above zero x s i l m = refl
put_above (suc k) x [] i l m = absurd (omega arith)
put_above (suc k) x (y ∷ s) zero l m = absurd (omega arith)
put_above (suc k) x (y ∷ s) (suc i) l m = put_above k x s i (omega arith) (omega arith)

put_later : (k : ℕ) (x y : Atom) (s : List Atom) → put (suc k) x (y ∷ s) ≡ y ∷ put k x s
unfolding put
put_later k x y s = refl

pub put-append : (c : List Atom) (k : ℕ) (x : Atom) (s : List Atom) → put (length c + k) x (c ++ s) ≡ c ++ put k x s
put-append [] k x s = ap (λ j. put j x s) (omega arith)
put-append (y ∷ c) k x s =
    ap (λ j. put j x (y ∷ (c ++ s))) (omega arith) ∙ put_later (length c + k) x y (c ++ s) ∙ ap (λ z. y ∷ z) (put-append c k x s)

-- a choice with the position k is another one with an atom put at k
pub record IsPut (k : ℕ) (e : List Atom) : Type 0 where
  pub atom : Atom
  pub rest : List Atom
  pub made : e ≡ put k atom rest
  pub count : length e ≡ suc (length rest)

pub taken_out : (k : ℕ) (e : List Atom) → k < length e → IsPut k e
unfolding put
taken_out k [] l = absurd (omega arith)
taken_out zero (y ∷ e) l = record { atom = y; rest = e; made = refl; count = refl }
taken_out (suc k) (y ∷ e) l =
    let r = taken_out k e (omega arith) in
    record { atom = r.atom; rest = y ∷ r.rest; made = ap (λ z. y ∷ z) r.made; count = ap suc r.count }

pub moved_below : (gone to i : ℕ) → i < gone → moved gone to i ≡ i
moved_below gone to i l = grind (arith, nat_tests)

pub moved_at : (gone to : ℕ) → moved gone to gone ≡ to
moved_at gone to = grind (arith, nat_tests)

pub moved_above : (gone to i : ℕ) → gone < i → moved gone to i ≡ i - 1
moved_above gone to i l = grind (arith, nat_tests)

-- ---- the level b is at the top, behind the others
module _ (b : ℕ) (x : Atom) (s : List Atom) (l : b ≤ length s) where
  last_is : atom_at (s ++ x ∷ []) (length s) ≡ x
  last_is = ap (λ i. atom_at (s ++ x ∷ []) i) (omega arith) ∙ get_or-append-add s (x ∷ []) 0 (whole 0)

  atom_moved : (i : ℕ) → i < suc (length s) → atom_at (put b x s) i ≡ atom_at (s ++ x ∷ []) (moved b (length s) i)
  atom_moved i m = go (cases_order i b)
    where
      go : (i ≡ b) ⊎ ((i < b) ⊎ (b < i)) → atom_at (put b x s) i ≡ atom_at (s ++ x ∷ []) (moved b (length s) i)
      go (inl e) =
          ap (λ j. atom_at (put b x s) j) e ∙ put_at b x s l ∙ sym last_is ∙
          ap (λ j. atom_at (s ++ x ∷ []) j) (sym (moved_at b (length s))) ∙ ap (λ j. atom_at (s ++ x ∷ []) (moved b (length s) j)) (sym e)
      go (inr (inl k)) =
          put_below b x s i k (omega arith) ∙ sym (get_or_append_left s (x ∷ []) (whole 0) i (omega arith)) ∙
          ap (λ j. atom_at (s ++ x ∷ []) j) (sym (moved_below b (length s) i k))
      go (inr (inr k)) =
          let e : i ≡ suc (i - 1) = omega arith in
          ap (λ j. atom_at (put b x s) j) e ∙ put_above b x s (i - 1) (omega arith) l ∙
          sym (get_or_append_left s (x ∷ []) (whole 0) (i - 1) (omega arith)) ∙
          ap (λ j. atom_at (s ++ x ∷ []) j) (sym (moved_above b (length s) i k))

  lit_moved : (k : Lit) → LitFits (suc (length s)) k → lit_holds (put b x s) k ≡ lit_holds (s ++ x ∷ []) (rename_lit (moved b (length s)) k)
  lit_moved k f =
      ap (λ z. op_holds k.op z (atom_at (put b x s) k.right)) (atom_moved k.left f.0) ∙
      ap (λ z. op_holds k.op (atom_at (s ++ x ∷ []) (moved b (length s) k.left)) z) (atom_moved k.right f.1)

  cube_moved : (k : List Lit) → CubeFits (suc (length s)) k → cube_holds (put b x s) k ≡ cube_holds (s ++ x ∷ []) (rename_cube (moved b (length s)) k)
  cube_moved [] f = refl
  cube_moved (m ∷ k) f =
      rw (lit_moved m (All-head (LitFits (suc (length s))) m k f), cube_moved k (All-tail (LitFits (suc (length s))) m k f))

  pub holds_moved : (g : List (List Lit)) → ConstraintFits (suc (length s)) g → holds (put b x s) g ≡ holds (s ++ x ∷ []) (rename_constraint (moved b (length s)) g)
  holds_moved [] f = refl
  holds_moved (k ∷ g) f =
      rw (cube_moved k (All-head (CubeFits (suc (length s))) k g f), holds_moved g (All-tail (CubeFits (suc (length s))) k g f))

moved_fits : (b n i : ℕ) → b ≤ n → i < suc n → moved b n i < suc n
moved_fits b n i l m = go (cases_order i b)
  where
    go : (i ≡ b) ⊎ ((i < b) ⊎ (b < i)) → moved b n i < suc n
    go (inl e) = subst (λ j. moved b n j < suc n) (sym e) (omega (arith, moved_at b n))
    go (inr (inl k)) = omega (arith, moved_below b n i k)
    go (inr (inr k)) = omega (arith, moved_above b n i k)

pub constraint_moved_fits : (b n : ℕ) (g : List (List Lit)) → b ≤ n → ConstraintFits (suc n) g → ConstraintFits (suc n) (rename_constraint (moved b n) g)
constraint_moved_fits b n g l f =
    All-map (CubeFits (suc n)) (rename_cube (moved b n)) g
    (All-weaker (CubeFits (suc n)) (λ k. CubeFits (suc n) (rename_cube (moved b n) k)) (λ k h. All-map (LitFits (suc n)) (rename_lit (moved b n)) k
    (All-weaker (LitFits (suc n)) (λ m. LitFits (suc n) (rename_lit (moved b n) m)) (λ m o. (moved_fits b n m.left l o.0, moved_fits b n m.right l o.1)) k h)) g f)

-- ---- atoms behind a choice don't count for what fits it
module _ (c e : List Atom) where
  lit_before : (m : Lit) → LitFits (length c) m → LitAgrees (c ++ e) c m
  lit_before m o =
      ap (λ z. op_holds m.op z (atom_at (c ++ e) m.right)) (get_or_append_left c e (whole 0) m.left o.0) ∙
      ap (λ z. op_holds m.op (atom_at c m.left) z) (get_or_append_left c e (whole 0) m.right o.1)

  pub holds_before : (u : List (List Lit)) → ConstraintFits (length c) u → holds (c ++ e) u ≡ holds c u
  holds_before u f =
      holds_agree (c ++ e) c u
      (All-weaker (CubeFits (length c)) (All (LitAgrees (c ++ e) c)) (λ k h. All-weaker (LitFits (length c)) (LitAgrees (c ++ e) c) (λ m o. lit_before m o) k h) u f)

-- a literal that fails at a sample fails whatever stands behind it
pub literal_fails : (s : List ℕ) (e : List Atom) (l : Lit) → LitFits (length s) l → IsFalse (lit_holds (sampled s) l) → IsTrue (lit_holds (sampled s ++ e) l) → ⊥
literal_fails s e l f fails holds =
    let fits : LitFits (length (sampled s)) l = subst (λ n. LitFits n l) (sym (length-map s whole)) f in
    false≢true (sym fails ∙ sym (lit_before (sampled s) e l fits) ∙ holds)
