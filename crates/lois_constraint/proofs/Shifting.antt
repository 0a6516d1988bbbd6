-- Levels that fit after a shift.
use Rattle.std.proofs.Common.{◌≡◌, ℕ, ◌+◌, ◌<◌, ◌≤◌, Bool, true, false, if◌then◌else◌, nat_lt, List, [], ◌∷◌, length, get_or, map, subst, sym, arith}
use Rattle.std.specs.List.{All}
use Rattle.std.proofs.lemmas.List.Elements.{All-nil, All-cons, All-head, All-tail, All-map, All-weaker}
use Rattle.lois_base.specs.Fits.{LitFits, CubeFits, ConstraintFits}
use Rattle.lois_base.specs.Shift.{shift_lit, shift_cube, shift_constraint}
use Rattle.lois_base.specs.declared.guards.Lit.{Lit}

module _ {X Y : Type 0} (P : Y → Type 0) (f : X → Y) where
  pub All-of_map : (xs : List X) → All P (map f xs) → All (λ x. P (f x)) xs
  All-of_map [] h = All-nil (λ x. P (f x))
  All-of_map (x ∷ xs) h =
      All-cons (λ x. P (f x)) x xs (All-head P (f x) (map f xs) h) (All-of_map xs (All-tail P (f x) (map f xs) h))

pub lit_fits_at : (n from by : ℕ) (k items : List Lit) (i : ℕ) (d : Lit) → items ≡ k → CubeFits n (shift_cube from by k) → i < length items → LitFits n (shift_lit from by (get_or items i d))
lit_fits_at n from by k items i d e h l = All-of_map (LitFits n) (shift_lit from by) items (subst (λ x. CubeFits n (shift_cube from by x)) (sym e) h) i d l

pub cube_fits_at : (n from by : ℕ) (g items : List (List Lit)) (i : ℕ) (x : List Lit) → items ≡ g → ConstraintFits n (shift_constraint from by g) → i < length items → x ≡ get_or items i x → CubeFits n (shift_cube from by x)
cube_fits_at n from by g items i x e h l is =
    subst (λ y. CubeFits n (shift_cube from by y)) (sym is) (All-of_map (CubeFits n) (shift_cube from by) items (subst (λ y. ConstraintFits n (shift_constraint from by y)) (sym e) h) i x l)

raised_below : (n from by i : ℕ) (b : Bool) → i < n → (if b then i else (i + by)) < n + by
raised_below n from by i true l = omega arith
raised_below n from by i false l = omega arith

-- below n before the shift is below n + by after it
pub shift_fits : (n from by : ℕ) (g : List (List Lit)) → ConstraintFits n g → ConstraintFits (n + by) (shift_constraint from by g)
shift_fits n from by g h =
    All-map (CubeFits (n + by)) (shift_cube from by) g (All-weaker (CubeFits n) (λ k. CubeFits (n + by) (shift_cube from by k)) (λ k f. All-map (LitFits (n + by)) (shift_lit from by) k (All-weaker (LitFits n) (λ l. LitFits (n + by) (shift_lit from by l)) (λ l p. (raised_below n from by l.left (nat_lt l.left from) p.0, raised_below n from by l.right (nat_lt l.right from) p.1)) k f)) g h)

-- what fits a smaller size fits a greater one
pub fits_more : (n m : ℕ) (g : List (List Lit)) → n ≤ m → ConstraintFits n g → ConstraintFits m g
fits_more n m g l h =
    All-weaker (CubeFits n) (CubeFits m) (All-weaker (LitFits n) (LitFits m) (λ k p. (omega arith, omega arith))) g h
