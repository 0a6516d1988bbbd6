-- Where a cube sets a level equal to another, that one in its place says that some atom meets the cube.
use Rattle.std.proofs.Common.{◌≡◌, ℕ, ◌+◌, ◌<◌, List, [], ◌∷◌, ◌++◌, length, map, arith, refl, sym, ◌∙◌}
use Rattle.std.proofs.lemmas.List.Elements.{All-head, All-tail, All-contains}
use Rattle.std.specs.Bool.{IsTrue}
use mathlib.Core.Logic.{inl, inr}
use Rattle.lois_base.specs.Atom.{Atom, equal}
use Rattle.lois_base.specs.Fits.{LitFits, CubeFits}
use Rattle.lois_base.specs.Truth.{atom_at, lit_holds, cube_holds}
use Rattle.lois_base.specs.declared.guards.Lit.{Lit}
use Rattle.lois_base.specs.declared.guards.Op.TheVariants.{Eq}
use Rattle.lois_base.proofs.Order.{equal_refl, equal_sym}
use Rattle.lois_base.proofs.Truths.{op_respects}
use Rattle.lois_base.proofs.Choices.{atom_at_end}
use Rattle.lois_order.specs.Equations.{AreEquivalentCubes, Equates, renamed_level, renamed}
use Rattle.lois_order.proofs.Choices.{at_front, place}
use Rattle.lois_order.proofs.Projects.{Projects}
use Rattle.lois_order.proofs.With.{contained_entails}

module _ (c : List Atom) (a : Atom) (x y : ℕ) (size : length c ≡ x) (same : IsTrue (equal a (atom_at c y))) where
  level_renamed : (i : ℕ) → i < x + 1 → IsTrue (equal (atom_at (c ++ a ∷ []) i) (atom_at c (renamed_level x y i)))
  level_renamed i l = elim (place c a x i size l) [
    | inl p ↦ rw (p.2, p.1) same
    | inr p ↦ rw (p.2, p.1) (equal_refl (atom_at c i))
  ]

  lit_renamed : (l : Lit) → LitFits (x + 1) l → lit_holds (c ++ a ∷ []) l ≡ lit_holds c (renamed x y l)
  lit_renamed l f =
      op_respects l.op (atom_at (c ++ a ∷ []) l.left) (atom_at c (renamed_level x y l.left)) (atom_at (c ++ a ∷ []) l.right) (atom_at c (renamed_level x y l.right)) (level_renamed l.left f.0) (level_renamed l.right f.1)

  pub cube_renamed : (cube : List Lit) → CubeFits (x + 1) cube → cube_holds (c ++ a ∷ []) cube ≡ cube_holds c (map (renamed x y) cube)
  cube_renamed [] f = refl
  cube_renamed (l ∷ ls) f =
      let h = lit_renamed l (All-head (LitFits (x + 1)) l ls f) in
      let k = cube_renamed ls (All-tail (LitFits (x + 1)) l ls f) in
      rw (h, k) refl

module _ (cube : List Lit) (x y : ℕ) (fits : CubeFits (x + 1) cube) (equation : Equates cube x y) where
  pub other_below : y < x
  other_below = elim equation.1 [
    | inl k ↦ let f : LitFits (x + 1) (record { op = Eq; left = x; right = y }) = All-contains (LitFits (x + 1)) cube (record { op = Eq; left = x; right = y }) fits k in omega (arith, equation.0)
    | inr k ↦ let f : LitFits (x + 1) (record { op = Eq; left = y; right = x }) = All-contains (LitFits (x + 1)) cube (record { op = Eq; left = y; right = x }) fits k in omega (arith, equation.0)
  ]

  same_atom : (c : List Atom) (a : Atom) → length c ≡ x → IsTrue (cube_holds (c ++ a ∷ []) cube) → IsTrue (equal a (atom_at c y))
  same_atom c a e h = elim equation.1 [
    | inl k ↦ let m : IsTrue (equal (atom_at (c ++ a ∷ []) x) (atom_at (c ++ a ∷ []) y)) = contained_entails cube (record { op = Eq; left = x; right = y }) k (c ++ a ∷ []) h in
        rw (atom_at_end c a x e, at_front c a x y e other_below) at m
    | inr k ↦ let m : IsTrue (equal (atom_at (c ++ a ∷ []) y) (atom_at (c ++ a ∷ []) x)) = contained_entails cube (record { op = Eq; left = y; right = x }) k (c ++ a ∷ []) h in
        equal_sym (atom_at c y) a (rw (atom_at_end c a x e, at_front c a x y e other_below) at m)
  ]

  pub substituted_projects : (r : List Lit) → AreEquivalentCubes (map (renamed x y) cube) r → Projects x cube r
  substituted_projects r s c e = (
    λ h. (atom_at c y, cube_renamed c (atom_at c y) x y e (equal_refl (atom_at c y)) cube fits ∙ sym (s c) ∙ h),
    λ p. s c ∙ sym (cube_renamed c p.0 x y e (same_atom c p.0 e p.1) cube fits) ∙ p.1,
  )
