-- A choice of atoms with one more atom.
use Rattle.std.proofs.Common.{◌≡◌, ℕ, ◌+◌, ◌<◌, true, false, ◌==◌, List, [], ◌∷◌, ◌++◌, length, arith, eq-eqb}
use Rattle.std.proofs.Math.ListN.{get_or-append}
use Rattle.std.proofs.lemmas.Bool.{ne_eqb, cases_eq}
use mathlib.Core.Logic.{◌⊎◌, inl, inr}
use Rattle.lois_base.specs.Atom.{Atom, whole}
use Rattle.lois_base.specs.Truth.{atom_at}
use Rattle.lois_base.proofs.Choices.{atom_at_end}

-- an atom before it
pub at_front : (c : List Atom) (a : Atom) (x i : ℕ) → length c ≡ x → i < x → atom_at (c ++ a ∷ []) i ≡ atom_at c i
at_front c a x i e l = get_or-append c (a ∷ []) (whole 0) i (omega arith)

-- a level is the last one, or an earlier one
abbrev pub Last : List Atom → Atom → ℕ → ℕ → Type 0
Last c a x i = (i ≡ x) × ((i == x) ≡ true) × (atom_at (c ++ a ∷ []) i ≡ a)

abbrev pub Earlier : List Atom → Atom → ℕ → ℕ → Type 0
Earlier c a x i = (i < x) × ((i == x) ≡ false) × (atom_at (c ++ a ∷ []) i ≡ atom_at c i)

pub place : (c : List Atom) (a : Atom) (x i : ℕ) → length c ≡ x → i < x + 1 → Last c a x i ⊎ Earlier c a x i
place c a x i e l = elim (cases_eq i x) [
  | inl y ↦ inl (y, eq-eqb i x y, rw y (atom_at_end c a x e))
  | inr n ↦ let f : i < x = omega arith in inr (f, ne_eqb i x n, at_front c a x i e f)
]
