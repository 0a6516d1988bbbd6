-- Choices with equal atoms at some levels.
use Rattle.std.proofs.Common.{◌≡◌, ℕ, ◌-◌, ◌<◌, ◌≤◌, ◌⊎◌, inl, inr, List, [], ◌∷◌, ◌++◌, length, length-append, refl, sym, arith}
use Rattle.std.proofs.lemmas.Bool.{cases_lt}
use Rattle.std.proofs.lemmas.List.{get_or_past, get_or_append_left, get_or-append_right}
use Rattle.std.specs.Bool.{IsTrue}
use Rattle.std.proofs.Math.Seq.{get_or-append_seam}
use Rattle.lois_base.specs.Atom.{Atom, equal, whole}
use Rattle.lois_base.specs.AtomMaps.{AreEqualFor}
use Rattle.lois_base.specs.Truth.{atom_at}
use Rattle.lois_base.proofs.Order.{equal_refl, equal_sym}

pub length_same : (c d e f : List Atom) → length c ≡ length d → length e ≡ length f → length (c ++ e) ≡ length (d ++ f)
length_same c d e f h k = omega (arith, length-append c e, length-append d f)

pub no_atoms : (c : List Atom) → length c ≡ 0 → c ≡ []
no_atoms [] h = refl
no_atoms (a ∷ c) h = absurd (omega arith)

pub atom_at_end : (c : List Atom) (a : Atom) (n : ℕ) → length c ≡ n → atom_at (c ++ a ∷ []) n ≡ a
atom_at_end c a n e = rw (sym e) (get_or-append_seam c a [] (whole 0))

module _ (P : ℕ → Type 0) where
  -- at a level that both choices lack, both read zero
  pub equal_for_at : (c d : List Atom) → AreEqualFor P c d → (i : ℕ) → P i → IsTrue (equal (atom_at c i) (atom_at d i))
  equal_for_at c d h i p = go (cases_lt i (length c))
    where
      go : i < length c ⊎ length c ≤ i → IsTrue (equal (atom_at c i) (atom_at d i))
      go (inl l) = h.atoms i p l
      go (inr l) =
          let m : length d ≤ i = omega (arith, h.count) in
          rw (get_or_past c i (whole 0) l, get_or_past d i (whole 0) m) (equal_refl (whole 0))

  pub equal_for_sym : (c d : List Atom) → AreEqualFor P c d → AreEqualFor P d c
  equal_for_sym c d h =
      record { count = sym h.count; atoms = λ i p l. equal_sym (atom_at c i) (atom_at d i) (equal_for_at c d h i p) }

  pub equal_for_longer : (c d e : List Atom) → AreEqualFor P c d → AreEqualFor P (c ++ e) (d ++ e)
  equal_for_longer c d e h =
      record { count = length_same c d e e h.count refl; atoms = λ i p l. go i p (cases_lt i (length c)) }
    where
      go : (i : ℕ) → P i → i < length c ⊎ length c ≤ i → IsTrue (equal (atom_at (c ++ e) i) (atom_at (d ++ e) i))
      go i p (inl l) =
          let m : i < length d = omega (arith, h.count) in
          rw (get_or_append_left c e (whole 0) i l, get_or_append_left d e (whole 0) i m) (h.atoms i p l)
      go i p (inr l) =
          rw (get_or-append_right c e (length c) i (whole 0) refl l, get_or-append_right d e (length c) i (whole 0) (sym h.count) l) (equal_refl (atom_at e (i - length c)))
