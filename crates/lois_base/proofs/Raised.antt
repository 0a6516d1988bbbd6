-- A term and a constraint mean the same where their levels are raised over atoms that are put in.
use Rattle.std.proofs.Common.{◌≡◌, ℕ, ◌+◌, ◌≤◌, List, ◌++◌, length, length-append, sym, subst, arith}
use Rattle.std.proofs.lemmas.List.{get_or_append_left, get_or-append_right}
use Rattle.std.proofs.lemmas.Bool.Decides.{nat_tests}
use Rattle.std.specs.Bool.{IsTrue}
use Rattle.lois_base.specs.Atom.{Atom, equal}
use Rattle.lois_base.specs.Data.{TermD}
use Rattle.lois_base.specs.Normal.{Occurs}
use Rattle.lois_base.specs.Shift.{shift, shift_level, shift_constraint}
use Rattle.lois_base.specs.Truth.{atom_at, holds}
use Rattle.lois_base.specs.Values.{SameAt}
use Rattle.lois_base.specs.declared.guards.Lit.{Lit}
use Rattle.lois_base.proofs.Order.{equal_refl}
use Rattle.lois_base.proofs.Renamed.{Renames, holds_renamed, same_renamed}
use Rattle.lois_base.proofs.Same.{same_at_sym}

-- x is put in between a and d
module _ (a : List Atom) (x : List Atom) where
  atom_raised : (d : List Atom) (i : ℕ) → atom_at (a ++ (x ++ d)) (shift_level (length a) (length x) i) ≡ atom_at (a ++ d) i
  atom_raised d i = grind (arith, nat_tests, get_or_append_left, get_or-append_right)

  length_raised : (d : List Atom) → length (a ++ (x ++ d)) ≡ length (a ++ d) + length x
  length_raised d = omega (arith, length-append a (x ++ d), length-append x d, length-append a d)

  level_within : (n m i : ℕ) → shift_level n m i ≤ i + m
  level_within n m i = grind (arith, nat_tests)

  level_after : (n m i : ℕ) → n ≤ i → shift_level n m i ≡ i + m
  level_after n m i h = grind (arith, nat_tests)

  put_in : (P : ℕ → Type 0) (d : List Atom) → Renames (shift_level (length a) (length x)) P (a ++ d) (a ++ (x ++ d))
  put_in P d = record {
    within = λ i p l. omega (arith, level_within (length a) (length x) i, length_raised d);
    atoms = λ i p l. subst (λ z. IsTrue (equal (atom_at (a ++ d) i) z)) (sym (atom_raised d i)) (equal_refl (atom_at (a ++ d) i));
    after = λ j. let k : length a ≤ length (a ++ d) + j = omega (arith, length-append a d) in
        omega (arith, level_after (length a) (length x) (length (a ++ d) + j) k, length_raised d);
  }

  pub raised : (d : List Atom) (g : List (List Lit)) → holds (a ++ (x ++ d)) (shift_constraint (length a) (length x) g) ≡ holds (a ++ d) g
  raised d g =
      sym (holds_renamed (shift_level (length a) (length x)) (λ i. Unit {0}) (a ++ d) (a ++ (x ++ d)) (put_in (λ i. Unit {0}) d) g (λ i k p j l q. (tt, tt)))

  pub same_raised : (t : TermD) (d : List Atom) → SameAt (shift (length a) (length x) t) (a ++ (x ++ d)) t (a ++ d)
  same_raised t d =
      same_at_sym t (a ++ d) (shift (length a) (length x) t) (a ++ (x ++ d)) (same_renamed (shift_level (length a) (length x)) t (a ++ d) (a ++ (x ++ d)) (put_in (λ b. Occurs b t) d))
