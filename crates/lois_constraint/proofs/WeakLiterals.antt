-- The two parts of a literal with `<=`: with `<` and with `=`.
use Rattle.std.proofs.Common.{◌≡◌, ℕ, ◌⊎◌, inl, inr, true, not, List, [], ◌∷◌, ◌++◌, refl, ap}
use Rattle.std.proofs.lemmas.Bool.{and_from, and_parts, not-true}
use Rattle.std.specs.Bool.{IsTrue, IsFalse}
use Rattle.lois_base.specs.Atom.{Atom, below}
use Rattle.lois_base.specs.Truth.{atom_at, lit_holds, cube_holds}
use Rattle.lois_base.specs.declared.guards.Lit.{Lit}
use Rattle.lois_base.specs.declared.guards.Op.TheVariants.{Eq, Lt, AtMost}
use Rattle.lois_base.proofs.Order.{below_asym, equal_in, equal_out, test}

abbrev pub less : ℕ → ℕ → Lit
less x y = record { op = Lt; left = x; right = y }

abbrev pub same : ℕ → ℕ → Lit
same x y = record { op = Eq; left = x; right = y }

abbrev pub at_most : ℕ → ℕ → Lit
at_most x y = record { op = AtMost; left = x; right = y }

module _ (c : List Atom) where
  pub holding_parts : (k m : List Lit) (l : Lit) → cube_holds c (k ++ l ∷ m) ≡ true → (cube_holds c k ≡ true) × (lit_holds c l ≡ true) × (cube_holds c m ≡ true)
  holding_parts [] m l h = let p = and_parts (lit_holds c l) (cube_holds c m) h in (refl, p.0, p.1)
  holding_parts (q ∷ k) m l h =
      let p = and_parts (lit_holds c q) (cube_holds c (k ++ l ∷ m)) h in
      let r = holding_parts k m l p.1 in
      (and_from (lit_holds c q) (cube_holds c k) p.0 r.0, r.1, r.2)

  pub holding_from : (k m : List Lit) (l : Lit) → cube_holds c k ≡ true → lit_holds c l ≡ true → cube_holds c m ≡ true → cube_holds c (k ++ l ∷ m) ≡ true
  holding_from [] m l h i j = and_from (lit_holds c l) (cube_holds c m) i j
  holding_from (q ∷ k) m l h i j =
      let p = and_parts (lit_holds c q) (cube_holds c k) h in
      and_from (lit_holds c q) (cube_holds c (k ++ l ∷ m)) p.0 (holding_from k m l p.1 i j)

  pub less_holds : (x y : ℕ) → lit_holds c (less x y) ≡ true → lit_holds c (at_most x y) ≡ true
  less_holds x y h = ap not (below_asym (atom_at c x) (atom_at c y) h)

  pub same_holds : (x y : ℕ) → lit_holds c (same x y) ≡ true → lit_holds c (at_most x y) ≡ true
  same_holds x y h = ap not (equal_out (atom_at c x) (atom_at c y) h).1

  pub one_holds : (x y : ℕ) → lit_holds c (at_most x y) ≡ true → (lit_holds c (less x y) ≡ true) ⊎ (lit_holds c (same x y) ≡ true)
  one_holds x y h = go (test (below (atom_at c x) (atom_at c y)))
    where
      go : IsTrue (below (atom_at c x) (atom_at c y)) ⊎ IsFalse (below (atom_at c x) (atom_at c y)) → (lit_holds c (less x y) ≡ true) ⊎ (lit_holds c (same x y) ≡ true)
      go (inl l) = inl l
      go (inr n) = inr (equal_in (atom_at c x) (atom_at c y) n (not-true (below (atom_at c y) (atom_at c x)) h))

pub at_most_is : (l : Lit) → l.op ≡ AtMost → l ≡ at_most l.left l.right
at_most_is l e = ap (λ o. record { op = o; left = l.left; right = l.right }) e
