-- Truth and value depend on no atom but those at the levels that occur.
use Rattle.std.proofs.Common.{◌≡◌, ℕ, ◌+◌, List, [], ◌∷◌, refl, ap, ◌∙◌, subst, arith}
use Rattle.lois_base.specs.Atom.{Atom}
use Rattle.lois_base.specs.Data.{TermD, var, tag, tup, coll, TermsD, no_terms, term, CompD, comp, CompsD, no_comps, more}
use Rattle.lois_base.specs.Normal.{GuardUses, Occurs}
use Rattle.lois_base.specs.AtomMaps.{AreEqualFor}
use Rattle.lois_base.specs.Rename.{rename, rename_parts, rename_comp, rename_items, rename_cube, rename_constraint}
use Rattle.lois_base.specs.Truth.{holds}
use Rattle.lois_base.specs.Values.{SameAt}
use Rattle.lois_base.specs.declared.guards.Lit.{Lit}
use Rattle.lois_base.proofs.Renamed.{Renames, guard_renamed, same_renamed}

-- each level under its own name
abbrev own : ℕ → ℕ
own i = i

cube_own : (k : List Lit) → rename_cube own k ≡ k
cube_own [] = refl
cube_own (l ∷ k) = ap (λ z. l ∷ z) (cube_own k)

constraint_own : (g : List (List Lit)) → rename_constraint own g ≡ g
constraint_own [] = refl
constraint_own (k ∷ g) = rw (cube_own k, constraint_own g)

mutual
  rename_own : (t : TermD) → rename own t ≡ t
  rename_own (var i) = refl
  rename_own (tag n) = refl
  rename_own (tup ts) = ap tup (parts_own ts)
  rename_own (coll cs) = ap coll (items_own cs)

  parts_own : (ts : TermsD) → rename_parts own ts ≡ ts
  parts_own no_terms = refl
  parts_own (term t ts) = rw (rename_own t, parts_own ts)

  comp_own : (k : CompD) → rename_comp own k ≡ k
  comp_own (comp m g t) = rw (constraint_own g, rename_own t)

  items_own : (ks : CompsD) → rename_items own ks ≡ ks
  items_own no_comps = refl
  items_own (more k ks) = rw (comp_own k, items_own ks)

stays : (P : ℕ → Type 0) (c d : List Atom) → AreEqualFor P c d → Renames own P c d
stays P c d h = record {
  within = λ i p l. omega (arith, h.count);
  atoms = h.atoms;
  after = λ j. ap (λ z. z + j) h.count;
}

-- a constraint has the same truth where the levels that it uses have equal atoms
pub holds_for : (c d : List Atom) (g : List (List Lit)) → AreEqualFor (λ b. GuardUses b g) c d → holds c g ≡ holds d g
holds_for c d g h =
    guard_renamed own c d g (stays (λ b. GuardUses b g) c d h) ∙ ap (λ z. holds d z) (constraint_own g)

-- a term has the same value where the levels that occur in it have equal atoms
pub value_for : (t : TermD) (c d : List Atom) → AreEqualFor (λ b. Occurs b t) c d → SameAt t c t d
value_for t c d h =
    subst (λ z. SameAt t c z d) (rename_own t) (same_renamed own t c d (stays (λ b. Occurs b t) c d h))
