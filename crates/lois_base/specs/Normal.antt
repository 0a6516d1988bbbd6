-- Normal terms: no comprehension is empty or superfluous, and no binder is unused or fixed.
use Rattle.std.specs.Prelude.{◌≡◌, ℕ, ◌+◌, ◌<◌, ◌≤◌, List, ◌++◌, length, map, IsTrue, IsFalse, ◌⊎◌}
use Rattle.std.specs.List.{Any, flat_map}
use Rattle.lois_base.specs.Atom.{Atom, equal}
use Rattle.lois_base.specs.Data.{TermD, var, tag, tup, coll, TermsD, no_terms, term, CompD, comp, CompsD, no_comps, more}
use Rattle.lois_base.specs.Truth.{atom_at, holds}
use Rattle.lois_base.specs.Values.{IsExtension, InAt}
use Rattle.lois_base.specs.declared.guards.Lit.{Lit}

-- a guard that holds where both do
abbrev pub both : List (List Lit) → List (List Lit) → List (List Lit)
both u g = flat_map (λ c. map (λ d. c ++ d) g) u

-- a literal, or some literal of a guard, speaks of the level b
abbrev pub LitUses : ℕ → Lit → Type 0
LitUses b l = (l.left ≡ b) ⊎ (l.right ≡ b)

abbrev pub GuardUses : ℕ → List (List Lit) → Type 0
GuardUses b = Any (Any (LitUses b))

-- the level b occurs in a term, the guards inside it included
abbrev mutual
  pub Occurs : ℕ → TermD → Type 0
  Occurs b (var i) = i ≡ b
  Occurs b (tag t) = ⊥
  Occurs b (tup ts) = OccursInPart b ts
  Occurs b (coll cs) = OccursInItem b cs

  pub OccursInPart : ℕ → TermsD → Type 0
  OccursInPart b no_terms = ⊥
  OccursInPart b (term t ts) = Occurs b t ⊎ OccursInPart b ts

  pub OccursInComp : ℕ → CompD → Type 0
  OccursInComp b (comp m g t) = GuardUses b g ⊎ Occurs b t

  pub OccursInItem : ℕ → CompsD → Type 0
  OccursInItem b no_comps = ⊥
  OccursInItem b (more c cs) = OccursInComp b c ⊎ OccursInItem b cs

-- one list of comprehensions after the other
abbrev pub concatenated : CompsD → CompsD → CompsD
concatenated no_comps cs = cs
concatenated (more k ks) cs = more k (concatenated ks cs)

-- a choice of n atoms at which a guard holds
pub record Satisfies (n : ℕ) (u : List (List Lit)) (c : List Atom) : Type 0 where
  pub count : length c ≡ n
  pub met : IsTrue (holds c u)

-- A comprehension of m binders with a guard and an item, beside others, at the choices of n atoms at which u holds: it is met
-- somewhere, each binder occurs in the item, no binder is fixed to an earlier level, and somewhere it has a member of its own.
pub record IsIrredundant (m : ℕ) (g : List (List Lit)) (t : TermD) (others : CompsD) (u : List (List Lit)) (n : ℕ) : Type 0 where
  pub met : (c : List Atom) × Satisfies (n + m) (both u g) c
  pub used : (b : ℕ) → n ≤ b → b < n + m → Occurs b t
  pub free : (b a : ℕ) → n ≤ b → b < n + m → a < b → (c : List Atom) × Satisfies (n + m) (both u g) c × IsFalse (equal (atom_at c b) (atom_at c a))
  pub own : (c e : List Atom) × Satisfies n u c × IsExtension c m g e × (InAt t (c ++ e) others c → ⊥)

-- Normal under u, with n levels. Each comprehension is judged beside those before and those after it.
abbrev mutual
  pub IsNormal : TermD → List (List Lit) → ℕ → Type 0
  IsNormal (var i) u n = Unit {0}
  IsNormal (tag t) u n = Unit {0}
  IsNormal (tup ts) u n = PartsAreNormal ts u n
  IsNormal (coll cs) u n = EachIsNormal cs no_comps u n

  pub PartsAreNormal : TermsD → List (List Lit) → ℕ → Type 0
  PartsAreNormal no_terms u n = Unit {0}
  PartsAreNormal (term t ts) u n = IsNormal t u n × PartsAreNormal ts u n

  pub EachIsNormal : CompsD → CompsD → List (List Lit) → ℕ → Type 0
  EachIsNormal no_comps before u n = Unit {0}
  EachIsNormal (more k ks) before u n =
      IsNormalComp k (concatenated before ks) u n × EachIsNormal ks (concatenated before (more k no_comps)) u n

  pub IsNormalComp : CompD → CompsD → List (List Lit) → ℕ → Type 0
  IsNormalComp (comp m g t) others u n = IsIrredundant m g t others u n × IsNormal t (both u g) (n + m)
