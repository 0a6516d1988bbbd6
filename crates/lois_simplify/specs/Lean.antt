-- Comprehensions of which each part is needed.
use Rattle.std.specs.Prelude.{ℕ, ◌+◌, ◌<◌, ◌≤◌, List, [], ◌∷◌, ◌++◌, IsFalse, Bool, IsTrue}
use Rattle.lois_base.specs.Atom.{Atom, equal}
use Rattle.lois_base.specs.Data.{TermD, CompD, comp, comps_of}
use Rattle.lois_base.specs.Normal.{both, Satisfies, Occurs, IsNormal}
use Rattle.lois_base.specs.Truth.{atom_at}
use Rattle.lois_base.specs.Values.{IsExtension, InAt}
use Rattle.lois_base.specs.declared.guards.Lit.{Lit}
use Rattle.lois_constraint.specs.Normalised.{IsNormalised}
use Rattle.lois_simplify.specs.Irredundant.{HasNormalGuards}
use Rattle.lois_simplify.specs.Plain.{CompHasPlainGuards}

-- A comprehension of m binders that is lean by itself where u holds, inside n levels: all that a normal term asks of it, but
-- for what it has beside others.
pub record IsIrredundantAlone (u : List (List Lit)) (n m : ℕ) (g : List (List Lit)) (t : TermD) : Type 0 where
  pub met : (c : List Atom) × Satisfies (n + m) (both u g) c
  pub used : (b : ℕ) → n ≤ b → b < n + m → Occurs b t
  pub free : (b a : ℕ) → n ≤ b → b < n + m → a < b → (c : List Atom) × Satisfies (n + m) (both u g) c × IsFalse (equal (atom_at c b) (atom_at c a))
  pub guard : IsNormalised g
  pub item : IsNormal t (both u g) (n + m)
  pub guards : HasNormalGuards t

abbrev pub IsIrredundantComp : List (List Lit) → ℕ → CompD → Type 0
IsIrredundantComp u n (comp m g t) = IsIrredundantAlone u n m g t

-- somewhere the comprehension has a member that the others haven't
abbrev pub HasOwn : List (List Lit) → ℕ → List CompD → CompD → Type 0
HasOwn u n others (comp m g t) =
    (c e : List Atom) × Satisfies n u c × IsExtension c m g e × (InAt t (c ++ e) (comps_of others) c → ⊥)

-- each of these has a member of its own, beside those before them, the others of them and those to come
abbrev pub EachHasOwn : List (List Lit) → ℕ → List CompD → List CompD → List CompD → Type 0
EachHasOwn u n before [] coming = Unit {0}
EachHasOwn u n before (k ∷ ks) coming =
    HasOwn u n (before ++ (ks ++ coming)) k × EachHasOwn u n (before ++ k ∷ []) ks coming

-- lean by itself, and with plain guards if they are to be read
abbrev pub IsLeanComp : Bool → List (List Lit) → ℕ → CompD → Type 0
IsLeanComp brief u n k = IsIrredundantComp u n k × (IsTrue brief → CompHasPlainGuards k u n)
