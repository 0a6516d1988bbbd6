-- What one round makes of a comprehension.
use Rattle.std.specs.Prelude.{◌≡◌, ℕ, ◌+◌, ◌<◌, ◌≤◌, ◌&&◌, Bool, List, [], ◌∷◌, Option, Some, None, IsTrue}
use Rattle.lois_base.specs.Atom.{Atom}
use Rattle.lois_base.specs.Data.{CompD}
use Rattle.lois_base.specs.Fits.{ConstraintFits}
use Rattle.lois_base.specs.Normal.{Occurs}
use Rattle.lois_base.specs.Tree.{tree, comp_of}
use Rattle.lois_base.specs.Truth.{holds}
use Rattle.lois_base.specs.Validity.{AdmitsConstraint}
use Rattle.lois_base.specs.declared.guards.Lit.{Lit}
use Rattle.lois_base.specs.declared.values.Comp.{Comp}
use Rattle.lois_constraint.specs.Normalised.{IsNormalised}
use Rattle.lois_deciders.specs.Satisfiability.{ConstraintIsSatisfiable}
use Rattle.lois_simplify.specs.Fixed.{CanBeApart}
use Rattle.lois_simplify.specs.Plain.{IsPlain}
use Rattle.lois_simplify.specs.Lean.{IsLeanComp}
use Rattle.lois_simplify.specs.Simplification.{IsSimplification, set_of}
use Rattle.lois_simplify.specs.declared.rounds.Opening.{Opening}
use Rattle.lois_simplify.specs.declared.rounds.Opening.TheVariants.{Over, Open}
use Rattle.lois_simplify.specs.declared.rounds.Round.{Round}
use Rattle.lois_simplify.specs.declared.rounds.Round.TheVariants.{Lean, Empty, Shorter}

-- the set of one comprehension
abbrev pub only : CompD → List CompD
only k = k ∷ []

abbrev pub listed_comp : Option Comp → List CompD
listed_comp None = []
listed_comp (Some k) = only (comp_of k)

-- it is lean now, has no members, or has a binder less
abbrev pub IsRoundOf : Bool → List (List Lit) → ℕ → Comp → Round → Type 0
IsRoundOf brief u n k (Lean r) = IsSimplification u n (set_of (only (comp_of k))) (set_of (only (comp_of r))) × IsLeanComp brief u n (comp_of r)
IsRoundOf brief u n k Empty = IsSimplification u n (set_of (only (comp_of k))) (set_of [])
IsRoundOf brief u n k (Shorter r) =
    IsSimplification u n (set_of (only (comp_of k))) (set_of (only (comp_of r))) × (r.binders < k.binders)

-- A comprehension of m binders with the guard g, inside n levels, where h is what holds in it: u and g. It has members, and no
-- binder is fixed. If the guard is to be read it is plain.
pub record IsOpen (brief : Bool) (u : List (List Lit)) (n m : ℕ) (g h : List (List Lit)) : Type 0 where
  pub levels : ConstraintFits (n + m) h
  pub operators : (ordered : Bool) → AdmitsConstraint ordered u → AdmitsConstraint ordered g → AdmitsConstraint ordered h
  pub here : (c : List Atom) → holds c h ≡ (holds c u && holds c g)
  pub guard : IsNormalised g
  pub plain : IsTrue brief → IsPlain g u (n + m)
  pub met : ConstraintIsSatisfiable (n + m) h
  pub free : (b : ℕ) → n ≤ b → b < n + m → (a : ℕ) → a < b → CanBeApart (n + m) h b a

abbrev pub IsOpeningOf : Bool → List (List Lit) → ℕ → Comp → Opening → Type 0
IsOpeningOf brief u n k (Over r) = IsRoundOf brief u n k r
IsOpeningOf brief u n k (Open r) =
    IsSimplification u n (set_of (only (comp_of k))) (set_of (only (comp_of r.comp))) × (r.comp.binders ≤ k.binders) × IsOpen brief u n r.comp.binders r.comp.guard r.here

-- r stands for k inside n levels, whatever holds there
abbrev pub IsKeptEverywhere : ℕ → CompD → CompD → Type 0
IsKeptEverywhere n k r =
    (u : List (List Lit)) → ConstraintFits n u → IsSimplification u n (set_of (only k)) (set_of (only r))

-- the comprehension as it is, with each binder used, or without one that isn't
abbrev pub IsClosingOf : ℕ → Comp → Round → Type 0
IsClosingOf n k (Lean r) =
    (comp_of r ≡ comp_of k) × ((b : ℕ) → n ≤ b → b < n + k.binders → Occurs b (tree k.item))
IsClosingOf n k Empty = ⊥
IsClosingOf n k (Shorter r) =
    IsKeptEverywhere n (comp_of k) (comp_of r) × (r.binders < k.binders)
