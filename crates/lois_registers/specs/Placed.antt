-- Configurations and steps as terms, for one choice of the full registers at a time.
use Rattle.std.specs.Prelude.{◌≡◌, ℕ, zero, suc, ◌+◌, ◌/◌, ◌%◌, ◌^◌, Bool, false, cond, List, [], ◌∷◌, ◌++◌, Option, Some, None, map, slice_index_or, nat_eq, codes, ◌⊎◌}
use Rattle.std.specs.List.{flat_map}
use Rattle.lois_base.specs.Atom.{Atom}
use Rattle.lois_base.specs.Data.{TermD, var, tag, tup, no_terms, term, terms_of, CompD, comp}
use Rattle.lois_base.specs.Fits.{ConstraintFits}
use Rattle.lois_base.specs.Truth.{holds}
use Rattle.lois_base.specs.Validity.{AdmitsConstraint, IsStrictConstraint}
use Rattle.lois_base.specs.declared.guards.Lit.{Lit}
use Rattle.lois_base.specs.declared.guards.Op.{Op}
use Rattle.lois_registers.specs.Runs.{stored_from}
use Rattle.lois_registers.specs.declared.automata.RegStep.{RegStep}

-- how many registers are full
abbrev pub full : List (Option ℕ) → ℕ
full [] = 0
full (None ∷ os) = full os
full (Some i ∷ os) = suc (full os)

-- k registers, of which those are full whose bits are set in the pattern; these have the levels from m on
abbrev pub contents_from : ℕ → ℕ → ℕ → List (Option ℕ)
contents_from m zero pattern = []
contents_from m (suc k) pattern =
    cond (nat_eq (pattern % 2) 1) (Some m ∷ contents_from (m + 1) k (pattern / 2)) (None ∷ contents_from m k (pattern / 2))

-- the numbers below n
abbrev pub numbers : ℕ → List ℕ
numbers zero = []
numbers (suc n) = numbers n ++ n ∷ []

unfoldable pub placements : ℕ → List (List (Option ℕ))
placements k = map (contents_from 0 k) (numbers (2 ^ k))

abbrev pub content_term : Option ℕ → TermD
content_term None = tag (codes "none")
content_term (Some i) = var i

abbrev pub configuration_term : List ℕ → List (Option ℕ) → TermD
configuration_term state os = tup (terms_of (tag state ∷ map content_term os))

-- a state with the contents, at each choice of them
abbrev pub configuration_comp : List ℕ → List (Option ℕ) → CompD
configuration_comp state os = comp (full os) ([] ∷ []) (configuration_term state os)

abbrev pub configurations : List (List (Option ℕ)) → List (List ℕ) → List CompD
configurations places names = flat_map (λ name. map (configuration_comp name) places) names

-- the literal at the levels of its operands; none where one of them is empty
abbrev pub placed_literal : Op → Option ℕ → Option ℕ → Option Lit
placed_literal op (Some i) (Some j) = Some (record { op = op; left = i; right = j })
placed_literal op _ _ = None

abbrev pub placed_lit : List (Option ℕ) → Lit → Option Lit
placed_lit operands l = placed_literal l.op (slice_index_or operands l.left None) (slice_index_or operands l.right None)

abbrev pub with_literal : Option Lit → Option (List Lit) → Option (List Lit)
with_literal (Some l) (Some ls) = Some (l ∷ ls)
with_literal _ _ = None

abbrev pub placed : List (Option ℕ) → List Lit → Option (List Lit)
placed operands [] = Some []
placed operands (l ∷ ls) = with_literal (placed_lit operands l) (placed operands ls)

-- the guard of the literals; false where one of them names an empty register
abbrev pub constraint_of_cube : Option (List Lit) → List (List Lit)
constraint_of_cube None = []
constraint_of_cube (Some cube) = cube ∷ []

abbrev pub placed_guard : List (Option ℕ) → List Lit → List (List Lit)
placed_guard operands guard = constraint_of_cube (placed operands guard)

abbrev pub five_terms : TermD → TermD → TermD → TermD → TermD → TermD
five_terms a b c d e = tup (terms_of (a ∷ b ∷ c ∷ d ∷ e ∷ []))

abbrev pub triple_term : TermD → TermD → TermD → TermD
triple_term p l q = tup (term p (term l (term q no_terms)))

-- a step from the configurations with these contents; the letter has the level behind them
abbrev pub step_item : RegStep → List (Option ℕ) → TermD
step_item s os =
    triple_term (configuration_term s.from os) (var (full os)) (configuration_term s.to (stored_from 1 s.stored (full os) os))

abbrev pub step_comp : RegStep → List (Option ℕ) → CompD
step_comp s os = comp (full os + 1) (placed_guard (Some (full os) ∷ os) s.guard) (step_item s os)

abbrev pub step_comps : List (List (Option ℕ)) → List RegStep → List CompD
step_comps places steps = flat_map (λ s. map (step_comp s) places) steps

-- a comprehension with another guard, which holds at the same choices
pub record HasGuard (g h : List (List Lit)) : Type 0 where
  pub truth : (c : List Atom) → holds c h ≡ holds c g
  pub levels : (n : ℕ) → ConstraintFits n g → ConstraintFits n h
  pub operators : (o : Bool) → AdmitsConstraint o g → AdmitsConstraint o h
  pub strict : IsStrictConstraint g → IsStrictConstraint h

abbrev pub IsSpelledComp : CompD → CompD → Type 0
IsSpelledComp (comp m g t) (comp n h s) = (m ≡ n) × (t ≡ s) × HasGuard g h

-- the guard holds nowhere
abbrev pub IsIdle : CompD → Type 0
IsIdle (comp m g t) = (c : List Atom) → holds c g ≡ false

-- one comprehension for each that is wanted, but for idle ones, which may be left out
abbrev pub AreMade : List CompD → List CompD → Type 0
AreMade [] made = made ≡ []
AreMade (k ∷ ks) made =
    (IsIdle k × AreMade ks made) ⊎ ((l : CompD) × (rest : List CompD) × (made ≡ l ∷ rest) × IsSpelledComp k l × AreMade ks rest)
