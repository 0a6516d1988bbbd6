-- Levels from `from` on rise by `by`.
use Rattle.std.specs.Prelude.{ℕ, ◌+◌, max, List, [], ◌∷◌, map, nat_lt, if◌then◌else◌}
use Rattle.lois_base.specs.declared.guards.Lit.{Lit}
use Rattle.lois_base.specs.Rename.{rename, rename_parts, rename_comp, rename_items}
use Rattle.lois_base.specs.Data.{TermD, var, tag, tup, coll, TermsD, no_terms, term, CompD, comp, CompsD, no_comps, more}

abbrev pub shift_level : ℕ → ℕ → ℕ → ℕ
shift_level from by i = if nat_lt i from then i else (i + by)

abbrev pub shift_lit : ℕ → ℕ → Lit → Lit
shift_lit from by l = record { op = l.op; left = shift_level from by l.left; right = shift_level from by l.right }

abbrev pub shift_cube : ℕ → ℕ → List Lit → List Lit
shift_cube from by = map (shift_lit from by)

abbrev pub shift_constraint : ℕ → ℕ → List (List Lit) → List (List Lit)
shift_constraint from by = map (shift_cube from by)

abbrev pub shift : ℕ → ℕ → TermD → TermD
shift from by = rename (shift_level from by)

abbrev pub shift_parts : ℕ → ℕ → TermsD → TermsD
shift_parts from by = rename_parts (shift_level from by)

abbrev pub shift_comp : ℕ → ℕ → CompD → CompD
shift_comp from by = rename_comp (shift_level from by)

abbrev pub shift_items : ℕ → ℕ → CompsD → CompsD
shift_items from by = rename_items (shift_level from by)

-- one more than the highest level that is used, and 0 where none is
abbrev pub top_of_lits : List Lit → ℕ
top_of_lits [] = 0
top_of_lits (l ∷ ls) = max (max (l.left + 1) (l.right + 1)) (top_of_lits ls)

abbrev pub top_of_cubes : List (List Lit) → ℕ
top_of_cubes [] = 0
top_of_cubes (c ∷ cs) = max (top_of_lits c) (top_of_cubes cs)

abbrev mutual
  pub top : TermD → ℕ
  top (var i) = i + 1
  top (tag t) = 0
  top (tup ts) = top_of_parts ts
  top (coll cs) = top_of_items cs

  pub top_of_parts : TermsD → ℕ
  top_of_parts no_terms = 0
  top_of_parts (term t ts) = max (top t) (top_of_parts ts)

  pub top_of_comp : CompD → ℕ
  top_of_comp (comp m g t) = max (top_of_cubes g) (top t)

  pub top_of_items : CompsD → ℕ
  top_of_items no_comps = 0
  top_of_items (more c cs) = max (top_of_comp c) (top_of_items cs)
