-- Levels renamed by a function, in literals, constraints and terms.
use Rattle.std.specs.Prelude.{ℕ, List, map}
use Rattle.lois_base.specs.declared.guards.Lit.{Lit}
use Rattle.lois_base.specs.Data.{TermD, var, tag, tup, coll, TermsD, no_terms, term, CompD, comp, CompsD, no_comps, more}

abbrev pub rename_lit : (ℕ → ℕ) → Lit → Lit
rename_lit name l = record { op = l.op; left = name l.left; right = name l.right }

abbrev pub rename_cube : (ℕ → ℕ) → List Lit → List Lit
rename_cube name = map (rename_lit name)

abbrev pub rename_constraint : (ℕ → ℕ) → List (List Lit) → List (List Lit)
rename_constraint name = map (rename_cube name)

abbrev mutual
  pub rename : (ℕ → ℕ) → TermD → TermD
  rename name (var i) = var (name i)
  rename name (tag t) = tag t
  rename name (tup ts) = tup (rename_parts name ts)
  rename name (coll cs) = coll (rename_items name cs)

  pub rename_parts : (ℕ → ℕ) → TermsD → TermsD
  rename_parts name no_terms = no_terms
  rename_parts name (term t ts) = term (rename name t) (rename_parts name ts)

  pub rename_comp : (ℕ → ℕ) → CompD → CompD
  rename_comp name (comp m g t) = comp m (rename_constraint name g) (rename name t)

  pub rename_items : (ℕ → ℕ) → CompsD → CompsD
  rename_items name no_comps = no_comps
  rename_items name (more c cs) = more (rename_comp name c) (rename_items name cs)
