-- The text of constraints and of terms. The parameters are the names of the first levels.
use Rattle.std.specs.Prelude.{ℕ, zero, suc, ◌+◌, List, [], ◌∷◌, ◌++◌, map, slice_index_or, codes}
use Rattle.std.specs.Fmt.{decimal}
use Rattle.lois_base.specs.Data.{TermD, var, tag, tup, coll, TermsD, no_terms, term, CompD, comp, CompsD, no_comps, more}
use Rattle.lois_base.specs.declared.guards.Lit.{Lit}
use Rattle.lois_base.specs.declared.guards.Op.{Op}
use Rattle.lois_base.specs.declared.guards.Op.TheVariants.{Eq, Ne, Lt, AtMost}

-- texts, with a text between each two
abbrev pub joined : List ℕ → List (List ℕ) → List ℕ
joined between [] = []
joined between (t ∷ []) = t
joined between (t ∷ u ∷ ts) = t ++ between ++ joined between (u ∷ ts)

abbrev pub level_text : ℕ → List ℕ
level_text i = codes "$" ++ decimal i

-- A level of a parameter is spelled by the parameter's name.
abbrev pub level_or_name_text : List (List ℕ) → ℕ → List ℕ
level_or_name_text parameters i = slice_index_or parameters i (level_text i)

-- No answer has `<=`: its constraints are strict.
abbrev pub op_text : Op → List ℕ
op_text Eq = codes "="
op_text Ne = codes "!="
op_text Lt = codes "<"
op_text AtMost = codes "<="

abbrev pub literal_text : List (List ℕ) → Lit → List ℕ
literal_text parameters l = level_or_name_text parameters l.left ++ op_text l.op ++ level_or_name_text parameters l.right

abbrev pub cube_text : List (List ℕ) → List Lit → List ℕ
cube_text parameters [] = codes "true"
cube_text parameters (l ∷ ls) = joined (codes " and ") (map (literal_text parameters) (l ∷ ls))

abbrev pub constraint_text : List (List ℕ) → List (List Lit) → List ℕ
constraint_text parameters [] = codes "false"
constraint_text parameters (c ∷ cs) = joined (codes " or ") (map (cube_text parameters) (c ∷ cs))

-- a space and a level, for each of m levels from level n on
abbrev pub levels_text : ℕ → ℕ → List ℕ
levels_text n zero = []
levels_text n (suc m) = codes " " ++ level_text n ++ levels_text (suc n) m

-- m binders inside n levels
abbrev pub binders_text : ℕ → ℕ → List ℕ
binders_text n zero = []
binders_text n (suc m) = codes " for" ++ levels_text n (suc m)

-- The constraint with one empty cube is left out.
abbrev pub guard_text : List (List ℕ) → List (List Lit) → List ℕ
guard_text parameters ([] ∷ []) = []
guard_text parameters g = codes " if " ++ constraint_text parameters g

-- a term inside n levels
abbrev mutual
  pub term_text : List (List ℕ) → ℕ → TermD → List ℕ
  term_text parameters n (var i) = level_or_name_text parameters i
  term_text parameters n (tag t) = codes "'" ++ t
  term_text parameters n (tup ts) = codes "(" ++ joined (codes ", ") (part_texts parameters n ts) ++ codes ")"
  term_text parameters n (coll cs) = codes "{" ++ joined (codes ", ") (item_texts parameters n cs) ++ codes "}"

  pub part_texts : List (List ℕ) → ℕ → TermsD → List (List ℕ)
  part_texts parameters n no_terms = []
  part_texts parameters n (term t ts) = term_text parameters n t ∷ part_texts parameters n ts

  pub comp_text : List (List ℕ) → ℕ → CompD → List ℕ
  comp_text parameters n (comp m g t) =
      term_text parameters (n + m) t ++ binders_text n m ++ guard_text parameters g

  pub item_texts : List (List ℕ) → ℕ → CompsD → List (List ℕ)
  item_texts parameters n no_comps = []
  item_texts parameters n (more c cs) = comp_text parameters n c ∷ item_texts parameters n cs
