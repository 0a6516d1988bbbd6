-- Terms and lines into which no levels are put.
use Rattle.std.proofs.Common.{◌≡◌, ℕ, ◌+◌, Bool, true, false, List, [], ◌∷◌, map, refl, ap, ◌∙◌, if◌then◌else◌, nat_lt, arith}
use Rattle.lois_base.specs.Data.{TermD, var, tag, tup, coll, TermsD, no_terms, term, CompD, comp, CompsD, no_comps, more}
use Rattle.lois_base.specs.Shift.{shift_level, shift_lit, shift_cube, shift_constraint, shift, shift_parts, shift_comp, shift_items}
use Rattle.lois_base.specs.declared.guards.Lit.{Lit}
use Rattle.lois_answers.specs.ResultsData.{LineD}
use Rattle.lois_context.specs.Entered.{carried_line}

module _ (n : ℕ) where
  level_same : (i : ℕ) → shift_level n 0 i ≡ i
  level_same i = go (nat_lt i n)
    where
      go : (b : Bool) → (if b then i else (i + 0)) ≡ i
      go true = refl
      go false = omega arith

  lit_same : (l : Lit) → shift_lit n 0 l ≡ l
  lit_same l =
      ap (λ i. record { op = l.op; left = i; right = shift_level n 0 l.right }) (level_same l.left) ∙ ap (λ i. record { op = l.op; left = l.left; right = i }) (level_same l.right)

  cube_same : (ls : List Lit) → shift_cube n 0 ls ≡ ls
  cube_same [] = refl
  cube_same (l ∷ ls) = rw (lit_same l, cube_same ls)

  guard_same : (g : List (List Lit)) → shift_constraint n 0 g ≡ g
  guard_same [] = refl
  guard_same (k ∷ ks) = rw (cube_same k, guard_same ks)

  mutual
    -- with no levels put in, a term is as it was
    pub shift_none : (t : TermD) → shift n 0 t ≡ t
    shift_none (var i) = ap var (level_same i)
    shift_none (tag x) = refl
    shift_none (tup ts) = ap tup (parts_none ts)
    shift_none (coll ks) = ap coll (items_none ks)

    parts_none : (ts : TermsD) → shift_parts n 0 ts ≡ ts
    parts_none no_terms = refl
    parts_none (term t ts) = rw (shift_none t, parts_none ts)

    comp_none : (k : CompD) → shift_comp n 0 k ≡ k
    comp_none (comp m g t) = rw (guard_same g, shift_none t)

    items_none : (ks : CompsD) → shift_items n 0 ks ≡ ks
    items_none no_comps = refl
    items_none (more k ks) = rw (comp_none k, items_none ks)

  -- and lines are as they were
  pub lines_none : (ls : List LineD) → map (carried_line n 0) ls ≡ ls
  lines_none [] = refl
  lines_none (l ∷ ls) = rw (shift_none l.term, lines_none ls)
