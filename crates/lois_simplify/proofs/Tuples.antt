-- Tuples part by part.
use Rattle.std.proofs.Common.{◌≡◌, ℕ, suc, ◌≤◌, List, [], ◌∷◌, ◌++◌, length, refl, ap, subst, arith}
use Rattle.std.specs.Prelude.{Bool}
use Rattle.std.specs.Bool.{IsTrue}
use Rattle.lois_base.specs.Atom.{Atom}
use Rattle.lois_base.specs.Data.{TermD, tup, terms_of, depth_of_parts}
use Rattle.lois_base.specs.Fits.{PartsFit}
use Rattle.lois_base.specs.Normal.{IsNormal, PartsAreNormal}
use Rattle.lois_base.specs.Truth.{holds}
use Rattle.lois_base.specs.Validity.{AdmitsParts, count_of_parts, PartsHaveBoundedWidths}
use Rattle.lois_base.specs.Values.{SamePartsAt}
use Rattle.lois_base.specs.declared.guards.Lit.{Lit}
use Rattle.lois_simplify.specs.Simplification.{IsSimplification}
use Rattle.lois_simplify.specs.Irredundant.{HasNormalGuards, PartsHaveNormalGuards}
use Rattle.lois_simplify.specs.Plain.{HasPlainGuards, PartsHavePlainGuards}

-- s stands for t, and is normal
pub record IsSimplified (brief : Bool) (u : List (List Lit)) (n : ℕ) (t s : TermD) : Type 0 where
  pub kept : IsSimplification u n t s
  pub normal : IsNormal s u n
  pub guards : HasNormalGuards s
  pub plain : IsTrue brief → HasPlainGuards s u n

module _ (brief : Bool) (u : List (List Lit)) (n : ℕ) where
  abbrev pub PartsSimplified : List TermD → List TermD → Type 0
  PartsSimplified [] [] = Unit {0}
  PartsSimplified (t ∷ ts) (s ∷ ss) = IsSimplified brief u n t s × PartsSimplified ts ss
  PartsSimplified _ _ = ⊥

  pub part_behind : (ts ss : List TermD) (t s : TermD) → PartsSimplified ts ss → IsSimplified brief u n t s → PartsSimplified (ts ++ t ∷ []) (ss ++ s ∷ [])
  part_behind [] [] t s h p = (p, tt)
  part_behind [] (r ∷ ss) t s h p = absurd h
  part_behind (q ∷ ts) [] t s h p = absurd h
  part_behind (q ∷ ts) (r ∷ ss) t s h p = (h.0, part_behind ts ss t s h.1 p)

  same_parts : (ts ss : List TermD) → PartsSimplified ts ss → (c : List Atom) → length c ≡ n → IsTrue (holds c u) → SamePartsAt (terms_of ts) c (terms_of ss) c
  same_parts [] [] h c l o = tt
  same_parts [] (s ∷ ss) h c l o = absurd h
  same_parts (t ∷ ts) [] h c l o = absurd h
  same_parts (t ∷ ts) (s ∷ ss) h c l o = ((h.0).kept.value c l o, same_parts ts ss h.1 c l o)

  parts_levels : (ts ss : List TermD) → PartsSimplified ts ss → PartsFit n (terms_of ts) → PartsFit n (terms_of ss)
  parts_levels [] [] h f = f
  parts_levels [] (s ∷ ss) h f = absurd h
  parts_levels (t ∷ ts) [] h f = absurd h
  parts_levels (t ∷ ts) (s ∷ ss) h f = ((h.0).kept.levels f.0, parts_levels ts ss h.1 f.1)

  parts_operators : (ts ss : List TermD) → PartsSimplified ts ss → (o : Bool) → AdmitsParts o (terms_of ts) → AdmitsParts o (terms_of ss)
  parts_operators [] [] h o f = f
  parts_operators [] (s ∷ ss) h o f = absurd h
  parts_operators (t ∷ ts) [] h o f = absurd h
  parts_operators (t ∷ ts) (s ∷ ss) h o f =
      ((h.0).kept.operators o f.0, parts_operators ts ss h.1 o f.1)

  parts_count : (ts ss : List TermD) → PartsSimplified ts ss → count_of_parts (terms_of ts) ≡ count_of_parts (terms_of ss)
  parts_count [] [] h = refl
  parts_count [] (s ∷ ss) h = absurd h
  parts_count (t ∷ ts) [] h = absurd h
  parts_count (t ∷ ts) (s ∷ ss) h = ap suc (parts_count ts ss h.1)

  parts_widths : (ts ss : List TermD) → PartsSimplified ts ss → PartsHaveBoundedWidths (terms_of ts) → PartsHaveBoundedWidths (terms_of ss)
  parts_widths [] [] h f = f
  parts_widths [] (s ∷ ss) h f = absurd h
  parts_widths (t ∷ ts) [] h f = absurd h
  parts_widths (t ∷ ts) (s ∷ ss) h f = ((h.0).kept.widths f.0, parts_widths ts ss h.1 f.1)

  parts_depth : (ts ss : List TermD) → PartsSimplified ts ss → depth_of_parts (terms_of ss) ≤ depth_of_parts (terms_of ts)
  parts_depth [] [] h = omega arith
  parts_depth [] (s ∷ ss) h = absurd h
  parts_depth (t ∷ ts) [] h = absurd h
  parts_depth (t ∷ ts) (s ∷ ss) h = omega (arith, (h.0).kept.depth, parts_depth ts ss h.1)

  pub tuple_kept : (ts ss : List TermD) → PartsSimplified ts ss → IsSimplification u n (tup (terms_of ts)) (tup (terms_of ss))
  tuple_kept ts ss h = record {
    value = same_parts ts ss h;
    levels = parts_levels ts ss h;
    operators = parts_operators ts ss h;
    widths = λ f. (subst (λ k. 2 ≤ k) (parts_count ts ss h) f.0, subst (λ k. k ≤ 8) (parts_count ts ss h) f.1, parts_widths ts ss h f.2);
    depth = omega (arith, parts_depth ts ss h);
  }

  pub parts_normal : (ts ss : List TermD) → PartsSimplified ts ss → PartsAreNormal (terms_of ss) u n
  parts_normal [] [] h = tt
  parts_normal [] (s ∷ ss) h = absurd h
  parts_normal (t ∷ ts) [] h = absurd h
  parts_normal (t ∷ ts) (s ∷ ss) h = ((h.0).normal, parts_normal ts ss h.1)

  pub parts_guards : (ts ss : List TermD) → PartsSimplified ts ss → PartsHaveNormalGuards (terms_of ss)
  parts_guards [] [] h = tt
  parts_guards [] (s ∷ ss) h = absurd h
  parts_guards (t ∷ ts) [] h = absurd h
  parts_guards (t ∷ ts) (s ∷ ss) h = ((h.0).guards, parts_guards ts ss h.1)

  pub parts_plain : (ts ss : List TermD) → PartsSimplified ts ss → IsTrue brief → PartsHavePlainGuards (terms_of ss) u n
  parts_plain [] [] h read = tt
  parts_plain [] (s ∷ ss) h read = absurd h
  parts_plain (t ∷ ts) [] h read = absurd h
  parts_plain (t ∷ ts) (s ∷ ss) h read = ((h.0).plain read, parts_plain ts ss h.1 read)
