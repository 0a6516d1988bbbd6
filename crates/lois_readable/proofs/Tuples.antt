-- Tuples part by part, of which nothing is asked but that each stands for its part.
use Rattle.std.proofs.Common.{◌≡◌, ℕ, suc, ◌≤◌, List, [], ◌∷◌, ◌++◌, length, refl, ap, subst, arith}
use Rattle.std.specs.Prelude.{Bool}
use Rattle.std.specs.Bool.{IsTrue}
use Rattle.lois_base.specs.Atom.{Atom}
use Rattle.lois_base.specs.Data.{TermD, tup, terms_of, depth_of_parts}
use Rattle.lois_base.specs.Fits.{PartsFit}
use Rattle.lois_base.specs.Truth.{holds}
use Rattle.lois_base.specs.Validity.{AdmitsParts, count_of_parts, PartsHaveBoundedWidths}
use Rattle.lois_base.specs.Values.{SamePartsAt}
use Rattle.lois_base.specs.declared.guards.Lit.{Lit}
use Rattle.lois_simplify.specs.Simplification.{IsSimplification}

module _ (u : List (List Lit)) (n : ℕ) where
  abbrev pub ArePartsKept : List TermD → List TermD → Type 0
  ArePartsKept [] [] = Unit {0}
  ArePartsKept (t ∷ ts) (s ∷ ss) = IsSimplification u n t s × ArePartsKept ts ss
  ArePartsKept _ _ = ⊥

  pub part_kept : (ts ss : List TermD) (t s : TermD) → ArePartsKept ts ss → IsSimplification u n t s → ArePartsKept (ts ++ t ∷ []) (ss ++ s ∷ [])
  part_kept [] [] t s h p = (p, tt)
  part_kept [] (r ∷ ss) t s h p = absurd h
  part_kept (q ∷ ts) [] t s h p = absurd h
  part_kept (q ∷ ts) (r ∷ ss) t s h p = (h.0, part_kept ts ss t s h.1 p)

  -- all that is asked of the tuple is asked of its parts
  record IsKeptInParts (ts ss : List TermD) : Type 0 where
    value : (c : List Atom) → length c ≡ n → IsTrue (holds c u) → SamePartsAt (terms_of ts) c (terms_of ss) c
    levels : PartsFit n (terms_of ts) → PartsFit n (terms_of ss)
    operators : (o : Bool) → AdmitsParts o (terms_of ts) → AdmitsParts o (terms_of ss)
    count : count_of_parts (terms_of ts) ≡ count_of_parts (terms_of ss)
    widths : PartsHaveBoundedWidths (terms_of ts) → PartsHaveBoundedWidths (terms_of ss)
    depth : depth_of_parts (terms_of ss) ≤ depth_of_parts (terms_of ts)

  kept_in_parts : (ts ss : List TermD) → ArePartsKept ts ss → IsKeptInParts ts ss
  kept_in_parts [] [] h = record {
    value = λ c l o. tt;
    levels = λ f. f;
    operators = λ o f. f;
    count = refl;
    widths = λ f. f;
    depth = omega arith;
  }
  kept_in_parts [] (s ∷ ss) h = absurd h
  kept_in_parts (t ∷ ts) [] h = absurd h
  kept_in_parts (t ∷ ts) (s ∷ ss) h = let rest = kept_in_parts ts ss h.1 in record {
    value = λ c l o. ((h.0).value c l o, rest.value c l o);
    levels = λ f. ((h.0).levels f.0, rest.levels f.1);
    operators = λ o f. ((h.0).operators o f.0, rest.operators o f.1);
    count = ap suc rest.count;
    widths = λ f. ((h.0).widths f.0, rest.widths f.1);
    depth = omega (arith, (h.0).depth, rest.depth);
  }

  pub tuple_of_kept : (ts ss : List TermD) → ArePartsKept ts ss → IsSimplification u n (tup (terms_of ts)) (tup (terms_of ss))
  tuple_of_kept ts ss h = let parts = kept_in_parts ts ss h in record {
    value = parts.value;
    levels = parts.levels;
    operators = parts.operators;
    widths = λ f. (subst (λ k. 2 ≤ k) parts.count f.0, subst (λ k. k ≤ 8) parts.count f.1, parts.widths f.2);
    depth = omega (arith, parts.depth);
  }
