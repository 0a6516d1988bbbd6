-- Terms without `<=` whose levels are renamed.
use Rattle.std.proofs.Common.{ℕ, List}
use Rattle.std.proofs.lemmas.List.Elements.{All-map, All-weaker}
use Rattle.std.specs.List.{All}
use Rattle.lois_base.specs.Data.{TermD, var, tag, tup, coll, TermsD, no_terms, term, CompD, comp, CompsD, no_comps, more}
use Rattle.lois_base.specs.Rename.{rename, rename_parts, rename_comp, rename_items, rename_lit, rename_cube, rename_constraint}
use Rattle.lois_base.specs.Validity.{IsStrictLit, IsStrictCube, IsStrictConstraint, IsStrictTerm, PartsAreStrict, CompIsStrict, ItemsAreStrict}
use Rattle.lois_base.specs.declared.guards.Lit.{Lit}

module _ (name : ℕ → ℕ) where
  cube_strict_renamed : (k : List Lit) → IsStrictCube k → IsStrictCube (rename_cube name k)
  cube_strict_renamed k h = All-map IsStrictLit (rename_lit name) k h

  constraint_strict_renamed : (g : List (List Lit)) → IsStrictConstraint g → IsStrictConstraint (rename_constraint name g)
  constraint_strict_renamed g h =
      All-map IsStrictCube (rename_cube name) g (All-weaker IsStrictCube (λ k. IsStrictCube (rename_cube name k)) cube_strict_renamed g h)

  mutual
    pub strict_renamed : (t : TermD) → IsStrictTerm t → IsStrictTerm (rename name t)
    strict_renamed (var i) h = h
    strict_renamed (tag n) h = h
    strict_renamed (tup ts) h = parts_strict_renamed ts h
    strict_renamed (coll cs) h = items_strict_renamed cs h

    parts_strict_renamed : (ts : TermsD) → PartsAreStrict ts → PartsAreStrict (rename_parts name ts)
    parts_strict_renamed no_terms h = h
    parts_strict_renamed (term t ts) h = (strict_renamed t h.0, parts_strict_renamed ts h.1)

    comp_strict_renamed : (k : CompD) → CompIsStrict k → CompIsStrict (rename_comp name k)
    comp_strict_renamed (comp m g t) h = (constraint_strict_renamed g h.0, strict_renamed t h.1)

    items_strict_renamed : (cs : CompsD) → ItemsAreStrict cs → ItemsAreStrict (rename_items name cs)
    items_strict_renamed no_comps h = h
    items_strict_renamed (more k cs) h = (comp_strict_renamed k h.0, items_strict_renamed cs h.1)
