-- A term in which no comprehension has binders is the same among more levels.
use Rattle.std.proofs.Common.{◌≡◌, ℕ, ◌+◌, ◌<◌, ◌≤◌, ◌^◌, List, [], ◌∷◌, refl, ap, subst, arith}
use Rattle.std.proofs.lemmas.Bool.Decides.{nat_tests}
use Rattle.std.proofs.lemmas.List.Elements.{All-head, All-tail, All-weaker}
use Rattle.lois_base.specs.Data.{TermD, var, tag, tup, coll, TermsD, no_terms, term, CompD, comp, CompsD, no_comps, more}
use Rattle.lois_base.specs.Fits.{LitFits, CubeFits, ConstraintFits, Fits, PartsFit, CompFits, ItemsFit}
use Rattle.lois_base.specs.Shift.{shift_level, shift_lit, shift_cube, shift_constraint, shift, shift_parts, shift_comp, shift_items}
use Rattle.lois_base.specs.declared.guards.Lit.{Lit}
use Rattle.lois_terms.specs.Binding.{BindsNothing, PartsBindNothing, CompBindsNothing, ItemsBindNothing}

-- nothing below n is moved
module _ (n by : ℕ) where
  low_level : (i : ℕ) → i < n → shift_level n by i ≡ i
  low_level i l = grind (arith, nat_tests)

  low_lit : (l : Lit) → LitFits n l → shift_lit n by l ≡ l
  low_lit l f = rw (low_level l.left f.0, low_level l.right f.1)

  low_cube : (k : List Lit) → CubeFits n k → shift_cube n by k ≡ k
  low_cube [] f = refl
  low_cube (l ∷ k) f = rw (low_lit l (All-head (LitFits n) l k f), low_cube k (All-tail (LitFits n) l k f))

  low_guard : (g : List (List Lit)) → ConstraintFits n g → shift_constraint n by g ≡ g
  low_guard [] f = refl
  low_guard (k ∷ g) f = rw (low_cube k (All-head (CubeFits n) k g f), low_guard g (All-tail (CubeFits n) k g f))

  mutual
    pub unmoved : (t : TermD) → BindsNothing t → Fits n t → shift n by t ≡ t
    unmoved (var i) b f = ap var (low_level i f)
    unmoved (tag x) b f = refl
    unmoved (tup ts) b f = ap tup (parts_unmoved ts b f)
    unmoved (coll ks) b f = ap coll (items_unmoved ks b f)

    parts_unmoved : (ts : TermsD) → PartsBindNothing ts → PartsFit n ts → shift_parts n by ts ≡ ts
    parts_unmoved no_terms b f = refl
    parts_unmoved (term t ts) b f = rw (unmoved t b.0 f.0, parts_unmoved ts b.1 f.1)

    comp_unmoved : (k : CompD) → CompBindsNothing k → CompFits n k → shift_comp n by k ≡ k
    comp_unmoved (comp m g t) b f =
        let inner : n + m ≡ n = omega (arith, b.0) in
        rw (low_guard g (subst (λ z. ConstraintFits z g) inner f.1), unmoved t b.1 (subst (λ z. Fits z t) inner f.2))

    items_unmoved : (ks : CompsD) → ItemsBindNothing ks → ItemsFit n ks → shift_items n by ks ≡ ks
    items_unmoved no_comps b f = refl
    items_unmoved (more k ks) b f = rw (comp_unmoved k b.0 f.0, items_unmoved ks b.1 f.1)

module _ (n k : ℕ) (below : n ≤ k) (small : k < 2 ^ 64) where
  lit_later : (l : Lit) → LitFits n l → LitFits k l
  lit_later l f = (omega (arith, f.0, below), omega (arith, f.1, below))

  guard_later : (g : List (List Lit)) → ConstraintFits n g → ConstraintFits k g
  guard_later g f = All-weaker (CubeFits n) (CubeFits k) (λ c. All-weaker (LitFits n) (LitFits k) lit_later c) g f

  mutual
    pub fits_later : (t : TermD) → BindsNothing t → Fits n t → Fits k t
    fits_later (var i) b f = omega (arith, f, below)
    fits_later (tag x) b f = tt
    fits_later (tup ts) b f = parts_fit_later ts b f
    fits_later (coll cs) b f = items_fit_later cs b f

    parts_fit_later : (ts : TermsD) → PartsBindNothing ts → PartsFit n ts → PartsFit k ts
    parts_fit_later no_terms b f = tt
    parts_fit_later (term t ts) b f = (fits_later t b.0 f.0, parts_fit_later ts b.1 f.1)

    comp_fits_later : (c : CompD) → CompBindsNothing c → CompFits n c → CompFits k c
    comp_fits_later (comp m g t) b f =
        let inner : n + m ≡ n = omega (arith, b.0) in
        let outer : k ≡ k + m = omega (arith, b.0) in (
          omega (arith, b.0, small),
          subst (λ z. ConstraintFits z g) outer (guard_later g (subst (λ z. ConstraintFits z g) inner f.1)),
          subst (λ z. Fits z t) outer (fits_later t b.1 (subst (λ z. Fits z t) inner f.2)),
        )

    items_fit_later : (cs : CompsD) → ItemsBindNothing cs → ItemsFit n cs → ItemsFit k cs
    items_fit_later no_comps b f = tt
    items_fit_later (more c cs) b f = (comp_fits_later c b.0 f.0, items_fit_later cs b.1 f.1)
