-- What a term keeps where its levels are renamed: its depth, its operators and its widths, and that it fits.
use Rattle.std.proofs.Common.{◌≡◌, ℕ, suc, ◌+◌, ◌-◌, ◌<◌, ◌≤◌, ◌^◌, ◌⊎◌, inl, inr, Bool, List, refl, ap, ◌∙◌, subst, sym, arith}
use Rattle.std.proofs.lemmas.Bool.{cases_lt}
use Rattle.std.proofs.lemmas.List.Elements.{All-map, All-weaker}
use Rattle.std.specs.List.{All}
use Rattle.lois_base.specs.Data.{TermD, var, tag, tup, coll, TermsD, no_terms, term, CompD, comp, CompsD, no_comps, more, depth, depth_of_parts, depth_of_comp, depth_of_items}
use Rattle.lois_base.specs.Fits.{LitFits, CubeFits, ConstraintFits, Fits, PartsFit, CompFits, ItemsFit}
use Rattle.lois_base.specs.Normal.{GuardUses, Occurs, OccursInPart, OccursInComp, OccursInItem}
use Rattle.lois_base.specs.Rename.{rename, rename_parts, rename_comp, rename_items, rename_lit, rename_cube, rename_constraint}
use Rattle.lois_base.specs.Validity.{AdmitsLit, AdmitsCube, AdmitsConstraint, AdmitsTerm, AdmitsParts, AdmitsComp, AdmitsItems, count_of_parts, HasBoundedWidths, PartsHaveBoundedWidths, CompHasBoundedWidths, ItemsHaveBoundedWidths}
use Rattle.lois_base.specs.declared.guards.Lit.{Lit}
use Rattle.lois_base.proofs.Validity.{used_at, level_fits}

module _ (name : ℕ → ℕ) where
  mutual
    pub depth_renamed : (t : TermD) → depth (rename name t) ≡ depth t
    depth_renamed (var i) = refl
    depth_renamed (tag n) = refl
    depth_renamed (tup ts) = ap suc (depth_parts_renamed ts)
    depth_renamed (coll cs) = ap suc (depth_items_renamed cs)

    depth_parts_renamed : (ts : TermsD) → depth_of_parts (rename_parts name ts) ≡ depth_of_parts ts
    depth_parts_renamed no_terms = refl
    depth_parts_renamed (term t ts) = rw (depth_renamed t, depth_parts_renamed ts)

    depth_comp_renamed : (k : CompD) → depth_of_comp (rename_comp name k) ≡ depth_of_comp k
    depth_comp_renamed (comp m g t) = depth_renamed t

    depth_items_renamed : (ks : CompsD) → depth_of_items (rename_items name ks) ≡ depth_of_items ks
    depth_items_renamed no_comps = refl
    depth_items_renamed (more k ks) = rw (depth_comp_renamed k, depth_items_renamed ks)

  count_renamed : (ts : TermsD) → count_of_parts (rename_parts name ts) ≡ count_of_parts ts
  count_renamed no_terms = refl
  count_renamed (term t ts) = ap suc (count_renamed ts)

  mutual
    pub widths_renamed : (t : TermD) → HasBoundedWidths t → HasBoundedWidths (rename name t)
    widths_renamed (var i) h = h
    widths_renamed (tag n) h = h
    widths_renamed (tup ts) h =
        (subst (λ n. 2 ≤ n) (sym (count_renamed ts)) h.0, subst (λ n. n ≤ 8) (sym (count_renamed ts)) h.1, parts_widths_renamed ts h.2)
    widths_renamed (coll cs) h = items_widths_renamed cs h

    parts_widths_renamed : (ts : TermsD) → PartsHaveBoundedWidths ts → PartsHaveBoundedWidths (rename_parts name ts)
    parts_widths_renamed no_terms h = h
    parts_widths_renamed (term t ts) h = (widths_renamed t h.0, parts_widths_renamed ts h.1)

    comp_widths_renamed : (k : CompD) → CompHasBoundedWidths k → CompHasBoundedWidths (rename_comp name k)
    comp_widths_renamed (comp m g t) h = widths_renamed t h

    items_widths_renamed : (ks : CompsD) → ItemsHaveBoundedWidths ks → ItemsHaveBoundedWidths (rename_items name ks)
    items_widths_renamed no_comps h = h
    items_widths_renamed (more k ks) h = (comp_widths_renamed k h.0, items_widths_renamed ks h.1)

  pub constraint_admits_renamed : (ordered : Bool) (g : List (List Lit)) → AdmitsConstraint ordered g → AdmitsConstraint ordered (rename_constraint name g)
  constraint_admits_renamed ordered g h =
      All-map (AdmitsCube ordered) (rename_cube name) g (All-weaker (AdmitsCube ordered) (λ k. AdmitsCube ordered (rename_cube name k)) (λ k c. All-map (AdmitsLit ordered) (rename_lit name) k c) g h)

  mutual
    pub admits_renamed : (ordered : Bool) (t : TermD) → AdmitsTerm ordered t → AdmitsTerm ordered (rename name t)
    admits_renamed ordered (var i) h = h
    admits_renamed ordered (tag n) h = h
    admits_renamed ordered (tup ts) h = parts_admits_renamed ordered ts h
    admits_renamed ordered (coll cs) h = items_admits_renamed ordered cs h

    parts_admits_renamed : (ordered : Bool) (ts : TermsD) → AdmitsParts ordered ts → AdmitsParts ordered (rename_parts name ts)
    parts_admits_renamed ordered no_terms h = h
    parts_admits_renamed ordered (term t ts) h = (admits_renamed ordered t h.0, parts_admits_renamed ordered ts h.1)

    comp_admits_renamed : (ordered : Bool) (k : CompD) → AdmitsComp ordered k → AdmitsComp ordered (rename_comp name k)
    comp_admits_renamed ordered (comp m g t) h = (constraint_admits_renamed ordered g h.0, admits_renamed ordered t h.1)

    items_admits_renamed : (ordered : Bool) (ks : CompsD) → AdmitsItems ordered ks → AdmitsItems ordered (rename_items name ks)
    items_admits_renamed ordered no_comps h = h
    items_admits_renamed ordered (more k ks) h = (comp_admits_renamed ordered k h.0, items_admits_renamed ordered ks h.1)

-- the levels of which P holds and that are below n get names below k, and those from n on follow k
pub record NamesFit (name : ℕ → ℕ) (P : ℕ → Type 0) (n k : ℕ) : Type 0 where
  pub within : (i : ℕ) → P i → i < n → name i < k
  pub after : (j : ℕ) → name (n + j) ≡ k + j

module _ (name : ℕ → ℕ) where
  names_less : (P Q : ℕ → Type 0) (n k : ℕ) → ((i : ℕ) → Q i → P i) → NamesFit name P n k → NamesFit name Q n k
  names_less P Q n k w h = record { within = λ i q l. h.within i (w i q) l; after = h.after }

  names_longer : (P : ℕ → Type 0) (n k m : ℕ) → NamesFit name P n k → NamesFit name P (n + m) (k + m)
  names_longer P n k m h = record {
    within = λ i p l. go i p l (cases_lt i n);
    after = λ j. let e : (n + m) + j ≡ n + (m + j) = omega arith in ap name e ∙ omega (arith, h.after (m + j));
  }
    where
      go : (i : ℕ) → P i → i < n + m → i < n ⊎ n ≤ i → name i < k + m
      go i p l (inl q) = omega (arith, h.within i p q)
      go i p l (inr q) =
          let e : n + (i - n) ≡ i = omega arith in
          let f : name i ≡ k + (i - n) = ap name (sym e) ∙ h.after (i - n) in
          omega arith

  pub constraint_fits_renamed : (n k : ℕ) (g : List (List Lit)) → NamesFit name (λ b. GuardUses b g) n k → ConstraintFits n g → ConstraintFits k (rename_constraint name g)
  constraint_fits_renamed n k g h fits =
      let each : All (All (λ l. (name l.left < k) × (name l.right < k))) g = used_at (λ i. name i < k) g (λ i u. h.within i u (level_fits n g fits i u)) in
      All-map (CubeFits k) (rename_cube name) g (All-weaker (All (λ l. (name l.left < k) × (name l.right < k))) (λ c. CubeFits k (rename_cube name c)) (λ c d. All-map (LitFits k) (rename_lit name) c d) g each)

  -- where no more levels are in scope than before
  mutual
    pub fits_renamed : (t : TermD) (n k : ℕ) → k ≤ n → NamesFit name (λ b. Occurs b t) n k → Fits n t → Fits k (rename name t)
    fits_renamed (var i) n k s h f = h.within i refl f
    fits_renamed (tag x) n k s h f = f
    fits_renamed (tup ts) n k s h f = parts_fit_renamed ts n k s h f
    fits_renamed (coll cs) n k s h f = items_fit_renamed cs n k s h f

    parts_fit_renamed : (ts : TermsD) (n k : ℕ) → k ≤ n → NamesFit name (λ b. OccursInPart b ts) n k → PartsFit n ts → PartsFit k (rename_parts name ts)
    parts_fit_renamed no_terms n k s h f = f
    parts_fit_renamed (term t ts) n k s h f = (
      fits_renamed t n k s (names_less (λ b. OccursInPart b (term t ts)) (λ b. Occurs b t) n k (λ b o. inl o) h) f.0,
      parts_fit_renamed ts n k s (names_less (λ b. OccursInPart b (term t ts)) (λ b. OccursInPart b ts) n k (λ b o. inr o) h) f.1,
    )

    comp_fits_renamed : (c : CompD) (n k : ℕ) → k ≤ n → NamesFit name (λ b. OccursInComp b c) n k → CompFits n c → CompFits k (rename_comp name c)
    comp_fits_renamed (comp m g t) n k s h f = (
      (let l : n + m < 2 ^ 64 = f.0 in omega arith),
      constraint_fits_renamed (n + m) (k + m) g (names_longer (λ b. GuardUses b g) n k m (names_less (λ b. OccursInComp b (comp m g t)) (λ b. GuardUses b g) n k (λ b o. inl o) h)) f.1,
      fits_renamed t (n + m) (k + m) (omega arith) (names_longer (λ b. Occurs b t) n k m (names_less (λ b. OccursInComp b (comp m g t)) (λ b. Occurs b t) n k (λ b o. inr o) h)) f.2,
    )

    items_fit_renamed : (cs : CompsD) (n k : ℕ) → k ≤ n → NamesFit name (λ b. OccursInItem b cs) n k → ItemsFit n cs → ItemsFit k (rename_items name cs)
    items_fit_renamed no_comps n k s h f = f
    items_fit_renamed (more c cs) n k s h f = (
      comp_fits_renamed c n k s (names_less (λ b. OccursInItem b (more c cs)) (λ b. OccursInComp b c) n k (λ b o. inl o) h) f.0,
      items_fit_renamed cs n k s (names_less (λ b. OccursInItem b (more c cs)) (λ b. OccursInItem b cs) n k (λ b o. inr o) h) f.1,
    )
