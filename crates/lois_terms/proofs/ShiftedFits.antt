-- A shifted term fits where the term does before and after.
use Rattle.std.proofs.Common.{◌≡◌, ℕ, ◌+◌, ◌<◌, ◌≤◌, List, refl, arith}
use Rattle.std.proofs.lemmas.Bool.Decides.{nat_tests}
use Rattle.lois_base.specs.Data.{TermD, var, tag, tup, coll, TermsD, no_terms, term, CompD, comp, CompsD, no_comps, more}
use Rattle.lois_base.specs.Fits.{ConstraintFits, Fits, PartsFit, CompFits, ItemsFit}
use Rattle.lois_base.specs.Normal.{GuardUses}
use Rattle.lois_base.specs.Shift.{shift, shift_level, shift_parts, shift_comp, shift_items, shift_constraint}
use Rattle.lois_base.specs.declared.guards.Lit.{Lit}
use Rattle.lois_base.proofs.RenamedForm.{NamesFit, constraint_fits_renamed}

module _ (from by : ℕ) where
  low_level : (i k n : ℕ) → i < n → n + by ≡ k → shift_level from by i < k
  low_level i k n l e = grind (arith, nat_tests)

  high_level : (i : ℕ) → from ≤ i → shift_level from by i ≡ i + by
  high_level i l = grind (arith, nat_tests)

  names_fit : (P : ℕ → Type 0) (n k : ℕ) → from ≤ n → n + by ≡ k → NamesFit (shift_level from by) P n k
  names_fit P n k s e = record {
    within = λ i p l. low_level i k n l e;
    after = λ j. omega (arith, high_level (n + j) (omega arith));
  }

  pub constraint_fits : (g : List (List Lit)) (n k : ℕ) → from ≤ n → n + by ≡ k → ConstraintFits n g → ConstraintFits k (shift_constraint from by g)
  constraint_fits g n k s e f =
      constraint_fits_renamed (shift_level from by) n k g (names_fit (λ b. GuardUses b g) n k s e) f

  mutual
    fits_at : (t : TermD) (n k : ℕ) → from ≤ n → n + by ≡ k → Fits n t → Fits k t → Fits k (shift from by t)
    fits_at (var i) n k s e f h = low_level i k n f e
    fits_at (tag x) n k s e f h = f
    fits_at (tup ts) n k s e f h = parts_fit_at ts n k s e f h
    fits_at (coll cs) n k s e f h = items_fit_at cs n k s e f h

    parts_fit_at : (ts : TermsD) (n k : ℕ) → from ≤ n → n + by ≡ k → PartsFit n ts → PartsFit k ts → PartsFit k (shift_parts from by ts)
    parts_fit_at no_terms n k s e f h = f
    parts_fit_at (term t ts) n k s e f h = (fits_at t n k s e f.0 h.0, parts_fit_at ts n k s e f.1 h.1)

    comp_fits_at : (c : CompD) (n k : ℕ) → from ≤ n → n + by ≡ k → CompFits n c → CompFits k c → CompFits k (shift_comp from by c)
    comp_fits_at (comp m g t) n k s e f h =
        let d : (n + m) + by ≡ k + m = omega arith in
        let l : from ≤ n + m = omega arith in
        (h.0, constraint_fits g (n + m) (k + m) l d f.1, fits_at t (n + m) (k + m) l d f.2 h.2)

    items_fit_at : (cs : CompsD) (n k : ℕ) → from ≤ n → n + by ≡ k → ItemsFit n cs → ItemsFit k cs → ItemsFit k (shift_items from by cs)
    items_fit_at no_comps n k s e f h = f
    items_fit_at (more c cs) n k s e f h = (comp_fits_at c n k s e f.0 h.0, items_fit_at cs n k s e f.1 h.1)

  pub shifted_fits : (t : TermD) (n : ℕ) → from ≤ n → Fits n t → Fits (n + by) t → Fits (n + by) (shift from by t)
  shifted_fits t n s f h = fits_at t n (n + by) s refl f h

  pub item_fits : (t : TermD) (n k : ℕ) → from ≤ n → n + by ≡ k → Fits n t → Fits k t → Fits k (shift from by t)
  item_fits t n k s e f h = fits_at t n k s e f h
