-- The highest level that a term uses, where the term fits.
use Rattle.std.proofs.Common.{◌≡◌, ℕ, ◌+◌, ◌<◌, ◌≤◌, ◌^◌, List, [], ◌∷◌, refl, arith}
use Rattle.std.proofs.lemmas.List.Elements.{All-head, All-tail}
use Rattle.lois_base.specs.Data.{TermD, var, tag, tup, coll, TermsD, no_terms, term, CompD, comp, CompsD, no_comps, more}
use Rattle.lois_base.specs.Fits.{LitFits, CubeFits, ConstraintFits, Fits, PartsFit, CompFits, ItemsFit}
use Rattle.lois_base.specs.Shift.{top, top_of_parts, top_of_comp, top_of_items, top_of_lits, top_of_cubes}
use Rattle.lois_base.specs.declared.guards.Lit.{Lit}
use Rattle.lois_terms.specs.Shifted.{CanShift}

top_of_lits_fit : (n : ℕ) (k : List Lit) → CubeFits n k → top_of_lits k ≤ n
top_of_lits_fit n [] h = omega arith
top_of_lits_fit n (l ∷ k) h =
    let f : LitFits n l = All-head (LitFits n) l k h in
    omega (arith, f.0, f.1, top_of_lits_fit n k (All-tail (LitFits n) l k h))

pub top_of_cubes_fit : (n : ℕ) (g : List (List Lit)) → ConstraintFits n g → top_of_cubes g ≤ n
top_of_cubes_fit n [] h = omega arith
top_of_cubes_fit n (k ∷ g) h =
    omega (arith, top_of_lits_fit n k (All-head (CubeFits n) k g h), top_of_cubes_fit n g (All-tail (CubeFits n) k g h))

-- the levels are raised by `by`
module _ (by : ℕ) where
  mutual
    top_raised : (t : TermD) (n k : ℕ) → n + by ≡ k → k < 2 ^ 64 → Fits n t → Fits k t → top t + by ≤ 2 ^ 64
    top_raised (var i) n k e l f h = omega (arith, f)
    top_raised (tag name) n k e l f h = omega arith
    top_raised (tup ts) n k e l f h = top_of_parts_raised ts n k e l f h
    top_raised (coll cs) n k e l f h = top_of_items_raised cs n k e l f h

    top_of_parts_raised : (ts : TermsD) (n k : ℕ) → n + by ≡ k → k < 2 ^ 64 → PartsFit n ts → PartsFit k ts → top_of_parts ts + by ≤ 2 ^ 64
    top_of_parts_raised no_terms n k e l f h = omega arith
    top_of_parts_raised (term t ts) n k e l f h =
        omega (arith, top_raised t n k e l f.0 h.0, top_of_parts_raised ts n k e l f.1 h.1)

    pub top_of_comp_raised : (c : CompD) (n k : ℕ) → n + by ≡ k → CompFits n c → CompFits k c → top_of_comp c + by ≤ 2 ^ 64
    top_of_comp_raised (comp m g t) n k e f h =
        let d : (n + m) + by ≡ k + m = omega arith in
        let l : k + m < 2 ^ 64 = h.0 in
        omega (arith, l, top_of_cubes_fit (n + m) g f.1, top_raised t (n + m) (k + m) d l f.2 h.2)

    top_of_items_raised : (cs : CompsD) (n k : ℕ) → n + by ≡ k → k < 2 ^ 64 → ItemsFit n cs → ItemsFit k cs → top_of_items cs + by ≤ 2 ^ 64
    top_of_items_raised no_comps n k e l f h = omega arith
    top_of_items_raised (more c cs) n k e l f h =
        omega (arith, top_of_comp_raised c n k e f.0 h.0, top_of_items_raised cs n k e l f.1 h.1)

pub can_shift-top : (from by : ℕ) (t : TermD) → CanShift from by t → top t + by ≤ 2 ^ 64
can_shift-top from by t (n, low, high, f, h) = top_raised by t n (n + by) refl high f h
