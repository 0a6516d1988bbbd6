-- That levels are below a bound has at most one proof, so types may keep it.
use Rattle.std.specs.Prelude.{ℕ, ◌+◌, List}
use Rattle.std.specs.Coded.{×_prop, Unit-prop, le_prop, Π_prop}
use Rattle.std.specs.List.{All}
use Rattle.lois_base.specs.Data.{TermD, var, tag, tup, coll, TermsD, no_terms, term, CompD, comp, CompsD, no_comps, more}
use Rattle.lois_base.specs.Fits.{LitFits, CubeFits, ConstraintFits, Fits, PartsFit, CompFits, ItemsFit}
use Rattle.lois_base.specs.declared.guards.Lit.{Lit}

pub all_prop : {X : Type 0} (P : X → Type 0) → ((x : X) → IsProp (P x)) → (xs : List X) → IsProp (All P xs)
all_prop P h xs = Π_prop (λ k. Π_prop (λ d. Π_prop (λ l. h _)))

pub constraint_prop : (n : ℕ) (g : List (List Lit)) → IsProp (ConstraintFits n g)
constraint_prop n g = all_prop (CubeFits n) (λ k. all_prop (LitFits n) (λ l. ×_prop le_prop le_prop) k) g

mutual
  pub fits_prop : (n : ℕ) (t : TermD) → IsProp (Fits n t)
  fits_prop n (var i) = le_prop
  fits_prop n (tag t) = Unit-prop
  fits_prop n (tup ts) = parts_prop n ts
  fits_prop n (coll cs) = items_prop n cs

  pub parts_prop : (n : ℕ) (ts : TermsD) → IsProp (PartsFit n ts)
  parts_prop n no_terms = Unit-prop
  parts_prop n (term t ts) = ×_prop (fits_prop n t) (parts_prop n ts)

  pub comp_prop : (n : ℕ) (c : CompD) → IsProp (CompFits n c)
  comp_prop n (comp m g t) = hlevel (le_prop, constraint_prop (n + m) g, fits_prop (n + m) t)

  pub items_prop : (n : ℕ) (cs : CompsD) → IsProp (ItemsFit n cs)
  items_prop n no_comps = Unit-prop
  items_prop n (more c cs) = ×_prop (comp_prop n c) (items_prop n cs)
