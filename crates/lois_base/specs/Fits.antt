-- Which levels a term may use: each is below the size n, and below n + m inside of a comprehension of m binders.
use Rattle.std.specs.Prelude.{ℕ, ◌+◌, ◌<◌, ◌^◌, List}
use Rattle.std.specs.List.{All}
use Rattle.lois_base.specs.declared.guards.Lit.{Lit}
use Rattle.lois_base.specs.Data.{TermD, var, tag, tup, coll, TermsD, no_terms, term, CompD, comp, CompsD, no_comps, more}

abbrev pub LitFits : ℕ → Lit → Type 0
LitFits n l = (l.left < n) × (l.right < n)

abbrev pub CubeFits : ℕ → List Lit → Type 0
CubeFits n = All (LitFits n)

abbrev pub ConstraintFits : ℕ → List (List Lit) → Type 0
ConstraintFits n = All (CubeFits n)

abbrev mutual
  pub Fits : ℕ → TermD → Type 0
  Fits n (var i) = i < n
  Fits n (tag t) = Unit {0}
  Fits n (tup ts) = PartsFit n ts
  Fits n (coll cs) = ItemsFit n cs

  pub PartsFit : ℕ → TermsD → Type 0
  PartsFit n no_terms = Unit {0}
  PartsFit n (term t ts) = Fits n t × PartsFit n ts

  pub CompFits : ℕ → CompD → Type 0
  CompFits n (comp m g t) = (n + m < 2 ^ 64) × ConstraintFits (n + m) g × Fits (n + m) t

  pub ItemsFit : ℕ → CompsD → Type 0
  ItemsFit n no_comps = Unit {0}
  ItemsFit n (more c cs) = CompFits n c × ItemsFit n cs
