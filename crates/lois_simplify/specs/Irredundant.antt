-- Comprehensions of which each part is needed.
use Rattle.lois_base.specs.Data.{TermD, var, tag, tup, coll, TermsD, no_terms, term, CompD, comp, CompsD, no_comps, more}
use Rattle.lois_constraint.specs.Normalised.{IsNormalised}

-- each guard is normalised, those inside too
abbrev mutual
  pub HasNormalGuards : TermD → Type 0
  HasNormalGuards (var i) = Unit {0}
  HasNormalGuards (tag t) = Unit {0}
  HasNormalGuards (tup ts) = PartsHaveNormalGuards ts
  HasNormalGuards (coll cs) = ItemsHaveNormalGuards cs

  pub PartsHaveNormalGuards : TermsD → Type 0
  PartsHaveNormalGuards no_terms = Unit {0}
  PartsHaveNormalGuards (term t ts) = HasNormalGuards t × PartsHaveNormalGuards ts

  pub CompHasNormalGuards : CompD → Type 0
  CompHasNormalGuards (comp m g t) = IsNormalised g × HasNormalGuards t

  pub ItemsHaveNormalGuards : CompsD → Type 0
  ItemsHaveNormalGuards no_comps = Unit {0}
  ItemsHaveNormalGuards (more c cs) = CompHasNormalGuards c × ItemsHaveNormalGuards cs
