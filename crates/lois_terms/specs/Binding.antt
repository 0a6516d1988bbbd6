-- Terms in which no comprehension has binders.
use Rattle.std.specs.Prelude.{◌≡◌}
use Rattle.lois_base.specs.Data.{TermD, var, tag, tup, coll, TermsD, no_terms, term, CompD, comp, CompsD, no_comps, more}

abbrev mutual
  pub BindsNothing : TermD → Type 0
  BindsNothing (var i) = Unit {0}
  BindsNothing (tag x) = Unit {0}
  BindsNothing (tup ts) = PartsBindNothing ts
  BindsNothing (coll ks) = ItemsBindNothing ks

  pub PartsBindNothing : TermsD → Type 0
  PartsBindNothing no_terms = Unit {0}
  PartsBindNothing (term t ts) = BindsNothing t × PartsBindNothing ts

  pub CompBindsNothing : CompD → Type 0
  CompBindsNothing (comp m g t) = (m ≡ 0) × BindsNothing t

  pub ItemsBindNothing : CompsD → Type 0
  ItemsBindNothing no_comps = Unit {0}
  ItemsBindNothing (more k ks) = CompBindsNothing k × ItemsBindNothing ks
