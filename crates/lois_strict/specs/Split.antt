-- Terms whose guards alone are others, without `<=`.
use Rattle.std.specs.Prelude.{◌≡◌, ℕ, Bool, List}
use Rattle.lois_base.specs.Atom.{Atom}
use Rattle.lois_base.specs.Data.{TermD, var, tag, tup, coll, TermsD, no_terms, term, CompD, comp, CompsD, no_comps, more}
use Rattle.lois_base.specs.Fits.{ConstraintFits}
use Rattle.lois_base.specs.Truth.{holds}
use Rattle.lois_base.specs.Validity.{AdmitsConstraint, IsStrictConstraint}
use Rattle.lois_base.specs.declared.guards.Lit.{Lit}

-- r has no `<=` and holds where g does
pub record IsSplit (g r : List (List Lit)) : Type 0 where
  pub truth : (e : List Atom) → holds e r ≡ holds e g
  pub strict : IsStrictConstraint r
  pub levels : (n : ℕ) → ConstraintFits n g → ConstraintFits n r
  pub operators : (o : Bool) → AdmitsConstraint o g → AdmitsConstraint o r

-- the second term is the first one with each guard split
abbrev mutual
  pub TermIsSplit : TermD → TermD → Type 0
  TermIsSplit (var i) (var j) = j ≡ i
  TermIsSplit (tag n) (tag k) = k ≡ n
  TermIsSplit (tup ts) (tup ss) = PartsAreSplit ts ss
  TermIsSplit (coll ks) (coll ls) = ItemsAreSplit ks ls
  TermIsSplit _ _ = ⊥

  pub PartsAreSplit : TermsD → TermsD → Type 0
  PartsAreSplit no_terms no_terms = Unit {0}
  PartsAreSplit (term t ts) (term s ss) = TermIsSplit t s × PartsAreSplit ts ss
  PartsAreSplit _ _ = ⊥

  pub CompIsSplit : CompD → CompD → Type 0
  CompIsSplit (comp m g t) (comp n r s) = (n ≡ m) × IsSplit g r × TermIsSplit t s

  pub ItemsAreSplit : CompsD → CompsD → Type 0
  ItemsAreSplit no_comps no_comps = Unit {0}
  ItemsAreSplit (more k ks) (more l ls) = CompIsSplit k l × ItemsAreSplit ks ls
  ItemsAreSplit _ _ = ⊥
