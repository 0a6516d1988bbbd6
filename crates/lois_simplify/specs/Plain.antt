-- Guards as they are written: `true` where they always hold, and without `<=`.
use Rattle.std.specs.Prelude.{◌≡◌, ℕ, ◌+◌, List, [], ◌∷◌}
use Rattle.lois_base.specs.Data.{TermD, var, tag, tup, coll, TermsD, no_terms, term, CompD, comp, CompsD, no_comps, more}
use Rattle.lois_base.specs.Normal.{both}
use Rattle.lois_base.specs.Validity.{IsStrictConstraint}
use Rattle.lois_base.specs.declared.guards.Lit.{Lit}
use Rattle.lois_deciders.specs.Satisfaction.{IsEntailed}

-- A guard that holds at each choice of n atoms at which u does is one cube without literals. No literal has `<=`.
pub record IsPlain (g u : List (List Lit)) (n : ℕ) : Type 0 where
  pub always : IsEntailed n u g → g ≡ [] ∷ []
  pub strict : IsStrictConstraint g

-- Each guard is plain under what surrounds it, those inside too. Around the term, inside n levels, u holds.
abbrev mutual
  pub HasPlainGuards : TermD → List (List Lit) → ℕ → Type 0
  HasPlainGuards (var i) u n = Unit {0}
  HasPlainGuards (tag t) u n = Unit {0}
  HasPlainGuards (tup ts) u n = PartsHavePlainGuards ts u n
  HasPlainGuards (coll cs) u n = ItemsHavePlainGuards cs u n

  pub PartsHavePlainGuards : TermsD → List (List Lit) → ℕ → Type 0
  PartsHavePlainGuards no_terms u n = Unit {0}
  PartsHavePlainGuards (term t ts) u n = HasPlainGuards t u n × PartsHavePlainGuards ts u n

  pub CompHasPlainGuards : CompD → List (List Lit) → ℕ → Type 0
  CompHasPlainGuards (comp m g t) u n = IsPlain g u (n + m) × HasPlainGuards t (both u g) (n + m)

  pub ItemsHavePlainGuards : CompsD → List (List Lit) → ℕ → Type 0
  ItemsHavePlainGuards no_comps u n = Unit {0}
  ItemsHavePlainGuards (more c cs) u n = CompHasPlainGuards c u n × ItemsHavePlainGuards cs u n
