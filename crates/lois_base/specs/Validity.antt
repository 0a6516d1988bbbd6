-- What an answer may use: the operators of its arguments, and their levels.
use Rattle.std.specs.Prelude.{ℕ, ◌≤◌, suc, Bool, true, false, List, IsTrue}
use Rattle.std.specs.List.{All}
use Rattle.lois_base.specs.declared.guards.Lit.{Lit}
use Rattle.lois_base.specs.declared.guards.Op.{Op}
use Rattle.lois_base.specs.declared.guards.Op.TheVariants.{Eq, Ne, Lt, AtMost}
use Rattle.lois_base.specs.declared.limits.TheConstants.{LEAST_WIDTH, GREATEST_WIDTH}
use Rattle.lois_base.specs.Data.{TermD, var, tag, tup, coll, TermsD, no_terms, term, CompD, comp, CompsD, no_comps, more}

-- `=` and `!=` are admitted over all atoms, and `<` and `<=` where the atoms are ordered
abbrev pub is_admitted : Bool → Op → Bool
is_admitted ordered Eq = true
is_admitted ordered Ne = true
is_admitted ordered Lt = ordered
is_admitted ordered AtMost = ordered

-- only admitted operators occur
abbrev pub AdmitsLit : Bool → Lit → Type 0
AdmitsLit ordered l = IsTrue (is_admitted ordered l.op)

abbrev pub AdmitsCube : Bool → List Lit → Type 0
AdmitsCube ordered = All (AdmitsLit ordered)

abbrev pub AdmitsConstraint : Bool → List (List Lit) → Type 0
AdmitsConstraint ordered = All (AdmitsCube ordered)

abbrev mutual
  pub AdmitsTerm : Bool → TermD → Type 0
  AdmitsTerm ordered (var i) = Unit {0}
  AdmitsTerm ordered (tag t) = Unit {0}
  AdmitsTerm ordered (tup ts) = AdmitsParts ordered ts
  AdmitsTerm ordered (coll cs) = AdmitsItems ordered cs

  pub AdmitsParts : Bool → TermsD → Type 0
  AdmitsParts ordered no_terms = Unit {0}
  AdmitsParts ordered (term t ts) = AdmitsTerm ordered t × AdmitsParts ordered ts

  pub AdmitsComp : Bool → CompD → Type 0
  AdmitsComp ordered (comp m g t) = AdmitsConstraint ordered g × AdmitsTerm ordered t

  pub AdmitsItems : Bool → CompsD → Type 0
  AdmitsItems ordered no_comps = Unit {0}
  AdmitsItems ordered (more c cs) = AdmitsComp ordered c × AdmitsItems ordered cs

-- `<=` is the one operator that isn't strict
abbrev pub is_strict : Op → Bool
is_strict Eq = true
is_strict Ne = true
is_strict Lt = true
is_strict AtMost = false

-- no `<=` occurs
abbrev pub IsStrictLit : Lit → Type 0
IsStrictLit l = IsTrue (is_strict l.op)

abbrev pub IsStrictCube : List Lit → Type 0
IsStrictCube = All IsStrictLit

abbrev pub IsStrictConstraint : List (List Lit) → Type 0
IsStrictConstraint = All IsStrictCube

abbrev mutual
  pub IsStrictTerm : TermD → Type 0
  IsStrictTerm (var i) = Unit {0}
  IsStrictTerm (tag t) = Unit {0}
  IsStrictTerm (tup ts) = PartsAreStrict ts
  IsStrictTerm (coll cs) = ItemsAreStrict cs

  pub PartsAreStrict : TermsD → Type 0
  PartsAreStrict no_terms = Unit {0}
  PartsAreStrict (term t ts) = IsStrictTerm t × PartsAreStrict ts

  pub CompIsStrict : CompD → Type 0
  CompIsStrict (comp m g t) = IsStrictConstraint g × IsStrictTerm t

  pub ItemsAreStrict : CompsD → Type 0
  ItemsAreStrict no_comps = Unit {0}
  ItemsAreStrict (more c cs) = CompIsStrict c × ItemsAreStrict cs

abbrev pub count_of_parts : TermsD → ℕ
count_of_parts no_terms = 0
count_of_parts (term t ts) = suc (count_of_parts ts)

-- each tuple has 2 to 8 parts
abbrev mutual
  pub HasBoundedWidths : TermD → Type 0
  HasBoundedWidths (var i) = Unit {0}
  HasBoundedWidths (tag t) = Unit {0}
  HasBoundedWidths (tup ts) = (LEAST_WIDTH ≤ count_of_parts ts) × (count_of_parts ts ≤ GREATEST_WIDTH) × PartsHaveBoundedWidths ts
  HasBoundedWidths (coll cs) = ItemsHaveBoundedWidths cs

  pub PartsHaveBoundedWidths : TermsD → Type 0
  PartsHaveBoundedWidths no_terms = Unit {0}
  PartsHaveBoundedWidths (term t ts) = HasBoundedWidths t × PartsHaveBoundedWidths ts

  pub CompHasBoundedWidths : CompD → Type 0
  CompHasBoundedWidths (comp m g t) = HasBoundedWidths t

  pub ItemsHaveBoundedWidths : CompsD → Type 0
  ItemsHaveBoundedWidths no_comps = Unit {0}
  ItemsHaveBoundedWidths (more c cs) = CompHasBoundedWidths c × ItemsHaveBoundedWidths cs
