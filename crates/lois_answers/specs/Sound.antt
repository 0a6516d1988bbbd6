-- Results and traces that have a text.
use Rattle.std.specs.Prelude.{ℕ, ◌<◌, ◌≤◌, ◌^◌, Bool, List, [], ◌∷◌, length, Contains}
use Rattle.std.specs.List.{All}
use Rattle.lois_base.specs.Data.{TermD, var, tag, tup, coll, TermsD, no_terms, term, CompD, comp, CompsD, no_comps, more, depth}
use Rattle.lois_base.specs.Fits.{Fits, ConstraintFits}
use Rattle.lois_base.specs.Names.{IsName}
use Rattle.lois_base.specs.Validity.{AdmitsConstraint, AdmitsTerm, HasBoundedWidths, IsStrictConstraint, IsStrictTerm}
use Rattle.lois_lexer.specs.Words.{reserved}
use Rattle.lois_answers.specs.ResultsData.{LineD, CaseD}
use Rattle.lois_answers.specs.declared.faults.Trace.{Trace}
use Rattle.lois_answers.specs.declared.results.Results.{Results}

-- a name that is no word of the language
pub record IsFreeName (name : List ℕ) : Type 0 where
  pub form : IsName name
  pub free : Contains reserved name → ⊥

-- each tag has the form of a name, and may be a word of the language
abbrev mutual
  pub HasTags : TermD → Type 0
  HasTags (var i) = Unit {0}
  HasTags (tag t) = IsName t
  HasTags (tup ts) = PartsHaveTags ts
  HasTags (coll cs) = ItemsHaveTags cs

  pub PartsHaveTags : TermsD → Type 0
  PartsHaveTags no_terms = Unit {0}
  PartsHaveTags (term t ts) = HasTags t × PartsHaveTags ts

  pub CompHasTags : CompD → Type 0
  CompHasTags (comp m g t) = HasTags t

  pub ItemsHaveTags : CompsD → Type 0
  ItemsHaveTags no_comps = Unit {0}
  ItemsHaveTags (more c cs) = CompHasTags c × ItemsHaveTags cs

-- a term inside n levels: each tuple has 2 to 8 parts, no guard has `<=`, and at most 64 brackets are open at one place
pub record IsSoundTerm (ordered : Bool) (n : ℕ) (t : TermD) : Type 0 where
  pub levels : Fits n t
  pub tags : HasTags t
  pub widths : HasBoundedWidths t
  pub operators : AdmitsTerm ordered t
  pub strict : IsStrictTerm t
  pub brackets : depth t ≤ 64

pub record IsSoundLine (ordered : Bool) (n : ℕ) (l : LineD) : Type 0 where
  pub name : IsFreeName l.name
  pub term : IsSoundTerm ordered n l.term

-- no name is equal to one after it
abbrev pub AreDistinct : List (List ℕ) → Type 0
AreDistinct [] = Unit {0}
AreDistinct (x ∷ xs) = (Contains xs x → ⊥) × AreDistinct xs

pub record AreParameters (names : List (List ℕ)) : Type 0 where
  pub free : All IsFreeName names
  pub distinct : AreDistinct names

pub record IsSoundCase (ordered : Bool) (n : ℕ) (c : CaseD) : Type 0 where
  pub levels : ConstraintFits n c.«when»
  pub operators : AdmitsConstraint ordered c.«when»
  pub strict : IsStrictConstraint c.«when»
  pub lines : All (IsSoundLine ordered n) c.lines

pub record IsSound (r : Results) : Type 0 where
  pub parameters : AreParameters r.parameters
  pub cases : All (IsSoundCase r.order (length r.parameters)) r.cases

-- a line or a column of a script: a script has at most 1048576 bytes
abbrev pub IsPlaceNumber : ℕ → Type 0
IsPlaceNumber n = (1 ≤ n) × (n ≤ 1048577)

-- a trace: its choice has at least a number for each parameter
pub record IsSoundTrace (t : Trace) : Type 0 where
  pub parameters : AreParameters t.parameters
  pub line : IsPlaceNumber t.line
  pub column : IsPlaceNumber t.column
  pub numbers : All (λ a. a < 2 ^ 64) t.sample
  pub enough : length t.parameters ≤ length t.sample
  pub elements : All (IsSoundLine t.order (length t.sample)) t.elements
