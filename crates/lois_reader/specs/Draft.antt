-- What a text of the shape spells, the side rules left aside: words of any length, numbers by their digits.
use Rattle.std.specs.Prelude.{ℕ, zero, suc, ◌≤◌, Bool, ◌&&◌, ◌||◌, ◌==◌, not, List, length, slice_index, Option, IfSome, IsTrue}
use Rattle.std.specs.Char.{is_ascii_digit}
use Rattle.std.specs.List.{list_all, AllByRecursion}
use Rattle.lois_base.specs.Validity.{is_strict}
use Rattle.lois_base.specs.declared.guards.Op.{Op}
use Rattle.lois_lexer.specs.Forms.{is_word_form}
use Rattle.lois_answers.specs.declared.faults.FaultKind.{FaultKind}

-- a word, or a level by its digits
pub data Operand : Type 0 where
  word : List ℕ → Operand
  level : List ℕ → Operand

pub record LitDraft : Type 0 where
  pub left : Operand
  pub op : Op
  pub right : Operand

-- cubes of literals
abbrev pub ConstraintDraft : Type 0
ConstraintDraft = List (List LitDraft)

mutual
  pub data TermDraft : Type 0 where
    atom : Operand → TermDraft
    tag : List ℕ → TermDraft
    tuple : TermDrafts → TermDraft
    set : CompDrafts → TermDraft

  pub data TermDrafts : Type 0 where
    no_terms : TermDrafts
    term : TermDraft → TermDrafts → TermDrafts

  -- an item, the digits of its binders, and its guard where one is written
  pub data CompDraft : Type 0 where
    comp : TermDraft → List (List ℕ) → Option ConstraintDraft → CompDraft

  pub data CompDrafts : Type 0 where
    no_comps : CompDrafts
    more : CompDraft → CompDrafts → CompDrafts

pub record LineDraft : Type 0 where
  pub name : List ℕ
  pub term : TermDraft

pub record CaseDraft : Type 0 where
  pub «when» : ConstraintDraft
  pub lines : List LineDraft

pub record ResultsDraft : Type 0 where
  pub ordered : Bool
  pub parameters : List (List ℕ)
  pub cases : List CaseDraft

-- a trace, with the digits of its line, its column and its choice
pub record TraceDraft : Type 0 where
  pub ordered : Bool
  pub parameters : List (List ℕ)
  pub line : List ℕ
  pub column : List ℕ
  pub kind : FaultKind
  pub choice : List (List ℕ)
  pub elements : List LineDraft

pub data AnswerDraft : Type 0 where
  results : ResultsDraft → AnswerDraft
  trace : TraceDraft → AnswerDraft

-- a letter, then letters, digits and `_`
abbrev pub IsWord : List ℕ → Type 0
IsWord w = IsTrue (is_word_form w)

-- `0`, or digits that don't begin with 0
abbrev pub is_number : List ℕ → Bool
is_number ds = not (length ds == 0) && list_all is_ascii_digit ds && (length ds == 1 || not (slice_index ds 0 == 48))

abbrev pub IsNumber : List ℕ → Type 0
IsNumber ds = IsTrue (is_number ds)

abbrev pub IsOperand : Operand → Type 0
IsOperand (word w) = IsWord w
IsOperand (level ds) = IsNumber ds

-- `<=` is no operator of a text
abbrev pub IsLitDraft : LitDraft → Type 0
IsLitDraft l = IsOperand l.left × IsOperand l.right × IsTrue (is_strict l.op)

abbrev pub IsConstraintDraft : ConstraintDraft → Type 0
IsConstraintDraft = AllByRecursion (AllByRecursion IsLitDraft)

abbrev pub draft_width : TermDrafts → ℕ
draft_width no_terms = 0
draft_width (term t ts) = suc (draft_width ts)

-- at most d brackets are open at one place; a tuple has at least two parts
abbrev mutual
  pub IsTermDraft : ℕ → TermDraft → Type 0
  IsTermDraft d (atom o) = IsOperand o
  IsTermDraft d (tag w) = IsWord w
  IsTermDraft zero (tuple ts) = ⊥
  IsTermDraft (suc d) (tuple ts) = (2 ≤ draft_width ts) × AreTermDrafts d ts
  IsTermDraft zero (set cs) = ⊥
  IsTermDraft (suc d) (set cs) = AreCompDrafts d cs

  pub AreTermDrafts : ℕ → TermDrafts → Type 0
  AreTermDrafts d no_terms = Unit {0}
  AreTermDrafts d (term t ts) = IsTermDraft d t × AreTermDrafts d ts

  pub IsCompDraft : ℕ → CompDraft → Type 0
  IsCompDraft d (comp t bs g) = IsTermDraft d t × AllByRecursion IsNumber bs × IfSome g IsConstraintDraft

  pub AreCompDrafts : ℕ → CompDrafts → Type 0
  AreCompDrafts d no_comps = Unit {0}
  AreCompDrafts d (more c cs) = IsCompDraft d c × AreCompDrafts d cs

abbrev pub IsLineDraft : LineDraft → Type 0
IsLineDraft l = IsWord l.name × IsTermDraft 64 l.term

abbrev pub IsCaseDraft : CaseDraft → Type 0
IsCaseDraft c = IsConstraintDraft c.«when» × AllByRecursion IsLineDraft c.lines

pub record IsResultsDraft (r : ResultsDraft) : Type 0 where
  pub parameters : AllByRecursion IsWord r.parameters
  pub cases : AllByRecursion IsCaseDraft r.cases

pub record IsTraceDraft (t : TraceDraft) : Type 0 where
  pub parameters : AllByRecursion IsWord t.parameters
  pub line : IsNumber t.line
  pub column : IsNumber t.column
  pub choice : AllByRecursion IsNumber t.choice
  pub elements : AllByRecursion IsLineDraft t.elements

abbrev pub IsAnswerDraft : AnswerDraft → Type 0
IsAnswerDraft (results r) = IsResultsDraft r
IsAnswerDraft (trace t) = IsTraceDraft t
