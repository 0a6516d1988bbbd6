-- How drafts are written, piece by piece, and which pieces break a side rule.
use Rattle.std.specs.Prelude.{ℕ, suc, ◌+◌, ◌-◌, ◌*◌, ◌^◌, Bool, true, false, ◌&&◌, ◌==◌, not, nat_le, nat_lt, List, [], ◌∷◌, ◌++◌, length, Option, Some, None, bytes_eq, codes}
use Rattle.std.specs.List.{list_any}
use Rattle.lois_base.specs.Validity.{is_admitted}
use Rattle.lois_base.specs.declared.guards.Op.{Op}
use Rattle.lois_lexer.specs.Words.{reserved}
use Rattle.lois_answers.specs.ResultsText.{structure_text}
use Rattle.lois_answers.specs.TermText.{op_text}
use Rattle.lois_answers.specs.TraceText.{kind_text}
use Rattle.lois_reader.specs.declared.scope.Scope.{Scope}
use Rattle.lois_reader.specs.Draft.{Operand, word, level, LitDraft, ConstraintDraft, TermDraft, atom, tag, tuple, set, TermDrafts, no_terms, term, CompDraft, comp, CompDrafts, no_comps, more, LineDraft, CaseDraft, ResultsDraft, TraceDraft, AnswerDraft, results, trace, draft_width}

-- Bytes, and whether a side rule is broken at the first of them.
pub record Piece : Type 0 where
  pub bytes : List ℕ
  pub broken : Bool

-- a piece that the rule holds for, or doesn't; one without a rule
abbrev pub ruled : Bool → List ℕ → Piece
ruled holds bytes = record { bytes = bytes; broken = not holds }

abbrev pub plain : List ℕ → Piece
plain bytes = ruled true bytes

-- the pieces of each, one after the other
abbrev pub each : {A : Type 0} → (A → List Piece) → List A → List Piece
each pieces [] = []
each pieces (x ∷ xs) = pieces x ++ each pieces xs

-- the number that digits stand for, after a number that stands before them
abbrev pub value_from : ℕ → List ℕ → ℕ
value_from n [] = n
value_from n (d ∷ ds) = value_from (n * 10 + (d - 48)) ds

abbrev pub value : List ℕ → ℕ
value ds = value_from 0 ds

abbrev pub is_among : List (List ℕ) → List ℕ → Bool
is_among words w = list_any (bytes_eq w) words

-- at most 64 bytes, and no word of the language
abbrev pub is_unreserved : List ℕ → Bool
is_unreserved w = nat_le (length w) 64 && not (is_among reserved w)

-- A scope has the parameters, and whether the atoms are ordered. An operand inside n levels: a word is a parameter (so it
-- is free), and a level is no parameter's and below n.
abbrev pub operand_piece : Scope → ℕ → Operand → Piece
operand_piece s n (word w) = ruled (is_among s.names w) w
operand_piece s n (level ds) = ruled (nat_le (length s.names) (value ds) && nat_lt (value ds) n) (codes "$" ++ ds)

-- `<` stands only under `atoms order`
abbrev pub op_piece : Scope → Op → Piece
op_piece s op = ruled (is_admitted s.ordered op) (op_text op)

abbrev pub literal_pieces : Scope → ℕ → LitDraft → List Piece
literal_pieces s n l = operand_piece s n l.left ∷ op_piece s l.op ∷ operand_piece s n l.right ∷ []

abbrev pub cube_pieces : Scope → ℕ → List LitDraft → List Piece
cube_pieces s n [] = plain (codes "true") ∷ []
cube_pieces s n (l ∷ ls) = literal_pieces s n l ++ each (λ k. plain (codes " and ") ∷ literal_pieces s n k) ls

abbrev pub constraint_pieces : Scope → ℕ → ConstraintDraft → List Piece
constraint_pieces s n [] = plain (codes "false") ∷ []
constraint_pieces s n (c ∷ cs) = cube_pieces s n c ++ each (λ d. plain (codes " or ") ∷ cube_pieces s n d) cs

-- a guard isn't `true` alone
abbrev pub guard_pieces : Scope → ℕ → Option ConstraintDraft → List Piece
guard_pieces s n None = []
guard_pieces s n (Some ([] ∷ [])) = plain (codes " if ") ∷ ruled false (codes "true") ∷ []
guard_pieces s n (Some g) = plain (codes " if ") ∷ constraint_pieces s n g

-- the binders inside n levels are n, n + 1 and so on
abbrev pub level_pieces : ℕ → List (List ℕ) → List Piece
level_pieces n [] = []
level_pieces n (ds ∷ others) = plain (codes " ") ∷ ruled (value ds == n) (codes "$" ++ ds) ∷ level_pieces (suc n) others

abbrev pub binder_pieces : ℕ → List (List ℕ) → List Piece
binder_pieces n [] = []
binder_pieces n (ds ∷ others) = plain (codes " for") ∷ level_pieces n (ds ∷ others)

-- what stands between the parts of a tuple, and between the comprehensions of a set
abbrev pub comma : List Piece
comma = plain (codes ", ") ∷ []

-- A term inside n levels: a tag has at most 64 bytes behind its quote, and a tuple at most 8 parts. Parts and
-- comprehensions are written after a first text, and with commas between them.
abbrev mutual
  pub term_pieces : Scope → ℕ → TermDraft → List Piece
  term_pieces s n (atom o) = operand_piece s n o ∷ []
  term_pieces s n (tag w) = ruled (nat_le (length w) 64) (codes "'" ++ w) ∷ []
  term_pieces s n (tuple ts) = ruled (nat_le (draft_width ts) 8) (codes "(") ∷ part_pieces s n [] ts ++ plain (codes ")") ∷ []
  term_pieces s n (set cs) = plain (codes "{") ∷ item_pieces s n [] cs ++ plain (codes "}") ∷ []

  pub part_pieces : Scope → ℕ → List Piece → TermDrafts → List Piece
  part_pieces s n first no_terms = []
  part_pieces s n first (term t ts) = first ++ term_pieces s n t ++ part_pieces s n comma ts

  pub comp_pieces : Scope → ℕ → CompDraft → List Piece
  comp_pieces s n (comp t bs g) = term_pieces s (n + length bs) t ++ binder_pieces n bs ++ guard_pieces s (n + length bs) g

  pub item_pieces : Scope → ℕ → List Piece → CompDrafts → List Piece
  item_pieces s n first no_comps = []
  item_pieces s n first (more c cs) = first ++ comp_pieces s n c ++ item_pieces s n comma cs

abbrev pub line_end : Piece
line_end = plain (codes "\n")

abbrev pub line_pieces : Scope → ℕ → LineDraft → List Piece
line_pieces s n l = ruled (is_unreserved l.name) l.name ∷ plain (codes " = ") ∷ term_pieces s n l.term ++ line_end ∷ []

abbrev pub case_pieces : Scope → CaseDraft → List Piece
case_pieces s c =
    plain (codes "case when ") ∷ constraint_pieces s (length s.names) c.«when» ++ line_end ∷
    each (line_pieces s (length s.names)) c.lines

-- the parameters after some others: each is free, and none of those before it
abbrev pub name_pieces : List (List ℕ) → List (List ℕ) → List Piece
name_pieces before [] = []
name_pieces before (w ∷ ws) =
    plain (codes " ") ∷ ruled (is_unreserved w && not (is_among before w)) w ∷ name_pieces (before ++ w ∷ []) ws

-- the first lines of an answer: its version, its structure and its parameters
abbrev pub head_pieces : List ℕ → Scope → List Piece
head_pieces version s =
    plain (codes "lois results ") ∷ plain version ∷ line_end ∷ plain (structure_text s.ordered) ∷
    plain (codes "parameters") ∷ name_pieces [] s.names ++ line_end ∷ []

abbrev pub end_piece : Piece
end_piece = plain (codes "end\n")

abbrev pub results_pieces : ResultsDraft → List Piece
results_pieces r =
    let s : Scope = record { names = r.parameters; ordered = r.ordered } in
    head_pieces (codes "1") s ++ each (case_pieces s) r.cases ++ end_piece ∷ []

-- a line or a column of a script
abbrev pub place_piece : List ℕ → Piece
place_piece ds = ruled (nat_le 1 (value ds) && nat_le (value ds) 1048577) ds

-- a number of the choice is at most the greatest u64
abbrev pub choice_pieces : List (List ℕ) → List Piece
choice_pieces choice = each (λ ds. plain (codes " ") ∷ ruled (nat_lt (value ds) (2 ^ 64)) ds ∷ []) choice

abbrev pub failure_pieces : TraceDraft → List Piece
failure_pieces t =
    plain (codes "failed at ") ∷ place_piece t.line ∷ plain (codes ":") ∷ place_piece t.column ∷
    plain (codes ": " ++ kind_text t.kind) ∷ line_end ∷ []

-- the choice has at least as many numbers as there are parameters
abbrev pub trace_pieces : TraceDraft → List Piece
trace_pieces t =
    let s : Scope = record { names = t.parameters; ordered = t.ordered } in
    head_pieces (codes "2") s ++ failure_pieces t ++
    plain (codes "choice") ∷ choice_pieces t.choice ++
    ruled (nat_le (length t.parameters) (length t.choice)) (codes "\n") ∷
    each (λ l. plain (codes "for ") ∷ line_pieces s (length t.choice) l) t.elements ++ end_piece ∷ []

abbrev pub answer_pieces : AnswerDraft → List Piece
answer_pieces (results r) = results_pieces r
answer_pieces (trace t) = trace_pieces t
