-- Texts of the shape, and the first side rule that a text of the shape breaks.
use Rattle.std.specs.Prelude.{◌≡◌, ℕ, ◌+◌, ◌<◌, ◌≤◌, List, [], ◌∷◌, ◌++◌, length, take, Option, Some, None, option_map, if◌then◌else◌}
use Rattle.lois_reader.specs.Draft.{ResultsDraft, IsResultsDraft, AnswerDraft, IsAnswerDraft}
use Rattle.lois_reader.specs.Pieces.{Piece, results_pieces, answer_pieces}

abbrev pub text_of_pieces : List Piece → List ℕ
text_of_pieces [] = []
text_of_pieces (p ∷ ps) = p.bytes ++ text_of_pieces ps

-- the place of the first piece that breaks a side rule
abbrev pub first_broken : List Piece → Option ℕ
first_broken [] = None
first_broken (p ∷ ps) = if p.broken then Some 0 else option_map (λ k. length p.bytes + k) (first_broken ps)

-- The text has the shape of results, of an answer, and is a draft's.
pub record SpellsResults (text : List ℕ) (r : ResultsDraft) : Type 0 where
  pub form : IsResultsDraft r
  pub spelled : text_of_pieces (results_pieces r) ≡ text

pub record SpellsAnswer (text : List ℕ) (a : AnswerDraft) : Type 0 where
  pub form : IsAnswerDraft a
  pub spelled : text_of_pieces (answer_pieces a) ≡ text

abbrev pub HasResultsShape : List ℕ → Type 0
HasResultsShape text = (r : ResultsDraft) × SpellsResults text r

abbrev pub HasAnswerShape : List ℕ → Type 0
HasAnswerShape text = (a : AnswerDraft) × SpellsAnswer text a

-- some text of the shape begins so
abbrev pub BeginsShape : (List ℕ → Type 0) → List ℕ → Type 0
BeginsShape Shape front = (rest : List ℕ) × Shape (front ++ rest)

-- The text isn't of the shape, and its longest front that begins a text of the shape has k bytes.
pub record LeavesShapeAt (Shape : List ℕ → Type 0) (text : List ℕ) (k : ℕ) : Type 0 where
  pub outside : Shape text → ⊥
  pub within : k ≤ length text
  pub begins : BeginsShape Shape (take k text)
  pub longest : (m : ℕ) → k < m → m ≤ length text → BeginsShape Shape (take m text) → ⊥

-- The text is a draft's, and each draft that it is breaks its first side rule at k.
pub record BreaksRuleAt {D : Type 0} (Spells : D → Type 0) (pieces : D → List Piece) (k : ℕ) : Type 0 where
  pub draft : D
  pub spelled : Spells draft
  pub first : (d : D) → Spells d → first_broken (pieces d) ≡ Some k
