-- Where the lines of results and of traces end, the texts of their drafts standing in front.
use Rattle.std.proofs.Common.{◌≡◌, ℕ, zero, suc, ◌<◌, Bool, true, false, cond, ◌&&◌, List, [], ◌∷◌, ◌++◌, length, Ok, refl, sym, ap, subst, ◌∙◌, append_assoc, arith, length-append}
use Rattle.std.specs.Prelude.{codes, bytes_eq}
use Rattle.std.specs.List.{AllByRecursion}
use Rattle.lois_base.proofs.Booleans.{and_false}
use Rattle.lois_answers.specs.ResultsText.{structure_text}
use Rattle.lois_reader.specs.declared.scope.Scope.{Scope}
use Rattle.lois_reader.specs.Draft.{ConstraintDraft, TermDraft, LineDraft, CaseDraft, ResultsDraft, IsWord, IsConstraintDraft, IsTermDraft, IsLineDraft, IsCaseDraft, IsResultsDraft}
use Rattle.lois_reader.specs.Pieces.{Piece, plain, each, constraint_pieces, term_pieces, line_end, line_pieces, case_pieces, name_pieces, end_piece, results_pieces}
use Rattle.lois_reader.specs.Shape.{text_of_pieces}
use Rattle.lois_reader.specs.Reading.{◌>>=◌, first_byte, begins}
use Rattle.lois_reader.specs.Ends.{many_end, term_end}
use Rattle.lois_reader.specs.AnswerEnds.{structure_end, name_end, names_end, head_end, when_end, body_end, behind_case, assigned_end, behind_word, entry_at, opening_at, entries_end, cases_end, results_end, results_text_end}
use Rattle.lois_reader.proofs.Fronts.{EndsWord, word_front, word_ends}
use Rattle.lois_reader.proofs.Outcome.{text_append, text_split}
use Rattle.lois_reader.proofs.ConstraintOutcome.{Closes}
use Rattle.lois_reader.proofs.EndsFronts.{constraint_front, term_front}

-- ---- names

pub name_text : (before : List (List ℕ)) (w : List ℕ) (ws : List (List ℕ)) (r : List ℕ) → text_of_pieces (name_pieces before (w ∷ ws)) ++ r ≡ codes " " ++ (w ++ (text_of_pieces (name_pieces (before ++ w ∷ []) ws) ++ r))
name_text before w ws r = ap (λ (x : List ℕ). codes " " ++ x) (append_assoc w (text_of_pieces (name_pieces (before ++ w ∷ []) ws)) r)

pub names_end_word : (before ws : List (List ℕ)) (r : List ℕ) → EndsWord r → EndsWord (text_of_pieces (name_pieces before ws) ++ r)
names_end_word before [] r ends = ends
names_end_word before (w ∷ ws) r ends = refl

names_none : (r : List ℕ) (n : ℕ) → begins 32 r ≡ false → many_end (begins 32) name_end (suc n) r ≡ Ok r
names_none r n none = rw none refl

names_next : (w t r : List ℕ) (n : ℕ) → IsWord w → EndsWord t → many_end (begins 32) name_end n t ≡ Ok r → many_end (begins 32) name_end (suc n) (codes " " ++ (w ++ t)) ≡ Ok r
names_next w t r n form ends later = ap (λ e. e >>= many_end (begins 32) name_end n) (word_ends w t form ends) ∙ later

names_many : (before ws : List (List ℕ)) (r : List ℕ) (n : ℕ) → AllByRecursion IsWord ws → EndsWord r → begins 32 r ≡ false → length (text_of_pieces (name_pieces before ws) ++ r) < n → many_end (begins 32) name_end n (text_of_pieces (name_pieces before ws) ++ r) ≡ Ok r
names_many before ws r zero forms ends none enough = absurd (omega arith)
names_many before [] r (suc n) forms ends none enough = names_none r n none
names_many before (w ∷ ws) r (suc n) forms ends none enough =
    let t : List ℕ = text_of_pieces (name_pieces (before ++ w ∷ []) ws) ++ r in
    let short : length (text_of_pieces (name_pieces (before ++ w ∷ []) ws) ++ r) < n = omega (arith, ap length (name_text before w ws r), length-append (codes " ") (w ++ t), length-append w t) in
    ap (many_end (begins 32) name_end (suc n)) (name_text before w ws r) ∙ names_next w t r n forms.0 (names_end_word (before ++ w ∷ []) ws r ends) (names_many (before ++ w ∷ []) ws r n forms.1 ends none short)

names_front : (ws : List (List ℕ)) (r : List ℕ) → AllByRecursion IsWord ws → EndsWord r → begins 32 r ≡ false → names_end (text_of_pieces (name_pieces [] ws) ++ r) ≡ Ok r
unfolding names_end
names_front ws r forms ends none = names_many [] ws r (suc (length (text_of_pieces (name_pieces [] ws) ++ r))) forms ends none (omega arith)

-- ---- the head, behind the version

abbrev pub head_rest : Scope → List Piece
head_rest s = line_end ∷ plain (structure_text s.ordered) ∷ plain (codes "parameters") ∷ (name_pieces [] s.names ++ line_end ∷ [])

-- what stands behind the structure
abbrev pub names_line : Scope → List ℕ → List ℕ
names_line s r = text_of_pieces (name_pieces [] s.names) ++ (codes "\n" ++ r)

pub head_text : (s : Scope) (r : List ℕ) → text_of_pieces (head_rest s) ++ r ≡ codes "\n" ++ (structure_text s.ordered ++ (codes "parameters" ++ (text_of_pieces (name_pieces [] s.names) ++ (codes "\n" ++ r))))
head_text s r =
    let names : List Piece = name_pieces [] s.names ++ line_end ∷ [] in
    ap (λ (x : List ℕ). codes "\n" ++ x) (append_assoc (structure_text s.ordered) (codes "parameters" ++ text_of_pieces names) r
    ∙ ap (λ (x : List ℕ). structure_text s.ordered ++ (codes "parameters" ++ x)) (text_split (name_pieces [] s.names) (line_end ∷ []) r))

head_is : (o : Bool) (t r : List ℕ) → names_end t ≡ Ok (codes "\n" ++ r) → head_end (codes "\n" ++ (structure_text o ++ (codes "parameters" ++ t))) ≡ Ok r
unfolding head_end structure_end
head_is true t r e = rw e refl
head_is false t r e = rw e refl

pub head_front : (s : Scope) (r : List ℕ) → AllByRecursion IsWord s.names → head_end (text_of_pieces (head_rest s) ++ r) ≡ Ok r
head_front s r forms = ap head_end (head_text s r) ∙ head_is s.ordered (names_line s r) r (names_front s.names (codes "\n" ++ r) forms refl refl)

-- ---- lines

pub line_closes : (r : List ℕ) → Closes (codes "\n" ++ r)
line_closes r = record { word_ends = refl; space = refl; op = refl }

when_front : (s : Scope) (n : ℕ) (g : ConstraintDraft) (r : List ℕ) → IsConstraintDraft g → when_end (text_of_pieces (constraint_pieces s n g) ++ (codes "\n" ++ r)) ≡ Ok r
unfolding when_end
when_front s n g r form = rw (constraint_front s n g (codes "\n" ++ r) form (line_closes r)) refl

body_is : (t r : List ℕ) → term_end 64 t ≡ Ok (codes "\n" ++ r) → body_end t ≡ Ok r
unfolding body_end
body_is t r e = rw e refl

pub body_front : (s : Scope) (n : ℕ) (t : TermDraft) (r : List ℕ) → IsTermDraft 64 t → body_end (text_of_pieces (term_pieces s n t) ++ (codes "\n" ++ r)) ≡ Ok r
body_front s n t r form = body_is (text_of_pieces (term_pieces s n t) ++ (codes "\n" ++ r)) r (term_front 64 s n t (codes "\n" ++ r) form refl)

behind_name : (w t : List ℕ) → behind_word w (codes " = " ++ t) ≡ body_end t
unfolding behind_word behind_case assigned_end
behind_name w t =
    elim (bytes_eq w (codes "case")) as (λ b. cond b (body_end t) (body_end t) ≡ body_end t) [ true ↦ refl | false ↦ refl ]

entry_is : (w t r : List ℕ) → IsWord w → body_end t ≡ Ok r → entry_at (w ++ (codes " = " ++ t)) ≡ Ok (true, r)
unfolding entry_at
entry_is w t r form e = rw (word_front w (codes " = " ++ t) form refl, and_false (bytes_eq w (codes "end")), behind_name w t, e) refl

pub line_text : (s : Scope) (n : ℕ) (l : LineDraft) (r : List ℕ) → text_of_pieces (line_pieces s n l) ++ r ≡ l.name ++ (codes " = " ++ (text_of_pieces (term_pieces s n l.term) ++ (codes "\n" ++ r)))
line_text s n l r =
    let rest : List Piece = term_pieces s n l.term ++ line_end ∷ [] in
    append_assoc l.name (codes " = " ++ text_of_pieces rest) r
    ∙ ap (λ (x : List ℕ). l.name ++ (codes " = " ++ x)) (text_split (term_pieces s n l.term) (line_end ∷ []) r)

line_front : (s : Scope) (n : ℕ) (l : LineDraft) (r : List ℕ) → IsLineDraft l → entry_at (text_of_pieces (line_pieces s n l) ++ r) ≡ Ok (true, r)
line_front s n l r form = ap entry_at (line_text s n l r) ∙ entry_is l.name (text_of_pieces (term_pieces s n l.term) ++ (codes "\n" ++ r)) r form.0 (body_front s n l.term r form.1)

case_entry : (t r : List ℕ) → when_end t ≡ Ok r → entry_at (codes "case when " ++ t) ≡ Ok (true, r)
unfolding entry_at behind_word behind_case
case_entry t r e = rw (word_front (codes "case") (codes " when " ++ t) refl refl, e) refl

case_opening : (t r : List ℕ) → when_end t ≡ Ok r → opening_at (codes "case when " ++ t) ≡ Ok (true, r)
unfolding opening_at
case_opening t r e = rw e refl

last_entry : (r : List ℕ) → entry_at (codes "end\n" ++ r) ≡ Ok (false, r)
unfolding entry_at
last_entry r = rw (word_front (codes "end") (codes "\n" ++ r) refl refl) refl

last_opening : (r : List ℕ) → opening_at (codes "end\n" ++ r) ≡ Ok (false, r)
unfolding opening_at
last_opening r = refl

-- the lines from here on end before r, with any number of steps that is large enough
abbrev EntriesEnd : List ℕ → List ℕ → Type 0
EntriesEnd t r = (n : ℕ) → length t < n → entries_end n t ≡ Ok r

entry_next : (t u r : List ℕ) → entry_at t ≡ Ok (true, u) → length u < length t → EntriesEnd u r → EntriesEnd t r
entry_next t u r e shorter later zero enough = absurd (omega arith)
entry_next t u r e shorter later (suc n) enough = rw e (later n (omega arith))

entry_last : (t r : List ℕ) → entry_at t ≡ Ok (false, r) → EntriesEnd t r
entry_last t r e zero enough = absurd (omega arith)
entry_last t r e (suc n) enough = rw e refl

pub line_longer : (s : Scope) (n : ℕ) (l : LineDraft) (r : List ℕ) → length r < length (text_of_pieces (line_pieces s n l) ++ r)
line_longer s n l r =
    let t : List ℕ = text_of_pieces (term_pieces s n l.term) ++ (codes "\n" ++ r) in
    omega (arith, ap length (line_text s n l r), length-append l.name (codes " = " ++ t), length-append (codes " = ") t, length-append (text_of_pieces (term_pieces s n l.term)) (codes "\n" ++ r), length-append (codes "\n") r)

lines_front : (s : Scope) (n : ℕ) (ls : List LineDraft) (t r : List ℕ) → AllByRecursion IsLineDraft ls → EntriesEnd t r → EntriesEnd (text_of_pieces (each (line_pieces s n) ls) ++ t) r
lines_front s n [] t r forms later = later
lines_front s n (l ∷ ls) t r forms later =
    let u : List ℕ = text_of_pieces (each (line_pieces s n) ls) ++ t in
    subst (λ (x : List ℕ). EntriesEnd x r) (sym (text_split (line_pieces s n l) (each (line_pieces s n) ls) t))
    (entry_next (text_of_pieces (line_pieces s n l) ++ u) u r (line_front s n l u forms.0) (line_longer s n l u) (lines_front s n ls t r forms.1 later))

abbrev pub lines_of : Scope → CaseDraft → List Piece
lines_of s c = each (line_pieces s (length s.names)) c.lines

pub case_text : (s : Scope) (c : CaseDraft) (r : List ℕ) → text_of_pieces (case_pieces s c) ++ r ≡ codes "case when " ++ (text_of_pieces (constraint_pieces s (length s.names) c.«when») ++ (codes "\n" ++ (text_of_pieces (lines_of s c) ++ r)))
case_text s c r =
    let g : List Piece = constraint_pieces s (length s.names) c.«when» in
    ap (λ (x : List ℕ). codes "case when " ++ x) (text_split g (line_end ∷ lines_of s c) r)

cases_front : (s : Scope) (cs : List CaseDraft) (r : List ℕ) → AllByRecursion IsCaseDraft cs → EntriesEnd (text_of_pieces (each (case_pieces s) cs) ++ (codes "end\n" ++ r)) r
cases_front s [] r forms = entry_last (codes "end\n" ++ r) r (last_entry r)
cases_front s (c ∷ cs) r forms =
    let t : List ℕ = text_of_pieces (each (case_pieces s) cs) ++ (codes "end\n" ++ r) in
    let lines : List ℕ = text_of_pieces (lines_of s c) ++ t in
    let g : List ℕ = text_of_pieces (constraint_pieces s (length s.names) c.«when») in
    let short : length (text_of_pieces (lines_of s c) ++ t) < length (codes "case when " ++ (text_of_pieces (constraint_pieces s (length s.names) c.«when») ++ (codes "\n" ++ (text_of_pieces (lines_of s c) ++ t)))) = omega (arith, length-append (codes "case when ") (g ++ (codes "\n" ++ lines)), length-append g (codes "\n" ++ lines), length-append (codes "\n") lines) in
    subst (λ (x : List ℕ). EntriesEnd x r) (sym (text_split (case_pieces s c) (each (case_pieces s) cs) (codes "end\n" ++ r) ∙ case_text s c t))
    (entry_next (codes "case when " ++ (g ++ (codes "\n" ++ lines))) lines r (case_entry (g ++ (codes "\n" ++ lines)) lines (when_front s (length s.names) c.«when» lines forms.0.0)) short
    (lines_front s (length s.names) c.lines t r forms.0.1 (cases_front s cs r forms.1)))

cases_none : (r : List ℕ) → cases_end (codes "end\n" ++ r) ≡ Ok r
unfolding cases_end
cases_none r = rw (last_opening r) refl

cases_some : (t u r : List ℕ) → opening_at t ≡ Ok (true, u) → entries_end (suc (length u)) u ≡ Ok r → cases_end t ≡ Ok r
unfolding cases_end
cases_some t u r first_byte later = rw first_byte later

pub cases_end_front : (s : Scope) (cs : List CaseDraft) (r : List ℕ) → AllByRecursion IsCaseDraft cs → cases_end (text_of_pieces (each (case_pieces s) cs) ++ (codes "end\n" ++ r)) ≡ Ok r
cases_end_front s [] r forms = cases_none r
cases_end_front s (c ∷ cs) r forms =
    let t : List ℕ = text_of_pieces (each (case_pieces s) cs) ++ (codes "end\n" ++ r) in
    let lines : List ℕ = text_of_pieces (lines_of s c) ++ t in
    let g : List ℕ = text_of_pieces (constraint_pieces s (length s.names) c.«when») in
    ap cases_end (text_split (case_pieces s c) (each (case_pieces s) cs) (codes "end\n" ++ r) ∙ case_text s c t)
    ∙ cases_some (codes "case when " ++ (g ++ (codes "\n" ++ lines))) lines r (case_opening (g ++ (codes "\n" ++ lines)) lines (when_front s (length s.names) c.«when» lines forms.0.0))
    (lines_front s (length s.names) c.lines t r forms.0.1 (cases_front s cs r forms.1) (suc (length lines)) (omega arith))

-- ---- whole results

abbrev pub scope_of : ResultsDraft → Scope
scope_of d = record { names = d.parameters; ordered = d.ordered }

results_is : (t u : List ℕ) → head_end t ≡ Ok u → cases_end u ≡ Ok [] → results_end t ≡ Ok []
unfolding results_end
results_is t u first_byte later = rw (first_byte, later) refl

results_text_is : (t : List ℕ) → results_end t ≡ Ok [] → results_text_end (codes "lois results 1" ++ t) ≡ Ok []
unfolding results_text_end
results_text_is t e = rw e refl

-- the pieces behind the version, and all
abbrev pub results_rest : ResultsDraft → List Piece
results_rest d = head_rest (scope_of d) ++ (each (case_pieces (scope_of d)) d.cases ++ end_piece ∷ [])

pub results_rest_is : (d : ResultsDraft) → results_pieces d ≡ plain (codes "lois results ") ∷ plain (codes "1") ∷ results_rest d
results_rest_is d = append_assoc (plain (codes "lois results ") ∷ plain (codes "1") ∷ head_rest (scope_of d)) (each (case_pieces (scope_of d)) d.cases) (end_piece ∷ [])

pub results_rest_text : (d : ResultsDraft) → text_of_pieces (results_rest d) ≡ text_of_pieces (head_rest (scope_of d)) ++ (text_of_pieces (each (case_pieces (scope_of d)) d.cases) ++ codes "end\n")
results_rest_text d = text_append (head_rest (scope_of d)) (each (case_pieces (scope_of d)) d.cases ++ end_piece ∷ []) ∙ ap (λ (x : List ℕ). text_of_pieces (head_rest (scope_of d)) ++ x) (text_append (each (case_pieces (scope_of d)) d.cases) (end_piece ∷ []))

pub results_front : (d : ResultsDraft) → IsResultsDraft d → results_end (text_of_pieces (results_rest d)) ≡ Ok []
results_front d form =
    let t : List ℕ = text_of_pieces (each (case_pieces (scope_of d)) d.cases) ++ codes "end\n" in
    ap results_end (results_rest_text d) ∙ results_is (text_of_pieces (head_rest (scope_of d)) ++ t) t (head_front (scope_of d) t form.parameters) (cases_end_front (scope_of d) d.cases [] form.cases)

pub results_text_front : (d : ResultsDraft) → IsResultsDraft d → results_text_end (text_of_pieces (results_pieces d)) ≡ Ok []
results_text_front d form = ap (λ (ps : List Piece). results_text_end (text_of_pieces ps)) (results_rest_is d) ∙ results_text_is (text_of_pieces (results_rest d)) (results_front d form)
