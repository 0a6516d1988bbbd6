-- What reading gives on the pieces of results.
use Rattle.std.proofs.Common.{◌≡◌, ℕ, zero, suc, ◌+◌, ◌<◌, Bool, true, false, cond, not, ◌&&◌, ◌==◌, List, [], ◌∷◌, ◌++◌, length, map, Result, Ok, Err, refl, sym, ap, ◌∙◌, append_assoc, arith, length-append}
use Rattle.std.specs.Prelude.{codes, is_ok}
use Rattle.std.specs.List.{AllByRecursion, list_all}
use Rattle.std.proofs.lemmas.List.{append-nil}
use Rattle.std.proofs.lemmas.Bool.{and_parts, false≢true, eqb-true}
use Rattle.lois_lexer.specs.Bytes.{is_word_byte}
use Rattle.lois_lexer.proofs.Forms.{word_bytes}
use Rattle.lois_answers.specs.ResultsData.{LineD, CaseD}
use Rattle.lois_answers.specs.ResultsText.{structure_text}
use Rattle.lois_answers.specs.declared.results.Results.{Results}
use Rattle.lois_reader.specs.declared.scope.Scope.{Scope}
use Rattle.lois_reader.specs.Draft.{LineDraft, CaseDraft, ResultsDraft, IsWord, IsLineDraft, IsCaseDraft, IsResultsDraft}
use Rattle.lois_reader.specs.Pieces.{Piece, plain, ruled, each, is_among, is_unreserved, constraint_pieces, term_pieces, line_end, line_pieces, case_pieces, name_pieces, end_piece, results_pieces}
use Rattle.lois_reader.specs.Shape.{text_of_pieces}
use Rattle.lois_reader.specs.Reading.{◌>>=◌, begins}
use Rattle.lois_reader.specs.Ends.{fixed_end}
use Rattle.lois_reader.specs.Values.{many_at, constraint_at}
use Rattle.lois_reader.specs.TermValues.{term_at}
use Rattle.lois_reader.specs.AnswerValues.{names_at, structure_at, parameters_at, head_at, name_at, line_at, starts_with, line_follows, lines_at, case_at, cases_at, results_at, results_text_at}
use Rattle.lois_reader.proofs.Fronts.{EndsWord, word_front}
use Rattle.lois_reader.proofs.Outcome.{size, size_is, out, bind_out, map_out, part_step, text_split, many_out}
use Rattle.lois_reader.proofs.ConstraintOutcome.{constraint_of, constraint_out}
use Rattle.lois_reader.proofs.TermOutcome.{value_of, term_out}
use Rattle.lois_reader.proofs.AnswerFronts.{name_text, names_end_word, head_rest, head_text, line_closes, line_text, line_longer, lines_of, case_text, scope_of, results_rest, results_rest_is}

-- the values that drafts stand for, where they break no rule
abbrev pub line_of : Scope → ℕ → LineDraft → LineD
line_of s n l = record { name = l.name; term = value_of s l.term }

abbrev pub case_of : Scope → CaseDraft → CaseD
case_of s c = record { «when» = constraint_of s c.«when»; lines = map (line_of s (length s.names)) c.lines }

abbrev pub results_of : ResultsDraft → Results
results_of d = record { order = d.ordered; parameters = d.parameters; cases = map (case_of (scope_of d)) d.cases }

-- ---- names

pub pick : {A : Type 0} (b : Bool) (l m : ℕ) (x y : Result A ℕ) → l ≡ m → x ≡ y → cond b x (Err l) ≡ cond (not b) (Err m) y
pick true l m x y e h = h
pick false l m x y e h = ap (λ (n : ℕ). Err n) e

names_none : (r : List ℕ) (before : List (List ℕ)) (n : ℕ) → begins 32 r ≡ false → names_at (suc n) before r ≡ Ok (before, r)
names_none r before n none = rw none refl

names_next : (before : List (List ℕ)) (w t : List ℕ) (n m : ℕ) (y : Result (List (List ℕ) × List ℕ) ℕ) → IsWord w → EndsWord t → length (w ++ t) ≡ m → names_at n (before ++ w ∷ []) t ≡ y → names_at (suc n) before (codes " " ++ (w ++ t)) ≡ cond (not (is_unreserved w && not (is_among before w))) (Err m) y
names_next before w t n m y form ends l later =
    ap (λ e. e >>= λ x. cond (is_unreserved x.0 && not (is_among before x.0)) (names_at n (before ++ x.0 ∷ []) x.1) (Err (length (w ++ t)))) (word_front w t form ends)
    ∙ pick (is_unreserved w && not (is_among before w)) (length (w ++ t)) m (names_at n (before ++ w ∷ []) t) y l later

names_out : (before ws : List (List ℕ)) (r : List ℕ) (n : ℕ) → AllByRecursion IsWord ws → EndsWord r → begins 32 r ≡ false → length (text_of_pieces (name_pieces before ws) ++ r) < n → names_at n before (text_of_pieces (name_pieces before ws) ++ r) ≡ out (name_pieces before ws) (before ++ ws) r
names_out before ws r zero forms ends none enough = absurd (omega arith)
names_out before [] r (suc n) forms ends none enough = names_none r before n none ∙ ap (λ (x : List (List ℕ)). Ok (x, r)) (sym (append-nil before))
names_out before (w ∷ ws) r (suc n) forms ends none enough =
    let after : List (List ℕ) = before ++ w ∷ [] in
    let t : List ℕ = text_of_pieces (name_pieces (before ++ w ∷ []) ws) ++ r in
    let short : length (text_of_pieces (name_pieces (before ++ w ∷ []) ws) ++ r) < n = omega (arith, ap length (name_text before w ws r), length-append (codes " ") (w ++ t), length-append w t) in
    let left : length (w ++ (text_of_pieces (name_pieces (before ++ w ∷ []) ws) ++ r)) ≡ length w + (size (name_pieces (before ++ w ∷ []) ws) + length r) = omega (arith, length-append w t, length-append (text_of_pieces (name_pieces after ws)) r, size_is (name_pieces after ws)) in
    ap (names_at (suc n) before) (name_text before w ws r)
    ∙ names_next before w t n (length w + (size (name_pieces after ws) + length r)) (out (name_pieces after ws) (before ++ w ∷ ws) r) forms.0 (names_end_word after ws r ends) left
    (names_out after ws r n forms.1 ends none short ∙ ap (λ (x : List (List ℕ)). out (name_pieces after ws) x r) (append_assoc before (w ∷ []) ws))

parameters_is : (t : List ℕ) → parameters_at (codes "parameters" ++ t) ≡ names_at (suc (length t)) [] t
unfolding parameters_at
parameters_is t = refl

-- ---- the head

head_at_is : (o : Bool) (t : List ℕ) (x : Result (List (List ℕ) × List ℕ) ℕ) → parameters_at t ≡ x → head_at (codes "\n" ++ (structure_text o ++ t)) ≡ (x >>= λ names. fixed_end (codes "\n") names.1 >>= λ rest. Ok (record { names = names.0; ordered = o }, rest))
unfolding head_at structure_at
head_at_is true t x e = rw e refl
head_at_is false t x e = rw e refl

pub head_out : (s : Scope) (r : List ℕ) → AllByRecursion IsWord s.names → head_at (text_of_pieces (head_rest s) ++ r) ≡ out (head_rest s) s r
head_out s r forms =
    let names : List Piece = name_pieces [] s.names in
    let q : List ℕ = codes "\n" ++ r in
    let close : List Piece = line_end ∷ [] in
    let behind : List (List ℕ) × List ℕ → Result (Scope × List ℕ) ℕ = λ x. fixed_end (codes "\n") x.1 >>= λ rest. Ok (record { names = x.0; ordered = s.ordered }, rest) in
    let named : parameters_at (codes "parameters" ++ (text_of_pieces (name_pieces [] s.names) ++ (codes "\n" ++ r))) ≡ out (name_pieces [] s.names) s.names (codes "\n" ++ r) =
    parameters_is (text_of_pieces names ++ q) ∙ names_out [] s.names q (suc (length (text_of_pieces names ++ q))) forms refl refl (omega arith) in
    ap head_at (head_text s r)
    ∙ head_at_is s.ordered (codes "parameters" ++ (text_of_pieces names ++ q)) (out names s.names q) named
    ∙ bind_out names close s.names s r behind refl

-- ---- lines

name_is : (w t : List ℕ) → IsWord w → EndsWord t → name_at (w ++ t) ≡ cond (is_unreserved w) (Ok (w, t)) (Err (length (w ++ t)))
unfolding name_at
name_is w t form ends = rw (word_front w t form ends) refl

name_out : (w t : List ℕ) → IsWord w → EndsWord t → name_at (w ++ t) ≡ out (ruled (is_unreserved w) w ∷ []) w t
name_out w t form ends = name_is w t form ends ∙ pick (is_unreserved w) (length (w ++ t)) (length w + (0 + length t)) (Ok (w, t)) (Ok (w, t)) (omega (arith, length-append w t)) refl

line_at_is : (s : Scope) (n : ℕ) (u : List ℕ) → line_at s n u ≡ (name_at u >>= λ name. fixed_end (codes " = ") name.1 >>= λ after. term_at 64 s n after >>= λ term. fixed_end (codes "\n") term.1 >>= λ rest. Ok (record { name = name.0; term = term.0 }, rest))
unfolding line_at
line_at_is s n u = refl

pub line_out : (s : Scope) (n : ℕ) (l : LineDraft) (r : List ℕ) → IsLineDraft l → line_at s n (text_of_pieces (line_pieces s n l) ++ r) ≡ out (line_pieces s n l) (line_of s n l) r
line_out s n l r form =
    let term : List Piece = term_pieces s n l.term in
    let close : List Piece = line_end ∷ [] in
    let rest : List Piece = plain (codes " = ") ∷ (term ++ close) in
    let name : Piece = ruled (is_unreserved l.name) l.name in
    let made : LineD = line_of s n l in
    let split : text_of_pieces (line_pieces s n l) ++ r ≡ l.name ++ (text_of_pieces (plain (codes " = ") ∷ (term_pieces s n l.term ++ line_end ∷ [])) ++ r) = append_assoc l.name (text_of_pieces rest) r in
    let behind : List ℕ × List ℕ → Result (LineD × List ℕ) ℕ = λ x. fixed_end (codes " = ") x.1 >>= λ after. term_at 64 s n after >>= λ y. fixed_end (codes "\n") y.1 >>= λ q. Ok (record { name = x.0; term = y.0 }, q) in
    let later : behind (l.name, text_of_pieces (plain (codes " = ") ∷ (term_pieces s n l.term ++ line_end ∷ [])) ++ r) ≡ out (plain (codes " = ") ∷ (term_pieces s n l.term ++ line_end ∷ [])) (line_of s n l) r =
    part_step (term_at 64 s n) term close (value_of s l.term) made r (λ y. fixed_end (codes "\n") y.1 >>= λ q. Ok (record { name = l.name; term = y.0 }, q)) (term_out 64 s n l.term (codes "\n" ++ r) form.1 refl) refl in
    line_at_is s n (text_of_pieces (line_pieces s n l) ++ r)
    ∙ ap (λ (x : List ℕ). name_at x >>= behind) split
    ∙ ap (λ x. x >>= behind) (name_out l.name (text_of_pieces rest ++ r) form.0 refl)
    ∙ bind_out (name ∷ []) rest l.name made r behind later

-- which line follows
skips : (c b : ℕ) (cs t : List ℕ) → is_ok (fixed_end cs t) ≡ false → is_ok (fixed_end (c ∷ cs) (b ∷ t)) ≡ false
skips c b cs t e = elim (b == c) as (λ x. is_ok (cond x (fixed_end cs t) (Err (suc (length t)))) ≡ false) [ true ↦ e | false ↦ refl ]

differs : (c b : ℕ) (cs t : List ℕ) → (b == c) ≡ false → is_ok (fixed_end (c ∷ cs) (b ∷ t)) ≡ false
differs c b cs t e = rw e refl

no_blank : (b c : ℕ) → is_word_byte b ≡ true → is_word_byte c ≡ false → (b == c) ≡ false
no_blank b c h none =
    elim (b == c) as (λ x. (b == c) ≡ x → x ≡ false) [
      | true ↦ λ e. absurd (false≢true (sym none ∙ ap is_word_byte (sym (eqb-true b c e)) ∙ h))
      | false ↦ λ e. refl
    ] refl

after_byte : (b : ℕ) (bs : List ℕ) → list_all is_word_byte (b ∷ bs) ≡ true → (is_word_byte b ≡ true) × (list_all is_word_byte bs ≡ true)
after_byte b bs h = and_parts (is_word_byte b) (list_all is_word_byte bs) h

no_end : (w t : List ℕ) → list_all is_word_byte w ≡ true → is_ok (fixed_end (codes "end\n") (w ++ (codes " = " ++ t))) ≡ false
no_end [] t h = refl
no_end (a ∷ []) t h = skips 101 a (codes "nd\n") (codes " = " ++ t) refl
no_end (a ∷ b ∷ []) t h = skips 101 a (codes "nd\n") (b ∷ (codes " = " ++ t)) (skips 110 b (codes "d\n") (codes " = " ++ t) refl)
no_end (a ∷ b ∷ c ∷ []) t h = skips 101 a (codes "nd\n") (b ∷ c ∷ (codes " = " ++ t)) (skips 110 b (codes "d\n") (c ∷ (codes " = " ++ t)) (skips 100 c (codes "\n") (codes " = " ++ t) refl))
no_end (a ∷ b ∷ c ∷ d ∷ w) t h =
    let u : List ℕ = w ++ (codes " = " ++ t) in
    let word_byte : is_word_byte d ≡ true = (after_byte d w (after_byte c (d ∷ w) (after_byte b (c ∷ d ∷ w) (after_byte a (b ∷ c ∷ d ∷ w) h).1).1).1).0 in
    skips 101 a (codes "nd\n") (b ∷ c ∷ d ∷ u) (skips 110 b (codes "d\n") (c ∷ d ∷ u) (skips 100 c (codes "\n") (d ∷ u) (differs 10 d [] u (no_blank d 10 word_byte refl))))

no_case : (w t : List ℕ) → list_all is_word_byte w ≡ true → is_ok (fixed_end (codes "case when ") (w ++ (codes " = " ++ t))) ≡ false
no_case [] t h = refl
no_case (a ∷ []) t h = skips 99 a (codes "ase when ") (codes " = " ++ t) refl
no_case (a ∷ b ∷ []) t h = skips 99 a (codes "ase when ") (b ∷ (codes " = " ++ t)) (skips 97 b (codes "se when ") (codes " = " ++ t) refl)
no_case (a ∷ b ∷ c ∷ []) t h = skips 99 a (codes "ase when ") (b ∷ c ∷ (codes " = " ++ t)) (skips 97 b (codes "se when ") (c ∷ (codes " = " ++ t)) (skips 115 c (codes "e when ") (codes " = " ++ t) refl))
no_case (a ∷ b ∷ c ∷ d ∷ []) t h = skips 99 a (codes "ase when ") (b ∷ c ∷ d ∷ (codes " = " ++ t)) (skips 97 b (codes "se when ") (c ∷ d ∷ (codes " = " ++ t)) (skips 115 c (codes "e when ") (d ∷ (codes " = " ++ t)) (skips 101 d (codes " when ") (codes " = " ++ t) refl)))
no_case (a ∷ b ∷ c ∷ d ∷ e ∷ w) t h =
    let u : List ℕ = w ++ (codes " = " ++ t) in
    let word_byte : is_word_byte e ≡ true = (after_byte e w (after_byte d (e ∷ w) (after_byte c (d ∷ e ∷ w) (after_byte b (c ∷ d ∷ e ∷ w) (after_byte a (b ∷ c ∷ d ∷ e ∷ w) h).1).1).1).1).0 in
    skips 99 a (codes "ase when ") (b ∷ c ∷ d ∷ e ∷ u) (skips 97 b (codes "se when ") (c ∷ d ∷ e ∷ u) (skips 115 c (codes "e when ") (d ∷ e ∷ u) (skips 101 d (codes " when ") (e ∷ u) (differs 32 e (codes "when ") u (no_blank e 32 word_byte refl)))))

follows_is : (u : List ℕ) → starts_with (codes "end\n") u ≡ false → starts_with (codes "case when ") u ≡ false → line_follows u ≡ true
unfolding line_follows
follows_is u e f = rw (e, f) refl

line_goes : (s : Scope) (n : ℕ) (l : LineDraft) (r : List ℕ) → IsLineDraft l → line_follows (text_of_pieces (line_pieces s n l) ++ r) ≡ true
line_goes s n l r form =
    let t : List ℕ = text_of_pieces (term_pieces s n l.term) ++ (codes "\n" ++ r) in
    let bytes : list_all is_word_byte l.name ≡ true = word_bytes l.name form.0 in
    ap line_follows (line_text s n l r) ∙ follows_is (l.name ++ (codes " = " ++ t)) (no_end l.name t bytes) (no_case l.name t bytes)

-- no line follows: the next case, or the end
abbrev pub EndsLines : List ℕ → Type 0
EndsLines r = line_follows r ≡ false

end_ends : (r : List ℕ) → EndsLines (codes "end\n" ++ r)
unfolding line_follows
end_ends r = refl

case_ends_lines : (r : List ℕ) → EndsLines (codes "case when " ++ r)
unfolding line_follows
case_ends_lines r = refl

pub each_enough : {A : Type 0} (pieces : A → List Piece) (longer : (x : A) (r : List ℕ) → length r < length (text_of_pieces (pieces x) ++ r)) (xs : List A) (r : List ℕ) → length xs < suc (length (text_of_pieces (each pieces xs) ++ r))
each_enough pieces longer [] r = omega arith
each_enough pieces longer (x ∷ xs) r = omega (arith, ap length (text_split (pieces x) (each pieces xs) r), longer x (text_of_pieces (each pieces xs) ++ r), each_enough pieces longer xs r)

lines_is : (s : Scope) (n : ℕ) (u : List ℕ) → lines_at s n u ≡ many_at line_follows (line_at s n) (suc (length u)) u
unfolding lines_at
lines_is s n u = refl

lines_out : (s : Scope) (n : ℕ) (ls : List LineDraft) (r : List ℕ) → AllByRecursion IsLineDraft ls → EndsLines r → lines_at s n (text_of_pieces (each (line_pieces s n) ls) ++ r) ≡ out (each (line_pieces s n) ls) (map (line_of s n) ls) r
lines_out s n ls r forms ends =
    lines_is s n (text_of_pieces (each (line_pieces s n) ls) ++ r)
    ∙ many_out line_follows (line_at s n) (line_pieces s n) (line_of s n) IsLineDraft (λ t. Unit {0})
    (λ x good t any. line_out s n x t good) (λ x good t any. line_goes s n x t good) (λ x good t any. tt) ls (suc (length (text_of_pieces (each (line_pieces s n) ls) ++ r))) r
    (each_enough (line_pieces s n) (line_longer s n) ls r) forms tt ends

-- ---- cases

case_at_is : (s : Scope) (u : List ℕ) → case_at s u ≡ (fixed_end (codes "case when ") u >>= λ after. constraint_at s (length s.names) after >>= λ guard. fixed_end (codes "\n") guard.1 >>= λ inside. lines_at s (length s.names) inside >>= λ lines. Ok (record { «when» = guard.0; lines = lines.0 }, lines.1))
unfolding case_at
case_at_is s u = refl

case_out : (s : Scope) (c : CaseDraft) (r : List ℕ) → IsCaseDraft c → EndsLines r → case_at s (text_of_pieces (case_pieces s c) ++ r) ≡ out (case_pieces s c) (case_of s c) r
case_out s c r form ends =
    let n : ℕ = length s.names in
    let guard : List Piece = constraint_pieces s n c.«when» in
    let lines : List Piece = lines_of s c in
    let made : CaseD = case_of s c in
    let behind : List (List _) × List ℕ → Result (CaseD × List ℕ) ℕ = λ g. fixed_end (codes "\n") g.1 >>= λ inside. lines_at s n inside >>= λ ls. Ok (record { «when» = g.0; lines = ls.0 }, ls.1) in
    let later : behind (constraint_of s c.«when», text_of_pieces (line_end ∷ lines_of s c) ++ r) ≡ out (line_end ∷ lines_of s c) (case_of s c) r =
    ap (λ e. e >>= λ ls. Ok (record { «when» = constraint_of s c.«when»; lines = ls.0 }, ls.1)) (lines_out s n c.lines r form.1 ends)
    ∙ map_out lines (map (line_of s n) c.lines) r (λ (ls : List LineD). let x : CaseD = record { «when» = constraint_of s c.«when»; lines = ls } in x) in
    case_at_is s (text_of_pieces (case_pieces s c) ++ r)
    ∙ part_step (constraint_at s n) guard (line_end ∷ lines) (constraint_of s c.«when») made r behind (constraint_out s n c.«when» form.0 (text_of_pieces (line_end ∷ lines) ++ r) (line_closes (text_of_pieces lines ++ r))) later

case_longer : (s : Scope) (c : CaseDraft) (r : List ℕ) → length r < length (text_of_pieces (case_pieces s c) ++ r)
case_longer s c r =
    let g : List ℕ = text_of_pieces (constraint_pieces s (length s.names) c.«when») in
    let t : List ℕ = text_of_pieces (lines_of s c) ++ r in
    omega (arith, ap length (case_text s c r), length-append (codes "case when ") (g ++ (codes "\n" ++ t)), length-append g (codes "\n" ++ t), length-append (codes "\n") t, length-append (text_of_pieces (lines_of s c)) r)

cases_is : (s : Scope) (u : List ℕ) → cases_at s u ≡ many_at (begins 99) (case_at s) (suc (length u)) u
unfolding cases_at
cases_is s u = refl

cases_out : (s : Scope) (cs : List CaseDraft) (r : List ℕ) → AllByRecursion IsCaseDraft cs → EndsLines r → begins 99 r ≡ false → cases_at s (text_of_pieces (each (case_pieces s) cs) ++ r) ≡ out (each (case_pieces s) cs) (map (case_of s) cs) r
cases_out s cs r forms ends none =
    cases_is s (text_of_pieces (each (case_pieces s) cs) ++ r)
    ∙ many_out (begins 99) (case_at s) (case_pieces s) (case_of s) IsCaseDraft EndsLines
    (λ x good t ends_t. case_out s x t good ends_t) (λ x good t ends_t. refl) (λ x good t ends_t. rw (case_text s x t) (case_ends_lines (text_of_pieces (constraint_pieces s (length s.names) x.«when») ++ (codes "\n" ++ (text_of_pieces (lines_of s x) ++ t))))) cs (suc (length (text_of_pieces (each (case_pieces s) cs) ++ r))) r
    (each_enough (case_pieces s) (case_longer s) cs r) forms ends none

-- ---- results

results_at_is : (u : List ℕ) → results_at u ≡ (head_at u >>= λ scope. cases_at scope.0 scope.1 >>= λ cases. fixed_end (codes "end\n") cases.1 >>= λ rest. Ok (record { order = scope.0.ordered; parameters = scope.0.names; cases = cases.0 }, rest))
unfolding results_at
results_at_is u = refl

pub results_out : (d : ResultsDraft) → IsResultsDraft d → results_at (text_of_pieces (results_rest d)) ≡ out (results_rest d) (results_of d) []
results_out d form =
    let s : Scope = scope_of d in
    let cases : List Piece = each (case_pieces (scope_of d)) d.cases in
    let close : List Piece = end_piece ∷ [] in
    let behind : Scope × List ℕ → Result (Results × List ℕ) ℕ = λ x. cases_at x.0 x.1 >>= λ cs. fixed_end (codes "end\n") cs.1 >>= λ q. Ok (record { order = x.0.ordered; parameters = x.0.names; cases = cs.0 }, q) in
    let later : behind (scope_of d, text_of_pieces (each (case_pieces (scope_of d)) d.cases ++ end_piece ∷ []) ++ []) ≡ out (each (case_pieces (scope_of d)) d.cases ++ end_piece ∷ []) (results_of d) [] =
    part_step (cases_at s) cases close (map (case_of s) d.cases) (results_of d) [] (λ cs. fixed_end (codes "end\n") cs.1 >>= λ q. Ok (record { order = d.ordered; parameters = d.parameters; cases = cs.0 }, q)) (cases_out s d.cases (codes "end\n") form.cases (end_ends []) refl) refl in
    ap results_at (sym (append-nil (text_of_pieces (results_rest d))))
    ∙ results_at_is (text_of_pieces (results_rest d) ++ [])
    ∙ part_step head_at (head_rest s) (cases ++ close) s (results_of d) [] behind (head_out s (text_of_pieces (cases ++ close) ++ []) form.parameters) later

results_text_is : (t : List ℕ) → results_text_at (codes "lois results 1" ++ t) ≡ (results_at t >>= λ x. Ok x.0)
unfolding results_text_at
results_text_is t = refl

pub results_text_out : (d : ResultsDraft) → IsResultsDraft d → results_text_at (text_of_pieces (results_pieces d)) ≡ (out (results_pieces d) (results_of d) [] >>= λ x. Ok x.0)
results_text_out d form =
    ap (λ (ps : List Piece). results_text_at (text_of_pieces ps)) (results_rest_is d)
    ∙ results_text_is (text_of_pieces (results_rest d))
    ∙ ap (λ e. e >>= λ x. Ok x.0) (results_out d form)
    ∙ ap (λ (ps : List Piece). out ps (results_of d) [] >>= λ x. Ok x.0) (sym (results_rest_is d))
