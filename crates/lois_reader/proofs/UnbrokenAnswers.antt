-- A draft that breaks no rule is the draft of the value that it stands for, and that is sound: lines, results and traces.
use Rattle.std.proofs.Common.{◌≡◌, ℕ, zero, suc, ◌+◌, ◌^◌, ◌<◌, ◌≤◌, true, false, not, ◌&&◌, List, [], ◌∷◌, ◌++◌, length, map, get_or, refl, sym, ap, subst, ◌∙◌, arith}
use Rattle.std.specs.Prelude.{codes, bytes_eq, nat_le, nat_lt}
use Rattle.std.specs.Fmt.{decimal}
use Rattle.std.specs.List.{All, AllByRecursion}
use Rattle.std.proofs.lemmas.Bool.{and_parts, false≢true, not-false, not-true, or_parts}
use Rattle.std.proofs.lemmas.Bool.Decides.{nat_tests}
use Rattle.std.proofs.lemmas.List.Elements.{All-from_recursion}
use Rattle.std.proofs.lemmas.Slice.Eq.{bytes_eq-Decides}
use Rattle.lois_lexer.specs.Words.{reserved}
use Rattle.lois_answers.specs.Sound.{IsFreeName, IsSoundLine, AreDistinct, AreParameters, IsSoundCase, IsSound, IsPlaceNumber, IsSoundTrace}
use Rattle.lois_reader.specs.declared.scope.Scope.{Scope}
use Rattle.lois_reader.specs.Draft.{ConstraintDraft, TermDraft, LineDraft, CaseDraft, ResultsDraft, TraceDraft, IsWord, IsNumber, IsLineDraft, IsCaseDraft, IsResultsDraft, IsTraceDraft}
use Rattle.lois_reader.specs.Pieces.{Piece, plain, ruled, each, value, is_among, is_unreserved, constraint_pieces, term_pieces, line_end, line_pieces, case_pieces, name_pieces, end_piece, results_pieces, failure_pieces, trace_pieces}
use Rattle.lois_reader.proofs.Forms.{is_among_iff, word_is_name}
use Rattle.lois_reader.proofs.Outcome.{size, size_append}
use Rattle.lois_reader.proofs.AnswerFronts.{head_rest, lines_of, scope_of, results_rest, results_rest_is}
use Rattle.lois_reader.proofs.AnswerOutcome.{line_of, case_of, results_of}
use Rattle.lois_reader.proofs.TraceFronts.{trace_scope, number_pieces, choice_line, element_pieces, elements_of, trace_rest, trace_rest_is, trace_of, length_map}
use Rattle.lois_reader.proofs.DraftOf.{Unbroken, unbroken_append}
use Rattle.lois_reader.proofs.ResultsBack.{line_draft, case_draft, results_draft, among_append}
use Rattle.lois_reader.proofs.TraceBack.{trace_draft}
use Rattle.lois_reader.proofs.Unbroken.{unbroken_split, digits_of_value, Room, le_back, ConstraintGood, constraint_good, TermGood, term_good}

-- ---- names

free_name : (w : List ℕ) → IsWord w → is_unreserved w ≡ true → IsFreeName w
free_name w form free =
    let parts = and_parts (nat_le (length w) 64) (not (is_among reserved w)) free in
    let none : is_among reserved w ≡ false = not-true (is_among reserved w) parts.1 in
    record {
      form = word_is_name w form (short (length w) parts.0);
      free = λ h. false≢true (sym none ∙ (is_among_iff reserved w).1 h);
    }
  where
    short : (n : ℕ) → nat_le n 64 ≡ true → n ≤ 64
    short n h = grind (arith, nat_tests)

-- no name is among those before it
names_new : (before ws : List (List ℕ)) → Unbroken (name_pieces before ws) → AllByRecursion (λ x. is_among before x ≡ false) ws
names_new before [] whole = tt
names_new before (w ∷ ws) whole =
    let parts = and_parts (is_unreserved w) (not (is_among before w)) (not-false (is_unreserved w && not (is_among before w)) whole.1.0) in
    (not-true (is_among before w) parts.1, fewer ws (names_new (before ++ w ∷ []) ws whole.1.1))
  where
    fewer : (xs : List (List ℕ)) → AllByRecursion (λ x. is_among (before ++ w ∷ []) x ≡ false) xs → AllByRecursion (λ x. is_among before x ≡ false) xs
    fewer [] h = tt
    fewer (x ∷ xs) h = ((or_parts (is_among before x) (bytes_eq x w) (sym (among_append before w x) ∙ h.0)).0, fewer xs h.1)

-- a name isn't among those that differ from it
not_at : (before ws : List (List ℕ)) (w : List ℕ) → AllByRecursion (λ x. is_among (before ++ w ∷ []) x ≡ false) ws → (i : ℕ) → i < length ws → get_or ws i w ≡ w → ⊥
not_at before [] w h i lt e = omega arith
not_at before (x ∷ xs) w h zero lt e =
    let parts = or_parts (is_among before x) (bytes_eq x w) (sym (among_append before w x) ∙ h.0) in
    false≢true (sym parts.1 ∙ (bytes_eq-Decides x w).1 e)
not_at before (x ∷ xs) w h (suc i) lt e = not_at before xs w h.1 i (omega arith) e

record NamesGood (ws : List (List ℕ)) : Type 0 where
  pub free : AllByRecursion IsFreeName ws
  pub distinct : AreDistinct ws

names_good : (before ws : List (List ℕ)) → AllByRecursion IsWord ws → Unbroken (name_pieces before ws) → NamesGood ws
names_good before [] forms whole = record { free = tt; distinct = tt }
names_good before (w ∷ ws) forms whole =
    let parts = and_parts (is_unreserved w) (not (is_among before w)) (not-false (is_unreserved w && not (is_among before w)) whole.1.0) in
    let later = names_good (before ++ w ∷ []) ws forms.1 whole.1.1 in
    record {
      free = (free_name w forms.0 parts.0, later.free);
      distinct = (λ k. not_at before ws w (names_new (before ++ w ∷ []) ws whole.1.1) k.0 k.1 k.2, later.distinct);
    }

pub parameters_good : (ws : List (List ℕ)) → AllByRecursion IsWord ws → Unbroken (name_pieces [] ws) → AreParameters ws
parameters_good ws forms whole =
    let h = names_good [] ws forms whole in
    record { free = All-from_recursion IsFreeName ws h.free; distinct = h.distinct }

names_size : (before ws : List (List ℕ)) → length ws ≤ size (name_pieces before ws)
names_size before [] = omega arith
names_size before (w ∷ ws) = omega (arith, names_size (before ++ w ∷ []) ws)

-- ---- lines

pub record LineGood (s : Scope) (n : ℕ) (l : LineDraft) : Type 0 where
  pub sound : IsSoundLine s.ordered n (line_of s n l)
  pub same : line_draft s.names n (line_of s n l) ≡ l

line_of_good : (s : Scope) (n : ℕ) (l : LineDraft) → IsFreeName l.name → TermGood s n 64 l.term → LineGood s n l
line_of_good s n l name h = record {
  sound = record { name = name; term = record { levels = h.fits; tags = h.tags; widths = h.widths; operators = h.admits; strict = h.strict; brackets = h.deep } };
  same = ap (λ (t : TermDraft). let x : LineDraft = record { name = l.name; term = t } in x) h.same;
}

pub line_good : (s : Scope) (n : ℕ) (l : LineDraft) → Room s n → IsLineDraft l → Unbroken (line_pieces s n l) → n + size (line_pieces s n l) < 2 ^ 64 → LineGood s n l
line_good s n l room form whole short =
    let r = unbroken_split (term_pieces s n l.term) (line_end ∷ []) whole.1.1 in
    line_of_good s n l (free_name l.name form.0 (not-false (is_unreserved l.name) whole.0))
    (term_good s n 64 l.term room form.1 r.0 (omega (arith, size_append (term_pieces s n l.term) (line_end ∷ []))))

record LinesGood (s : Scope) (n : ℕ) (ls : List LineDraft) : Type 0 where
  pub sound : AllByRecursion (IsSoundLine s.ordered n) (map (line_of s n) ls)
  pub same : map (line_draft s.names n) (map (line_of s n) ls) ≡ ls

add_line : (s : Scope) (n : ℕ) (l : LineDraft) (ls : List LineDraft) → LineGood s n l → LinesGood s n ls → LinesGood s n (l ∷ ls)
add_line s n l ls a b = record {
  sound = (a.sound, b.sound);
  same = ap (λ (x : LineDraft). x ∷ map (line_draft s.names n) (map (line_of s n) ls)) a.same ∙ ap (λ (xs : List LineDraft). l ∷ xs) b.same;
}

lines_good : (s : Scope) (n : ℕ) (ls : List LineDraft) → Room s n → AllByRecursion IsLineDraft ls → Unbroken (each (line_pieces s n) ls) → n + size (each (line_pieces s n) ls) < 2 ^ 64 → LinesGood s n ls
lines_good s n [] room forms whole short = record { sound = tt; same = refl }
lines_good s n (l ∷ ls) room forms whole short =
    let r = unbroken_split (line_pieces s n l) (each (line_pieces s n) ls) whole in
    let all = size_append (line_pieces s n l) (each (line_pieces s n) ls) in
    add_line s n l ls (line_good s n l room forms.0 r.0 (omega arith)) (lines_good s n ls room forms.1 r.1 (omega arith))

-- ---- cases and results

record CaseGood (s : Scope) (c : CaseDraft) : Type 0 where
  pub sound : IsSoundCase s.ordered (length s.names) (case_of s c)
  pub same : case_draft s.names (case_of s c) ≡ c

case_of_good : (s : Scope) (c : CaseDraft) → ConstraintGood s (length s.names) c.«when» → LinesGood s (length s.names) c.lines → CaseGood s c
case_of_good s c a b = record {
  sound = record { levels = a.fits; operators = a.admits; strict = a.strict; lines = All-from_recursion (IsSoundLine s.ordered (length s.names)) (map (line_of s (length s.names)) c.lines) b.sound };
  same = ap (λ (g : ConstraintDraft). let x : CaseDraft = record { «when» = g; lines = map (line_draft s.names (length s.names)) (map (line_of s (length s.names)) c.lines) } in x) a.same
      ∙ ap (λ (ls : List LineDraft). let x : CaseDraft = record { «when» = c.«when»; lines = ls } in x) b.same;
}

case_good : (s : Scope) (c : CaseDraft) → Room s (length s.names) → IsCaseDraft c → Unbroken (case_pieces s c) → length s.names + size (case_pieces s c) < 2 ^ 64 → CaseGood s c
case_good s c room form whole short =
    let n : ℕ = length s.names in
    let r = unbroken_split (constraint_pieces s n c.«when») (line_end ∷ lines_of s c) whole.1 in
    let all : size (constraint_pieces s (length s.names) c.«when» ++ (line_end ∷ lines_of s c)) ≡ size (constraint_pieces s (length s.names) c.«when») + size (line_end ∷ lines_of s c) = size_append (constraint_pieces s n c.«when») (line_end ∷ lines_of s c) in
    case_of_good s c (constraint_good s n c.«when» form.0 room r.0) (lines_good s n c.lines room form.1 r.1.1 (omega arith))

record CasesGood (s : Scope) (cs : List CaseDraft) : Type 0 where
  pub sound : AllByRecursion (IsSoundCase s.ordered (length s.names)) (map (case_of s) cs)
  pub same : map (case_draft s.names) (map (case_of s) cs) ≡ cs

add_case : (s : Scope) (c : CaseDraft) (cs : List CaseDraft) → CaseGood s c → CasesGood s cs → CasesGood s (c ∷ cs)
add_case s c cs a b = record {
  sound = (a.sound, b.sound);
  same = ap (λ (x : CaseDraft). x ∷ map (case_draft s.names) (map (case_of s) cs)) a.same ∙ ap (λ (xs : List CaseDraft). c ∷ xs) b.same;
}

cases_good : (s : Scope) (cs : List CaseDraft) → Room s (length s.names) → AllByRecursion IsCaseDraft cs → Unbroken (each (case_pieces s) cs) → length s.names + size (each (case_pieces s) cs) < 2 ^ 64 → CasesGood s cs
cases_good s [] room forms whole short = record { sound = tt; same = refl }
cases_good s (c ∷ cs) room forms whole short =
    let r = unbroken_split (case_pieces s c) (each (case_pieces s) cs) whole in
    let all = size_append (case_pieces s c) (each (case_pieces s) cs) in
    add_case s c cs (case_good s c room forms.0 r.0 (omega arith)) (cases_good s cs room forms.1 r.1 (omega arith))

pub record ResultsGood (d : ResultsDraft) : Type 0 where
  pub sound : IsSound (results_of d)
  pub same : results_draft (results_of d) ≡ d

results_of_good : (d : ResultsDraft) → AreParameters d.parameters → CasesGood (scope_of d) d.cases → ResultsGood d
results_of_good d names h = record {
  sound = record { parameters = names; cases = All-from_recursion (IsSoundCase d.ordered (length d.parameters)) (map (case_of (scope_of d)) d.cases) h.sound };
  same = ap (λ (cs : List CaseDraft). let x : ResultsDraft = record { ordered = d.ordered; parameters = d.parameters; cases = cs } in x) h.same;
}

-- the head
head_good : (s : Scope) → AllByRecursion IsWord s.names → Unbroken (head_rest s) → AreParameters s.names
head_good s forms whole = parameters_good s.names forms (unbroken_split (name_pieces [] s.names) (line_end ∷ []) whole.1.1.1).0

head_size : (s : Scope) → length s.names ≤ size (head_rest s)
head_size s = omega (arith, names_size [] s.names, size_append (name_pieces [] s.names) (line_end ∷ []))

pub results_good : (d : ResultsDraft) → IsResultsDraft d → Unbroken (results_pieces d) → size (results_pieces d) < 2 ^ 64 → ResultsGood d
results_good d form whole short =
    let s : Scope = scope_of d in
    let rest : Unbroken (plain (codes "lois results ") ∷ plain (codes "1") ∷ results_rest d) = subst Unbroken (results_rest_is d) whole in
    let r = unbroken_split (head_rest s) (each (case_pieces s) d.cases ++ end_piece ∷ []) rest.1.1 in
    let q = unbroken_split (each (case_pieces s) d.cases) (end_piece ∷ []) r.1 in
    let names : length d.parameters ≤ size (head_rest (scope_of d)) = head_size s in
    let all : size (results_rest d) ≡ size (head_rest (scope_of d)) + size (each (case_pieces (scope_of d)) d.cases ++ end_piece ∷ []) = size_append (head_rest s) (each (case_pieces s) d.cases ++ end_piece ∷ []) in
    let cases : size (each (case_pieces (scope_of d)) d.cases ++ end_piece ∷ []) ≡ size (each (case_pieces (scope_of d)) d.cases) + size (end_piece ∷ []) = size_append (each (case_pieces s) d.cases) (end_piece ∷ []) in
    let below : size (plain (codes "lois results ") ∷ plain (codes "1") ∷ results_rest d) < 2 ^ 64 = subst (λ (ps : List Piece). size ps < 2 ^ 64) (results_rest_is d) short in
    results_of_good d (head_good s form.parameters r.0)
    (cases_good s d.cases (record { named = omega arith; small = omega arith }) form.cases q.0 (omega arith))

-- ---- traces

place_tests : (v : ℕ) → not (nat_le 1 v && nat_le v 1048577) ≡ false → IsPlaceNumber v
place_tests v h = (grind (arith, nat_tests), grind (arith, nat_tests))

place_digits : (ds : List ℕ) → IsNumber ds → IsPlaceNumber (value ds) → decimal (value ds) ≡ ds
place_digits ds form place =
    let le : value ds ≤ 1048577 = place.1 in
    let lt : value ds < 2 ^ 64 = omega arith in
    digits_of_value ds form lt

lt_back : (a b : ℕ) → not (nat_lt a b) ≡ false → a < b
lt_back a b h = grind (arith, nat_tests)

record NumbersGood (choice : List (List ℕ)) : Type 0 where
  pub fits : AllByRecursion (λ a. a < 2 ^ 64) (map value choice)
  pub same : map decimal (map value choice) ≡ choice

numbers_good : (choice : List (List ℕ)) → AllByRecursion IsNumber choice → Unbroken (each number_pieces choice) → NumbersGood choice
numbers_good [] forms whole = record { fits = tt; same = refl }
numbers_good (ds ∷ choice) forms whole =
    let lt : value ds < 2 ^ 64 = lt_back (value ds) (2 ^ 64) whole.1.0 in
    let later = numbers_good choice forms.1 whole.1.1 in
    record {
      fits = (lt, later.fits);
      same = ap (λ (x : List ℕ). x ∷ map decimal (map value choice)) (digits_of_value ds forms.0 lt) ∙ ap (λ (xs : List (List ℕ)). ds ∷ xs) later.same;
    }

numbers_size : (choice : List (List ℕ)) → length choice ≤ size (each number_pieces choice)
numbers_size [] = omega arith
numbers_size (ds ∷ choice) = omega (arith, numbers_size choice)

-- an element is `for ` and a line
elements_lines : (s : Scope) (n : ℕ) (ls : List LineDraft) → Unbroken (each (element_pieces s n) ls) → Unbroken (each (line_pieces s n) ls) × (size (each (line_pieces s n) ls) ≤ size (each (element_pieces s n) ls))
elements_lines s n [] whole = (tt, omega arith)
elements_lines s n (l ∷ ls) whole =
    let r = unbroken_split (line_pieces s n l) (each (element_pieces s n) ls) whole.1 in
    let later = elements_lines s n ls r.1 in (
      unbroken_append (line_pieces s n l) (each (line_pieces s n) ls) r.0 later.0,
      omega (arith, later.1, size_append (line_pieces s n l) (each (line_pieces s n) ls), size_append (line_pieces s n l) (each (element_pieces s n) ls)),
    )

pub record TraceGood (t : TraceDraft) : Type 0 where
  pub sound : IsSoundTrace (trace_of t)
  pub same : trace_draft (trace_of t) ≡ t

elements_same : (t : TraceDraft) → LinesGood (trace_scope t) (length t.choice) t.elements → map (line_draft t.parameters (length (map value t.choice))) (map (line_of (trace_scope t) (length t.choice)) t.elements) ≡ t.elements
elements_same t h = ap (λ (n : ℕ). map (line_draft t.parameters n) (map (line_of (trace_scope t) (length t.choice)) t.elements)) (length_map value t.choice) ∙ h.same

elements_sound : (t : TraceDraft) → LinesGood (trace_scope t) (length t.choice) t.elements → All (IsSoundLine t.ordered (length (map value t.choice))) (map (line_of (trace_scope t) (length t.choice)) t.elements)
elements_sound t h =
    subst (λ (n : ℕ). All (IsSoundLine t.ordered n) (map (line_of (trace_scope t) (length t.choice)) t.elements)) (sym (length_map value t.choice))
    (All-from_recursion (IsSoundLine t.ordered (length t.choice)) (map (line_of (trace_scope t) (length t.choice)) t.elements) h.sound)

trace_of_good : (t : TraceDraft) → IsTraceDraft t → AreParameters t.parameters → IsPlaceNumber (value t.line) → IsPlaceNumber (value t.column) → NumbersGood t.choice → length t.parameters ≤ length t.choice → LinesGood (trace_scope t) (length t.choice) t.elements → TraceGood t
trace_of_good t form names line column numbers enough h = record {
  sound = record {
    parameters = names;
    line = line;
    column = column;
    numbers = All-from_recursion (λ a. a < 2 ^ 64) (map value t.choice) numbers.fits;
    enough = omega (arith, length_map value t.choice);
    elements = elements_sound t h;
  };
  same = ap (λ (x : List ℕ). let d : TraceDraft = record { ordered = t.ordered; parameters = t.parameters; line = x; column = decimal (value t.column); kind = t.kind; choice = map decimal (map value t.choice); elements = map (line_draft t.parameters (length (map value t.choice))) (map (line_of (trace_scope t) (length t.choice)) t.elements) } in d) (place_digits t.line form.line line)
      ∙ ap (λ (x : List ℕ). let d : TraceDraft = record { ordered = t.ordered; parameters = t.parameters; line = t.line; column = x; kind = t.kind; choice = map decimal (map value t.choice); elements = map (line_draft t.parameters (length (map value t.choice))) (map (line_of (trace_scope t) (length t.choice)) t.elements) } in d) (place_digits t.column form.column column)
      ∙ ap (λ (x : List (List ℕ)). let d : TraceDraft = record { ordered = t.ordered; parameters = t.parameters; line = t.line; column = t.column; kind = t.kind; choice = x; elements = map (line_draft t.parameters (length (map value t.choice))) (map (line_of (trace_scope t) (length t.choice)) t.elements) } in d) numbers.same
      ∙ ap (λ (x : List LineDraft). let d : TraceDraft = record { ordered = t.ordered; parameters = t.parameters; line = t.line; column = t.column; kind = t.kind; choice = t.choice; elements = x } in d) (elements_same t h);
}

pub trace_good : (t : TraceDraft) → IsTraceDraft t → Unbroken (trace_pieces t) → size (trace_pieces t) < 2 ^ 64 → TraceGood t
trace_good t form whole short =
    let s : Scope = trace_scope t in
    let rest : Unbroken (plain (codes "lois results ") ∷ plain (codes "2") ∷ trace_rest t) = subst Unbroken (trace_rest_is t) whole in
    let below : size (plain (codes "lois results ") ∷ plain (codes "2") ∷ trace_rest t) < 2 ^ 64 = subst (λ (ps : List Piece). size ps < 2 ^ 64) (trace_rest_is t) short in
    let a = unbroken_split (head_rest s) (failure_pieces t ++ (choice_line t ++ (elements_of t ++ end_piece ∷ []))) rest.1.1 in
    let b = unbroken_split (failure_pieces t) (choice_line t ++ (elements_of t ++ end_piece ∷ [])) a.1 in
    let c = unbroken_split (choice_line t) (elements_of t ++ end_piece ∷ []) b.1 in
    let d = unbroken_split (elements_of t) (end_piece ∷ []) c.1 in
    let numbers : List Piece = plain (codes "choice") ∷ each number_pieces t.choice in
    let lf : List Piece = ruled (nat_le (length t.parameters) (length t.choice)) (codes "\n") ∷ [] in
    let f = unbroken_split numbers lf c.0 in
    let lines = elements_lines s (length t.choice) t.elements d.0 in
    let enough : length t.parameters ≤ length t.choice = le_back (length t.parameters) (length t.choice) f.1.0 in
    let all : size (trace_rest t) ≡ size (head_rest (trace_scope t)) + size (failure_pieces t ++ (choice_line t ++ (elements_of t ++ end_piece ∷ []))) = size_append (head_rest s) (failure_pieces t ++ (choice_line t ++ (elements_of t ++ end_piece ∷ []))) in
    let second : size (failure_pieces t ++ (choice_line t ++ (elements_of t ++ end_piece ∷ []))) ≡ size (failure_pieces t) + size (choice_line t ++ (elements_of t ++ end_piece ∷ [])) = size_append (failure_pieces t) (choice_line t ++ (elements_of t ++ end_piece ∷ [])) in
    let third : size (choice_line t ++ (elements_of t ++ end_piece ∷ [])) ≡ size (choice_line t) + size (elements_of t ++ end_piece ∷ []) = size_append (choice_line t) (elements_of t ++ end_piece ∷ []) in
    let fourth : size (elements_of t ++ end_piece ∷ []) ≡ size (elements_of t) + size (end_piece ∷ []) = size_append (elements_of t) (end_piece ∷ []) in
    let line : size (choice_line t) ≡ size (plain (codes "choice") ∷ each number_pieces t.choice) + size (ruled (nat_le (length t.parameters) (length t.choice)) (codes "\n") ∷ []) = size_append numbers lf in
    let count : length t.choice ≤ size (each number_pieces t.choice) = numbers_size t.choice in
    let fewer : size (each (line_pieces (trace_scope t) (length t.choice)) t.elements) ≤ size (elements_of t) = lines.1 in
    trace_of_good t form (head_good s form.parameters a.0) (place_tests (value t.line) b.0.1.0) (place_tests (value t.column) b.0.1.1.1.0) (numbers_good t.choice form.choice f.0.1) enough
    (lines_good s (length t.choice) t.elements (record { named = enough; small = omega arith }) form.elements lines.0 (omega arith))
