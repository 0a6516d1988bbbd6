-- Where the lines of traces end, and what reading gives on their pieces.
use Rattle.std.proofs.Common.{◌≡◌, ℕ, suc, ◌+◌, ◌^◌, ◌<◌, Bool, true, false, cond, not, ◌&&◌, List, [], ◌∷◌, ◌++◌, length, map, Some, None, Result, Ok, Err, refl, sym, ap, ◌∙◌, append_assoc, arith, length-append}
use Rattle.std.specs.Prelude.{codes, nat_le, nat_lt}
use Rattle.std.specs.List.{AllByRecursion}
use Rattle.std.proofs.lemmas.List.{append-nil}
use Rattle.std.proofs.lemmas.Bool.Decides.{nat_tests}
use Rattle.lois_answers.specs.ResultsData.{LineD}
use Rattle.lois_answers.specs.TraceText.{kind_text}
use Rattle.lois_answers.specs.declared.faults.Answer.{Answer}
use Rattle.lois_answers.specs.declared.faults.Answer.TheVariants as answers
use Rattle.lois_answers.specs.declared.faults.FaultKind.{FaultKind}
use Rattle.lois_answers.specs.declared.faults.FaultKind.TheVariants.{Assertion, NotASet, NotAtoms, NotATuple, NoSuchPart, NotAutomaton, NotDeterministic, NotComplete, TurnLimit, DepthLimit}
use Rattle.lois_answers.specs.declared.faults.Trace.{Trace}
use Rattle.lois_answers.specs.declared.results.Results.{Results}
use Rattle.lois_reader.specs.declared.scope.Scope.{Scope}
use Rattle.lois_reader.specs.Draft.{LineDraft, TraceDraft, AnswerDraft, IsWord, IsNumber, IsLineDraft, IsTraceDraft, IsAnswerDraft}
use Rattle.lois_reader.specs.Draft as draft
use Rattle.lois_reader.specs.Pieces.{Piece, plain, ruled, each, value, term_pieces, line_end, line_pieces, end_piece, place_piece, failure_pieces, trace_pieces, answer_pieces}
use Rattle.lois_reader.specs.WholeTexts.{answer_reading}
use Rattle.lois_reader.specs.Shape.{text_of_pieces}
use Rattle.lois_reader.specs.Reading.{◌>>=◌, begins}
use Rattle.lois_reader.specs.Ends.{fixed_end, many_end}
use Rattle.lois_reader.specs.AnswerEnds.{head_end, body_end, not_a_end, not_end, no_end, kind_end, failure_end, choice_number_end, numbers_end, choice_end, assigned_end, element_end, elements_end, trace_end, results_end, version_end, answer_text_end}
use Rattle.lois_reader.specs.Values.{given, value_within, many_at}
use Rattle.lois_reader.specs.AnswerValues.{head_at, line_at, results_at, place_at, kind_at, failure_at, number_of_choice_at, numbers_at, choice_at, element_at, elements_at, trace_at, version_at, answer_text_at}
use Rattle.lois_reader.proofs.Fronts.{EndsNumber, word_ends, number_front, number_ends}
use Rattle.lois_reader.proofs.Outcome.{size, out, part_step, text_append, text_split, many_out}
use Rattle.lois_reader.proofs.EndsFronts.{many_front}
use Rattle.lois_reader.proofs.AnswerFronts.{head_rest, head_front, line_text, body_front, results_rest, results_rest_is, results_front}
use Rattle.lois_reader.proofs.AnswerOutcome.{line_of, pick, head_out, line_out, each_enough, results_of, results_out}

abbrev pub trace_scope : TraceDraft → Scope
trace_scope t = record { names = t.parameters; ordered = t.ordered }

-- ---- kinds and places

kind_front : (k : FaultKind) (r : List ℕ) → kind_end (kind_text k ++ r) ≡ Ok r
unfolding kind_end no_end not_end not_a_end
kind_front Assertion r = refl
kind_front NotASet r = refl
kind_front NotAtoms r = refl
kind_front NotATuple r = refl
kind_front NoSuchPart r = refl
kind_front NotAutomaton r = refl
kind_front NotDeterministic r = refl
kind_front NotComplete r = refl
kind_front TurnLimit r = refl
kind_front DepthLimit r = refl

kind_out : (k : FaultKind) (r : List ℕ) → kind_at (kind_text k ++ r) ≡ Ok (k, r)
unfolding kind_at
kind_out Assertion r = refl
kind_out NotASet r = refl
kind_out NotAtoms r = refl
kind_out NotATuple r = refl
kind_out NoSuchPart r = refl
kind_out NotAutomaton r = refl
kind_out NotDeterministic r = refl
kind_out NotComplete r = refl
kind_out TurnLimit r = refl
kind_out DepthLimit r = refl

failure_regroup : (a l b c d k n r : List ℕ) → (a ++ (l ++ (b ++ (c ++ ((d ++ k) ++ (n ++ [])))))) ++ r ≡ a ++ (l ++ (b ++ (c ++ (d ++ (k ++ (n ++ r))))))
failure_regroup a l b c d k n r = simp append_assoc

pub failure_text : (t : TraceDraft) (r : List ℕ) → text_of_pieces (failure_pieces t) ++ r ≡ codes "failed at " ++ (t.line ++ (codes ":" ++ (t.column ++ (codes ": " ++ (kind_text t.kind ++ (codes "\n" ++ r))))))
failure_text t r = failure_regroup (codes "failed at ") t.line (codes ":") t.column (codes ": ") (kind_text t.kind) (codes "\n") r

failure_is : (l c : List ℕ) (k : FaultKind) (r : List ℕ) → IsNumber l → IsNumber c → failure_end (codes "failed at " ++ (l ++ (codes ":" ++ (c ++ (codes ": " ++ (kind_text k ++ (codes "\n" ++ r))))))) ≡ Ok r
unfolding failure_end
failure_is l c k r form_l form_c = rw (number_ends l (codes ":" ++ (c ++ (codes ": " ++ (kind_text k ++ (codes "\n" ++ r))))) form_l refl, number_ends c (codes ": " ++ (kind_text k ++ (codes "\n" ++ r))) form_c refl, kind_front k (codes "\n" ++ r)) refl

failure_front : (t : TraceDraft) (r : List ℕ) → IsTraceDraft t → failure_end (text_of_pieces (failure_pieces t) ++ r) ≡ Ok r
failure_front t r form = ap failure_end (failure_text t r) ∙ failure_is t.line t.column t.kind r form.line form.column

-- ---- the choice

abbrev pub number_pieces : List ℕ → List Piece
number_pieces ds = plain (codes " ") ∷ ruled (nat_lt (value ds) (2 ^ 64)) ds ∷ []

pub number_text : (ds r : List ℕ) → text_of_pieces (number_pieces ds) ++ r ≡ codes " " ++ (ds ++ r)
number_text ds r = ap (λ (x : List ℕ). codes " " ++ x) (append_assoc ds [] r)

number_longer : (ds r : List ℕ) → length r < length (text_of_pieces (number_pieces ds) ++ r)
number_longer ds r = omega (arith, ap length (number_text ds r), length-append (codes " ") (ds ++ r), length-append ds r)

numbers_is : (u : List ℕ) → numbers_end u ≡ many_end (begins 32) choice_number_end (suc (length u)) u
unfolding numbers_end
numbers_is u = refl

numbers_front : (nss : List (List ℕ)) (r : List ℕ) → AllByRecursion IsNumber nss → EndsNumber r → begins 32 r ≡ false → numbers_end (text_of_pieces (each number_pieces nss) ++ r) ≡ Ok r
numbers_front nss r forms ends none =
    numbers_is (text_of_pieces (each number_pieces nss) ++ r)
    ∙ many_front (begins 32) choice_number_end number_pieces IsNumber EndsNumber
    (λ x good t ends_t. ap choice_number_end (number_text x t) ∙ number_ends x t good ends_t) (λ x good t. refl) (λ x good t. refl) (λ x good t. number_longer x t)
    nss (suc (length (text_of_pieces (each number_pieces nss) ++ r))) r (omega arith) forms ends none

abbrev pub choice_line : TraceDraft → List Piece
choice_line t = (plain (codes "choice") ∷ each number_pieces t.choice) ++ ruled (nat_le (length t.parameters) (length t.choice)) (codes "\n") ∷ []

pub choice_text : (t : TraceDraft) (r : List ℕ) → text_of_pieces (choice_line t) ++ r ≡ codes "choice" ++ (text_of_pieces (each number_pieces t.choice) ++ (codes "\n" ++ r))
choice_text t r = text_split (plain (codes "choice") ∷ each number_pieces t.choice) (ruled (nat_le (length t.parameters) (length t.choice)) (codes "\n") ∷ []) r

choice_is : (u r : List ℕ) → numbers_end u ≡ Ok (codes "\n" ++ r) → choice_end (codes "choice" ++ u) ≡ Ok r
unfolding choice_end
choice_is u r e = rw e refl

choice_front : (t : TraceDraft) (r : List ℕ) → IsTraceDraft t → choice_end (text_of_pieces (choice_line t) ++ r) ≡ Ok r
choice_front t r form = ap choice_end (choice_text t r) ∙ choice_is (text_of_pieces (each number_pieces t.choice) ++ (codes "\n" ++ r)) r (numbers_front t.choice (codes "\n" ++ r) form.choice refl refl)

-- ---- elements

abbrev pub element_pieces : Scope → ℕ → LineDraft → List Piece
element_pieces s n l = plain (codes "for ") ∷ line_pieces s n l

element_is : (w t r : List ℕ) → IsWord w → assigned_end (codes " = " ++ t) ≡ Ok r → element_end (codes "for " ++ (w ++ (codes " = " ++ t))) ≡ Ok r
unfolding element_end
element_is w t r form e = rw (word_ends w (codes " = " ++ t) form refl) e

assigned_is : (t : List ℕ) → assigned_end (codes " = " ++ t) ≡ body_end t
unfolding assigned_end
assigned_is t = refl

element_front : (s : Scope) (n : ℕ) (l : LineDraft) (r : List ℕ) → IsLineDraft l → element_end (text_of_pieces (element_pieces s n l) ++ r) ≡ Ok r
element_front s n l r form =
    let t : List ℕ = text_of_pieces (term_pieces s n l.term) ++ (codes "\n" ++ r) in
    ap (λ (x : List ℕ). element_end (codes "for " ++ x)) (line_text s n l r) ∙ element_is l.name t r form.0 (assigned_is t ∙ body_front s n l.term r form.1)

element_longer : (s : Scope) (n : ℕ) (l : LineDraft) (r : List ℕ) → length r < length (text_of_pieces (element_pieces s n l) ++ r)
element_longer s n l r = omega (arith, length-append (text_of_pieces (line_pieces s n l)) r)

elements_is : (u : List ℕ) → elements_end u ≡ many_end (begins 102) element_end (suc (length u)) u
unfolding elements_end
elements_is u = refl

elements_front : (s : Scope) (n : ℕ) (ls : List LineDraft) (r : List ℕ) → AllByRecursion IsLineDraft ls → begins 102 r ≡ false → elements_end (text_of_pieces (each (element_pieces s n) ls) ++ r) ≡ Ok r
elements_front s n ls r forms none =
    elements_is (text_of_pieces (each (element_pieces s n) ls) ++ r)
    ∙ many_front (begins 102) element_end (element_pieces s n) IsLineDraft (λ t. Unit {0})
    (λ x good t any. element_front s n x t good) (λ x good t. refl) (λ x good t. tt) (λ x good t. element_longer s n x t)
    ls (suc (length (text_of_pieces (each (element_pieces s n) ls) ++ r))) r (omega arith) forms tt none

-- ---- traces

abbrev pub elements_of : TraceDraft → List Piece
elements_of t = each (element_pieces (trace_scope t) (length t.choice)) t.elements

abbrev pub trace_rest : TraceDraft → List Piece
trace_rest t = head_rest (trace_scope t) ++ (failure_pieces t ++ (choice_line t ++ (elements_of t ++ end_piece ∷ [])))

pieces_regroup : (h f c l e z : List Piece) → ((((h ++ f) ++ c) ++ (l ++ e)) ++ z) ≡ h ++ (f ++ ((c ++ l) ++ (e ++ z)))
pieces_regroup h f c l e z = simp append_assoc

pub trace_rest_is : (t : TraceDraft) → trace_pieces t ≡ plain (codes "lois results ") ∷ plain (codes "2") ∷ trace_rest t
trace_rest_is t = pieces_regroup (plain (codes "lois results ") ∷ plain (codes "2") ∷ head_rest (trace_scope t)) (failure_pieces t) (plain (codes "choice") ∷ each number_pieces t.choice) (ruled (nat_le (length t.parameters) (length t.choice)) (codes "\n") ∷ []) (elements_of t) (end_piece ∷ [])

trace_is : (a b c d : List ℕ) → head_end a ≡ Ok b → failure_end b ≡ Ok c → choice_end c ≡ Ok d → elements_end d ≡ Ok (codes "end\n") → trace_end a ≡ Ok []
unfolding trace_end
trace_is a b c d e f g h = rw (e, f, g, h) refl

pub trace_front : (t : TraceDraft) → IsTraceDraft t → trace_end (text_of_pieces (trace_rest t)) ≡ Ok []
trace_front t form =
    let s : Scope = trace_scope t in
    let tail : List Piece = elements_of t ++ end_piece ∷ [] in
    let d : List ℕ = text_of_pieces (elements_of t) ++ codes "end\n" in
    let tail_is : text_of_pieces (elements_of t ++ end_piece ∷ []) ≡ text_of_pieces (elements_of t) ++ codes "end\n" = text_append (elements_of t) (end_piece ∷ []) in
    let c_is : text_of_pieces (choice_line t ++ (elements_of t ++ end_piece ∷ [])) ≡ text_of_pieces (choice_line t) ++ (text_of_pieces (elements_of t) ++ codes "end\n") = text_append (choice_line t) tail ∙ ap (λ (x : List ℕ). text_of_pieces (choice_line t) ++ x) tail_is in
    let b_is : text_of_pieces (failure_pieces t ++ (choice_line t ++ (elements_of t ++ end_piece ∷ []))) ≡ text_of_pieces (failure_pieces t) ++ (text_of_pieces (choice_line t) ++ (text_of_pieces (elements_of t) ++ codes "end\n")) = text_append (failure_pieces t) (choice_line t ++ tail) ∙ ap (λ (x : List ℕ). text_of_pieces (failure_pieces t) ++ x) c_is in
    let c : List ℕ = text_of_pieces (choice_line t) ++ d in
    let b : List ℕ = text_of_pieces (failure_pieces t) ++ c in
    ap trace_end (text_append (head_rest s) (failure_pieces t ++ (choice_line t ++ tail)) ∙ ap (λ (x : List ℕ). text_of_pieces (head_rest s) ++ x) b_is)
    ∙ trace_is (text_of_pieces (head_rest s) ++ b) b c d (head_front s b form.parameters) (failure_front t c form) (choice_front t d form) (elements_front s (length t.choice) t.elements (codes "end\n") form.elements refl)

-- ---- what places, choices and elements stand for

given_out : (b c : Bool) (v l m : ℕ) (r : List ℕ) → b ≡ c → l ≡ m → ◌>>=◌ {A = ℕ} {B = ℕ × List ℕ} (given (cond b (Some v) None) l) (λ i. Ok (i, r)) ≡ cond (not c) (Err m) (Ok (v, r))
given_out true true v l m r e f = refl
given_out false false v l m r e f = ap (λ (n : ℕ). Err n) f
given_out true false v l m r e f = absurd (cc)
given_out false true v l m r e f = absurd (cc)

place_test : (v : ℕ) → (nat_le 1 v && nat_lt v 1048578) ≡ (nat_le 1 v && nat_le v 1048577)
place_test v = grind (arith, nat_tests)

place_is : (ds r : List ℕ) → IsNumber ds → EndsNumber r → place_at (ds ++ r) ≡ (given (value_within 1 1048578 ds) (length (ds ++ r)) >>= λ i. Ok (i, r))
unfolding place_at
place_is ds r form ends = rw (number_front ds r form ends) refl

place_out : (ds r : List ℕ) → IsNumber ds → EndsNumber r → place_at (text_of_pieces (place_piece ds ∷ []) ++ r) ≡ out (place_piece ds ∷ []) (value ds) r
place_out ds r form ends =
    ap place_at (append_assoc ds [] r) ∙ place_is ds r form ends
    ∙ given_out (nat_le 1 (value ds) && nat_lt (value ds) 1048578) (nat_le 1 (value ds) && nat_le (value ds) 1048577) (value ds) (length (ds ++ r)) (length ds + (0 + length r)) r (place_test (value ds)) (omega (arith, length-append ds r))

failure_at_is : (u : List ℕ) → failure_at u ≡ (fixed_end (codes "failed at ") u >>= λ first. place_at first >>= λ line. fixed_end (codes ":") line.1 >>= λ second. place_at second >>= λ column. fixed_end (codes ": ") column.1 >>= λ third. kind_at third >>= λ kind. fixed_end (codes "\n") kind.1 >>= λ rest. Ok ((line.0, (column.0, kind.0)), rest))
unfolding failure_at
failure_at_is u = refl

failure_out : (t : TraceDraft) (r : List ℕ) → IsTraceDraft t → failure_at (text_of_pieces (failure_pieces t) ++ r) ≡ out (failure_pieces t) (value t.line, (value t.column, t.kind)) r
failure_out t r form =
    let kind : List Piece = plain (codes ": " ++ kind_text t.kind) ∷ line_end ∷ [] in
    let made : ℕ × (ℕ × FaultKind) = (value t.line, (value t.column, t.kind)) in
    let third : ℕ → ℕ × List ℕ → Result ((ℕ × (ℕ × FaultKind)) × List ℕ) ℕ = λ l x. fixed_end (codes ": ") x.1 >>= λ third. kind_at third >>= λ k. fixed_end (codes "\n") k.1 >>= λ rest. Ok ((l, (x.0, k.0)), rest) in
    let second : ℕ × List ℕ → Result ((ℕ × (ℕ × FaultKind)) × List ℕ) ℕ = λ x. fixed_end (codes ":") x.1 >>= λ second. place_at second >>= third x.0 in
    let named : third (value t.line) (value t.column, text_of_pieces (plain (codes ": " ++ kind_text t.kind) ∷ line_end ∷ []) ++ r) ≡ out (plain (codes ": " ++ kind_text t.kind) ∷ line_end ∷ []) (value t.line, (value t.column, t.kind)) r =
    ap (λ (x : List ℕ). kind_at x >>= λ k. fixed_end (codes "\n") k.1 >>= λ rest. Ok ((value t.line, (value t.column, k.0)), rest)) (append_assoc (kind_text t.kind) (codes "\n") r)
    ∙ ap (λ e. e >>= λ k. fixed_end (codes "\n") k.1 >>= λ rest. Ok ((value t.line, (value t.column, k.0)), rest)) (kind_out t.kind (codes "\n" ++ r)) in
    failure_at_is (text_of_pieces (failure_pieces t) ++ r)
    ∙ part_step place_at (place_piece t.line ∷ []) (plain (codes ":") ∷ place_piece t.column ∷ kind) (value t.line) made r second
    (place_out t.line (text_of_pieces (plain (codes ":") ∷ place_piece t.column ∷ kind) ++ r) form.line refl)
    (part_step place_at (place_piece t.column ∷ []) kind (value t.column) made r (third (value t.line)) (place_out t.column (text_of_pieces kind ++ r) form.column refl) named)

number_test : (v : ℕ) → (nat_le 0 v && nat_lt v (2 ^ 64)) ≡ nat_lt v (2 ^ 64)
number_test v = grind (arith, nat_tests)

number_is : (ds r : List ℕ) → IsNumber ds → EndsNumber r → number_of_choice_at (codes " " ++ (ds ++ r)) ≡ (given (value_within 0 (2 ^ 64) ds) (length (ds ++ r)) >>= λ i. Ok (i, r))
unfolding number_of_choice_at
number_is ds r form ends = rw (number_front ds r form ends) refl

number_out : (ds r : List ℕ) → IsNumber ds → EndsNumber r → number_of_choice_at (text_of_pieces (number_pieces ds) ++ r) ≡ out (number_pieces ds) (value ds) r
number_out ds r form ends =
    ap number_of_choice_at (number_text ds r) ∙ number_is ds r form ends
    ∙ given_out (nat_le 0 (value ds) && nat_lt (value ds) (2 ^ 64)) (nat_lt (value ds) (2 ^ 64)) (value ds) (length (ds ++ r)) (length ds + (0 + length r)) r (number_test (value ds)) (omega (arith, length-append ds r))

numbers_at_is : (u : List ℕ) → numbers_at u ≡ many_at (begins 32) number_of_choice_at (suc (length u)) u
unfolding numbers_at
numbers_at_is u = refl

numbers_out : (nss : List (List ℕ)) (r : List ℕ) → AllByRecursion IsNumber nss → EndsNumber r → begins 32 r ≡ false → numbers_at (text_of_pieces (each number_pieces nss) ++ r) ≡ out (each number_pieces nss) (map value nss) r
numbers_out nss r forms ends none =
    numbers_at_is (text_of_pieces (each number_pieces nss) ++ r)
    ∙ many_out (begins 32) number_of_choice_at number_pieces value IsNumber EndsNumber
    (λ x good t ends_t. number_out x t good ends_t) (λ x good t ends_t. refl) (λ x good t ends_t. refl) nss (suc (length (text_of_pieces (each number_pieces nss) ++ r))) r
    (each_enough number_pieces number_longer nss r) forms ends none

pub length_map : {A B : Type 0} (f : A → B) (xs : List A) → length (map f xs) ≡ length xs
length_map f [] = refl
length_map f (x ∷ xs) = ap suc (length_map f xs)

choice_at_is : (n : ℕ) (u : List ℕ) → choice_at n u ≡ (fixed_end (codes "choice") u >>= λ first. numbers_at first >>= λ numbers. cond (nat_le n (length numbers.0)) (fixed_end (codes "\n") numbers.1 >>= λ r. Ok (numbers.0, r)) (Err (length numbers.1)))
unfolding choice_at
choice_at_is n u = refl

choice_out : (t : TraceDraft) (r : List ℕ) → IsTraceDraft t → choice_at (length t.parameters) (text_of_pieces (choice_line t) ++ r) ≡ out (choice_line t) (map value t.choice) r
choice_out t r form =
    let numbers : List Piece = each number_pieces t.choice in
    let enough : Bool = nat_le (length t.parameters) (length t.choice) in
    let lf : List Piece = ruled (nat_le (length t.parameters) (length t.choice)) (codes "\n") ∷ [] in
    let behind : List ℕ × List ℕ → Result (List ℕ × List ℕ) ℕ = λ x. cond (nat_le (length t.parameters) (length x.0)) (fixed_end (codes "\n") x.1 >>= λ q. Ok (x.0, q)) (Err (length x.1)) in
    let ended : behind (map value t.choice, text_of_pieces (ruled (nat_le (length t.parameters) (length t.choice)) (codes "\n") ∷ []) ++ r) ≡ out (ruled (nat_le (length t.parameters) (length t.choice)) (codes "\n") ∷ []) (map value t.choice) r =
    ap (λ (k : ℕ). cond (nat_le (length t.parameters) k) (Ok (map value t.choice, r)) (Err (suc (length r)))) (length_map value t.choice)
    ∙ pick enough (suc (length r)) (1 + (0 + length r)) (Ok (map value t.choice, r)) (Ok (map value t.choice, r)) (omega arith) refl in
    choice_at_is (length t.parameters) (text_of_pieces (choice_line t) ++ r)
    ∙ part_step numbers_at numbers lf (map value t.choice) (map value t.choice) r behind (numbers_out t.choice (text_of_pieces lf ++ r) form.choice refl refl) ended

element_at_is : (s : Scope) (n : ℕ) (u : List ℕ) → element_at s n (codes "for " ++ u) ≡ line_at s n u
unfolding element_at
element_at_is s n u = refl

element_out : (s : Scope) (n : ℕ) (l : LineDraft) (r : List ℕ) → IsLineDraft l → element_at s n (text_of_pieces (element_pieces s n l) ++ r) ≡ out (element_pieces s n l) (line_of s n l) r
element_out s n l r form = element_at_is s n (text_of_pieces (line_pieces s n l) ++ r) ∙ line_out s n l r form

elements_at_is : (s : Scope) (n : ℕ) (u : List ℕ) → elements_at s n u ≡ many_at (begins 102) (element_at s n) (suc (length u)) u
unfolding elements_at
elements_at_is s n u = refl

elements_out : (s : Scope) (n : ℕ) (ls : List LineDraft) (r : List ℕ) → AllByRecursion IsLineDraft ls → begins 102 r ≡ false → elements_at s n (text_of_pieces (each (element_pieces s n) ls) ++ r) ≡ out (each (element_pieces s n) ls) (map (line_of s n) ls) r
elements_out s n ls r forms none =
    elements_at_is s n (text_of_pieces (each (element_pieces s n) ls) ++ r)
    ∙ many_out (begins 102) (element_at s n) (element_pieces s n) (line_of s n) IsLineDraft (λ t. Unit {0})
    (λ x good t any. element_out s n x t good) (λ x good t any. refl) (λ x good t any. tt) ls (suc (length (text_of_pieces (each (element_pieces s n) ls) ++ r))) r
    (each_enough (element_pieces s n) (element_longer s n) ls r) forms tt none

abbrev pub trace_of : TraceDraft → Trace
trace_of t = record { order = t.ordered; parameters = t.parameters; line = value t.line; column = value t.column; kind = t.kind; sample = map value t.choice; elements = map (line_of (trace_scope t) (length t.choice)) t.elements }

trace_at_is : (u : List ℕ) → trace_at u ≡ (head_at u >>= λ scope. failure_at scope.1 >>= λ failure. choice_at (length scope.0.names) failure.1 >>= λ choice. elements_at scope.0 (length choice.0) choice.1 >>= λ elements. fixed_end (codes "end\n") elements.1 >>= λ rest. Ok (record { order = scope.0.ordered; parameters = scope.0.names; line = failure.0.0; column = failure.0.1.0; kind = failure.0.1.1; sample = choice.0; elements = elements.0 }, rest))
unfolding trace_at
trace_at_is u = refl

pub trace_out : (t : TraceDraft) → IsTraceDraft t → trace_at (text_of_pieces (trace_rest t)) ≡ out (trace_rest t) (trace_of t) []
trace_out t form =
    let s : Scope = trace_scope t in
    let made : Trace = trace_of t in
    let tail : List Piece = elements_of t ++ end_piece ∷ [] in
    let with_elements : List ℕ → List LineD × List ℕ → Result (Trace × List ℕ) ℕ = λ sample x. fixed_end (codes "end\n") x.1 >>= λ rest. Ok (record { order = t.ordered; parameters = t.parameters; line = value t.line; column = value t.column; kind = t.kind; sample = sample; elements = x.0 }, rest) in
    let with_choice : ℕ × (ℕ × FaultKind) → List ℕ × List ℕ → Result (Trace × List ℕ) ℕ = λ f x. elements_at s (length x.0) x.1 >>= λ elements. fixed_end (codes "end\n") elements.1 >>= λ rest. Ok (record { order = t.ordered; parameters = t.parameters; line = f.0; column = f.1.0; kind = f.1.1; sample = x.0; elements = elements.0 }, rest) in
    let with_failure : (ℕ × (ℕ × FaultKind)) × List ℕ → Result (Trace × List ℕ) ℕ = λ x. choice_at (length t.parameters) x.1 >>= with_choice x.0 in
    let with_scope : Scope × List ℕ → Result (Trace × List ℕ) ℕ = λ x. failure_at x.1 >>= λ failure. choice_at (length x.0.names) failure.1 >>= λ choice. elements_at x.0 (length choice.0) choice.1 >>= λ elements. fixed_end (codes "end\n") elements.1 >>= λ rest. Ok (record { order = x.0.ordered; parameters = x.0.names; line = failure.0.0; column = failure.0.1.0; kind = failure.0.1.1; sample = choice.0; elements = elements.0 }, rest) in
    let ended : with_choice (value t.line, (value t.column, t.kind)) (map value t.choice, text_of_pieces (elements_of t ++ end_piece ∷ []) ++ []) ≡ out (elements_of t ++ end_piece ∷ []) (trace_of t) [] =
    ap (λ (k : ℕ). elements_at s k (text_of_pieces tail ++ []) >>= with_elements (map value t.choice)) (length_map value t.choice)
    ∙ part_step (elements_at s (length t.choice)) (elements_of t) (end_piece ∷ []) (map (line_of s (length t.choice)) t.elements) made [] (with_elements (map value t.choice)) (elements_out s (length t.choice) t.elements (codes "end\n") form.elements refl) refl in
    ap trace_at (sym (append-nil (text_of_pieces (trace_rest t))))
    ∙ trace_at_is (text_of_pieces (trace_rest t) ++ [])
    ∙ part_step head_at (head_rest s) (failure_pieces t ++ (choice_line t ++ tail)) s made [] with_scope (head_out s (text_of_pieces (failure_pieces t ++ (choice_line t ++ tail)) ++ []) form.parameters)
    (part_step failure_at (failure_pieces t) (choice_line t ++ tail) (value t.line, (value t.column, t.kind)) made [] with_failure (failure_out t (text_of_pieces (choice_line t ++ tail) ++ []) form)
    (part_step (choice_at (length t.parameters)) (choice_line t) tail (map value t.choice) made [] (with_choice (value t.line, (value t.column, t.kind))) (choice_out t (text_of_pieces tail ++ []) form) ended))

-- ---- answers

abbrev pub answer_of : AnswerDraft → Answer
answer_of (draft.results r) = answers.Results (results_of r)
answer_of (draft.trace t) = answers.Trace (trace_of t)

pub answer_ends_one : (u : List ℕ) → results_end u ≡ Ok [] → answer_text_end (codes "lois results 1" ++ u) ≡ Ok []
unfolding answer_text_end version_end
answer_ends_one u e = rw e refl

pub answer_ends_two : (u : List ℕ) → trace_end u ≡ Ok [] → answer_text_end (codes "lois results 2" ++ u) ≡ Ok []
unfolding answer_text_end version_end
answer_ends_two u e = rw e refl

answer_at_one : (u : List ℕ) → answer_text_at (codes "lois results 1" ++ u) ≡ (results_at u >>= λ x. Ok (answers.Results x.0))
unfolding answer_text_at version_at
answer_at_one u = refl

answer_at_two : (u : List ℕ) → answer_text_at (codes "lois results 2" ++ u) ≡ (trace_at u >>= λ x. Ok (answers.Trace x.0))
unfolding answer_text_at version_at
answer_at_two u = refl

map_end : {A B : Type 0} (ps : List Piece) (a : A) (g : A → B) → (out ps a [] >>= λ x. Ok (g x.0)) ≡ (out ps (g a) [] >>= λ x. Ok x.0)
map_end [] a g = refl
map_end (p ∷ ps) a g = elim p.broken as (λ b. (cond b (Err (length p.bytes + (size ps + 0))) (out ps a []) >>= λ x. Ok (g x.0)) ≡ (cond b (Err (length p.bytes + (size ps + 0))) (out ps (g a) []) >>= λ x. Ok x.0)) [ true ↦ refl | false ↦ map_end ps a g ]

pub answer_reading_is : (a : AnswerDraft) → IsAnswerDraft a → answer_reading (text_of_pieces (answer_pieces a)) ≡ (out (answer_pieces a) (answer_of a) [] >>= λ x. Ok x.0)
answer_reading_is (draft.results d) form =
    ap (λ (ps : List Piece). answer_reading (text_of_pieces ps)) (results_rest_is d)
    ∙ ap (λ e. e >>= λ end. answer_text_at (codes "lois results 1" ++ text_of_pieces (results_rest d))) (answer_ends_one (text_of_pieces (results_rest d)) (results_front d form))
    ∙ answer_at_one (text_of_pieces (results_rest d))
    ∙ ap (λ e. e >>= λ x. Ok (answers.Results x.0)) (results_out d form)
    ∙ map_end (results_rest d) (results_of d) (λ (r : Results). answers.Results r)
    ∙ ap (λ (ps : List Piece). out ps (answers.Results (results_of d)) [] >>= λ x. Ok x.0) (sym (results_rest_is d))
answer_reading_is (draft.trace t) form =
    ap (λ (ps : List Piece). answer_reading (text_of_pieces ps)) (trace_rest_is t)
    ∙ ap (λ e. e >>= λ end. answer_text_at (codes "lois results 2" ++ text_of_pieces (trace_rest t))) (answer_ends_two (text_of_pieces (trace_rest t)) (trace_front t form))
    ∙ answer_at_two (text_of_pieces (trace_rest t))
    ∙ ap (λ e. e >>= λ x. Ok (answers.Trace x.0)) (trace_out t form)
    ∙ map_end (trace_rest t) (trace_of t) (λ (r : Trace). answers.Trace r)
    ∙ ap (λ (ps : List Piece). out ps (answers.Trace (trace_of t)) [] >>= λ x. Ok x.0) (sym (trace_rest_is t))
