-- Sound traces are read back from their text, and so are answers.
use Rattle.std.proofs.Common.{◌≡◌, ℕ, ◌^◌, ◌<◌, ◌≤◌, Bool, true, false, not, ◌&&◌, List, [], ◌∷◌, ◌++◌, length, map, Ok, refl, sym, ap, subst, ◌∙◌, append_assoc, arith, length-append}
use Rattle.std.specs.Prelude.{codes, nat_le, nat_lt}
use Rattle.std.specs.Fmt.{decimal}
use Rattle.std.specs.List.{AllByRecursion, flat_map}
use Rattle.std.proofs.lemmas.List.{append-nil}
use Rattle.std.proofs.lemmas.List.Concat.{flat_map-cons}
use Rattle.std.proofs.lemmas.List.Elements.{recursion_from_All}
use Rattle.lois_base.proofs.NumberTests.{less_true}
use Rattle.lois_answers.specs.ResultsData.{LineD}
use Rattle.lois_answers.specs.ResultsText as rt
use Rattle.lois_answers.specs.Sound.{IsSoundLine, IsPlaceNumber, IsSoundTrace}
use Rattle.lois_answers.specs.TermText as texts
use Rattle.lois_answers.specs.TraceText as tt_
use Rattle.lois_answers.specs.declared.faults.Answer.{Answer}
use Rattle.lois_answers.specs.declared.faults.Answer.TheVariants as answers
use Rattle.lois_answers.specs.declared.faults.FaultKind.{FaultKind}
use Rattle.lois_answers.specs.declared.faults.Trace.{Trace}
use Rattle.lois_reader.specs.declared.scope.Scope.{Scope}
use Rattle.lois_reader.specs.Draft.{LineDraft, TraceDraft, AnswerDraft, IsNumber, IsTraceDraft}
use Rattle.lois_reader.specs.Draft as draft
use Rattle.lois_reader.specs.Pieces.{Piece, plain, ruled, each, value, term_pieces, line_end, line_pieces, end_piece, failure_pieces, trace_pieces, answer_pieces}
use Rattle.lois_reader.specs.Refusal.{IsSoundAnswer}
use Rattle.lois_reader.specs.WholeTexts.{answer_reading}
use Rattle.lois_reader.specs.Shape.{text_of_pieces}
use Rattle.lois_reader.specs.Reading.{◌>>=◌}
use Rattle.lois_reader.proofs.Outcome.{text_append}
use Rattle.lois_reader.proofs.AnswerFronts.{head_rest}
use Rattle.lois_reader.proofs.AnswerOutcome.{line_of}
use Rattle.lois_reader.proofs.DraftOf.{Unbroken, unbroken_append, out_unbroken, Small, small_inside, value_decimal, decimal_is_number, term_draft, term_text, each_map, le_test}
use Rattle.lois_reader.proofs.ResultsBack.{line_draft, results_draft, each_flat, line_regroup, head_rest_text, results_text_is, parameters_of, head_whole, lines_form, lines_whole, lines_value, results_form, results_whole, results_value}
use Rattle.lois_reader.proofs.TraceFronts.{trace_scope, number_pieces, choice_line, element_pieces, elements_of, trace_rest_is, trace_of, length_map, answer_of, answer_reading_is}
use Rattle.lois_reader.proofs.Unbroken.{unbroken_split}

abbrev pub trace_draft : Trace → TraceDraft
trace_draft t = record {
  ordered = t.order;
  parameters = t.parameters;
  line = decimal t.line;
  column = decimal t.column;
  kind = t.kind;
  choice = map decimal t.sample;
  elements = map (line_draft t.parameters (length t.sample)) t.elements;
}

-- ---- texts

numbers_text : (sample : List ℕ) → text_of_pieces (each number_pieces (map decimal sample)) ≡ flat_map (λ a. rt.spaced (decimal a)) sample
numbers_text sample = ap text_of_pieces (each_map number_pieces decimal sample) ∙ each_flat (λ a. number_pieces (decimal a)) (λ a. rt.spaced (decimal a)) (λ a. ap (λ (x : List ℕ). codes " " ++ x) (append-nil (decimal a))) sample

-- the levels asked of an element's pieces don't change its bytes
element_text : (s : Scope) (k n : ℕ) (l : LineD) → text_of_pieces (element_pieces s k (line_draft s.names n l)) ≡ tt_.element_text s.names n l
element_text s k n l =
    let t : List ℕ = texts.term_text s.names n l.term in
    ap (λ (x : List ℕ). codes "for " ++ (l.name ++ (codes " = " ++ x))) (text_append (term_pieces s k (term_draft s.names n l.term)) (line_end ∷ []) ∙ ap (λ (x : List ℕ). x ++ codes "\n") (term_text s k n l.term))
    ∙ ap (λ (x : List ℕ). codes "for " ++ x) (line_regroup l.name (codes " = ") t (codes "\n"))

elements_text : (s : Scope) (k n : ℕ) (ls : List LineD) → text_of_pieces (each (element_pieces s k) (map (line_draft s.names n) ls)) ≡ flat_map (tt_.element_text s.names n) ls
elements_text s k n ls = ap text_of_pieces (each_map (element_pieces s k) (line_draft s.names n) ls) ∙ each_flat (λ l. element_pieces s k (line_draft s.names n l)) (tt_.element_text s.names n) (element_text s k n) ls

regroup : (a o p n l f x b y c k w m e z : List ℕ) → a ++ ((o ++ (p ++ (n ++ l))) ++ ((f ++ (x ++ (b ++ (y ++ ((c ++ k) ++ (l ++ [])))))) ++ (((w ++ m) ++ l) ++ (e ++ z)))) ≡ (((((a ++ o) ++ ((p ++ n) ++ l)) ++ ((((((f ++ x) ++ b) ++ y) ++ c) ++ k) ++ l)) ++ ((w ++ m) ++ l)) ++ e) ++ z
regroup a o p n l f x b y c k w m e z = simp append_assoc

pub trace_text_is : (t : Trace) → text_of_pieces (trace_pieces (trace_draft t)) ≡ tt_.trace_text t
trace_text_is t =
    let d : TraceDraft = trace_draft t in
    let s : Scope = trace_scope (trace_draft t) in
    let elements : List ℕ = flat_map (tt_.element_text t.parameters (length t.sample)) t.elements in
    let numbers : List ℕ = flat_map (λ a. rt.spaced (decimal a)) t.sample in
    let names : List ℕ = flat_map rt.spaced t.parameters in
    let elements_piece : List Piece = elements_of (trace_draft t) in
    let tail_is : text_of_pieces (elements_of (trace_draft t) ++ end_piece ∷ []) ≡ flat_map (tt_.element_text t.parameters (length t.sample)) t.elements ++ codes "end\n" = text_append elements_piece (end_piece ∷ []) ∙ ap (λ (x : List ℕ). x ++ codes "end\n") (elements_text s (length (map decimal t.sample)) (length t.sample) t.elements) in
    let choice_is : text_of_pieces (choice_line (trace_draft t)) ≡ (codes "choice" ++ flat_map (λ a. rt.spaced (decimal a)) t.sample) ++ codes "\n" = text_append (plain (codes "choice") ∷ each number_pieces (map decimal t.sample)) (ruled (nat_le (length t.parameters) (length (map decimal t.sample))) (codes "\n") ∷ []) ∙ ap (λ (x : List ℕ). (codes "choice" ++ x) ++ codes "\n") (numbers_text t.sample) in
    ap text_of_pieces (trace_rest_is d)
    ∙ ap (λ (x : List ℕ). codes "lois results 2" ++ x)
    (text_append (head_rest s) (failure_pieces d ++ (choice_line d ++ (elements_piece ++ end_piece ∷ [])))
    ∙ ap (λ (x : List ℕ). x ++ text_of_pieces (failure_pieces d ++ (choice_line d ++ (elements_piece ++ end_piece ∷ [])))) (head_rest_text s)
    ∙ ap (λ (x : List ℕ). (codes "\n" ++ (rt.structure_text t.order ++ (codes "parameters" ++ (names ++ codes "\n")))) ++ x)
    (text_append (failure_pieces d) (choice_line d ++ (elements_piece ++ end_piece ∷ []))
    ∙ ap (λ (x : List ℕ). text_of_pieces (failure_pieces d) ++ x)
    (text_append (choice_line d) (elements_piece ++ end_piece ∷ [])
    ∙ ap (λ (x : List ℕ). x ++ text_of_pieces (elements_piece ++ end_piece ∷ [])) choice_is
    ∙ ap (λ (x : List ℕ). ((codes "choice" ++ numbers) ++ codes "\n") ++ x) tail_is)))
    ∙ regroup (codes "lois results 2\n") (rt.structure_text t.order) (codes "parameters") names (codes "\n") (codes "failed at ") (decimal t.line) (codes ":") (decimal t.column) (codes ": ") (tt_.kind_text t.kind) (codes "choice") numbers elements (codes "end\n")

-- ---- form, rules, value

choice_form : (sample : List ℕ) → AllByRecursion (λ a. a < 2 ^ 64) sample → AllByRecursion IsNumber (map decimal sample)
choice_form [] h = tt
choice_form (a ∷ as_) h = (decimal_is_number a h.0, choice_form as_ h.1)

place_small : (n : ℕ) → IsPlaceNumber n → n < 2 ^ 64
place_small n h = omega (arith, h.1)

pub trace_form : (t : Trace) → IsSoundTrace t → length t.sample < 2 ^ 64 → IsTraceDraft (trace_draft t)
trace_form t sound short =
    let good = parameters_of t.parameters sound.parameters in
    record {
      parameters = good.words;
      line = decimal_is_number t.line (place_small t.line sound.line);
      column = decimal_is_number t.column (place_small t.column sound.column);
      choice = choice_form t.sample (recursion_from_All (λ a. a < 2 ^ 64) t.sample sound.numbers);
      elements = lines_form t.parameters t.order (length t.sample) t.elements good (small_inside t.parameters (length t.sample) short) (recursion_from_All (IsSoundLine t.order (length t.sample)) t.elements sound.elements);
    }

place_whole : (v n : ℕ) → v ≡ n → IsPlaceNumber n → not (nat_le 1 v && nat_le v 1048577) ≡ false
place_whole v n e h = rw (e, le_test 1 n h.0, le_test n 1048577 h.1) refl

numbers_whole : (sample : List ℕ) → AllByRecursion (λ a. a < 2 ^ 64) sample → Unbroken (each number_pieces (map decimal sample))
numbers_whole [] h = tt
numbers_whole (a ∷ as_) h =
    let e : nat_lt (value (decimal a)) (2 ^ 64) ≡ true = rw (value_decimal a h.0) (less_true a (2 ^ 64) h.0) in
    (refl, (ap not e, numbers_whole as_ h.1))

element_lines : (s : Scope) (k : ℕ) (ls : List LineDraft) → Unbroken (each (line_pieces s k) ls) → Unbroken (each (element_pieces s k) ls)
element_lines s k [] h = tt
element_lines s k (l ∷ ls) h =
    let r = unbroken_split (line_pieces s k l) (each (line_pieces s k) ls) h in
    (refl, unbroken_append (line_pieces s k l) (each (element_pieces s k) ls) r.0 (element_lines s k ls r.1))

pub trace_whole : (t : Trace) → IsSoundTrace t → length t.sample < 2 ^ 64 → Unbroken (trace_pieces (trace_draft t))
trace_whole t sound short =
    let d : TraceDraft = trace_draft t in
    let s : Scope = trace_scope (trace_draft t) in
    let e : length t.sample ≡ length (map decimal t.sample) = sym (length_map decimal t.sample) in
    let small : Small t.parameters (length t.sample) = small_inside t.parameters (length t.sample) short in
    let elements : Unbroken (each (line_pieces (trace_scope (trace_draft t)) (length (map decimal t.sample))) (map (line_draft t.parameters (length t.sample)) t.elements)) =
    subst (λ (k : ℕ). Unbroken (each (line_pieces s k) (map (line_draft t.parameters (length t.sample)) t.elements))) e (lines_whole s (length t.sample) t.elements small (recursion_from_All (IsSoundLine t.order (length t.sample)) t.elements sound.elements)) in
    let holds : nat_le (length t.parameters) (length (map decimal t.sample)) ≡ true = rw (length_map decimal t.sample) (le_test (length t.parameters) (length t.sample) sound.enough) in
    let enough : not (nat_le (length t.parameters) (length (map decimal t.sample))) ≡ false = ap not holds in
    subst Unbroken (sym (trace_rest_is d)) (
      refl,
      (
        refl,
        unbroken_append (head_rest s) (failure_pieces d ++ (choice_line d ++ (elements_of d ++ end_piece ∷ []))) (head_whole s sound.parameters)
            (unbroken_append (failure_pieces d) (choice_line d ++ (elements_of d ++ end_piece ∷ []))
            (refl, (place_whole (value (decimal t.line)) t.line (value_decimal t.line (place_small t.line sound.line)) sound.line, (refl, (place_whole (value (decimal t.column)) t.column (value_decimal t.column (place_small t.column sound.column)) sound.column, (refl, (refl, tt))))))
            (unbroken_append (choice_line d) (elements_of d ++ end_piece ∷ [])
            (unbroken_append (plain (codes "choice") ∷ each number_pieces (map decimal t.sample)) (ruled (nat_le (length t.parameters) (length (map decimal t.sample))) (codes "\n") ∷ []) (refl, numbers_whole t.sample (recursion_from_All (λ a. a < 2 ^ 64) t.sample sound.numbers)) (enough, tt))
            (unbroken_append (elements_of d) (end_piece ∷ []) (element_lines s (length (map decimal t.sample)) (map (line_draft t.parameters (length t.sample)) t.elements) elements) (refl, tt)))),
      ),
    )

sample_value : (sample : List ℕ) → AllByRecursion (λ a. a < 2 ^ 64) sample → map value (map decimal sample) ≡ sample
sample_value [] h = refl
sample_value (a ∷ as_) h = ap (λ (x : ℕ). x ∷ map value (map decimal as_)) (value_decimal a h.0) ∙ ap (λ (xs : List ℕ). a ∷ xs) (sample_value as_ h.1)

same_trace : (o : Bool) (ps : List (List ℕ)) (k : FaultKind) (a b c d : ℕ) (x y : List ℕ) (u v : List LineD) → a ≡ b → c ≡ d → x ≡ y → u ≡ v → (let p : Trace = record { order = o; parameters = ps; line = a; column = c; kind = k; sample = x; elements = u } in p) ≡ record { order = o; parameters = ps; line = b; column = d; kind = k; sample = y; elements = v }
same_trace o ps k a b c d x y u v e f g h = cc

pub trace_value : (t : Trace) → IsSoundTrace t → length t.sample < 2 ^ 64 → trace_of (trace_draft t) ≡ t
trace_value t sound short =
    let s : Scope = trace_scope (trace_draft t) in
    same_trace t.order t.parameters t.kind (value (decimal t.line)) t.line (value (decimal t.column)) t.column (map value (map decimal t.sample)) t.sample (map (line_of s (length (map decimal t.sample))) (map (line_draft t.parameters (length t.sample)) t.elements)) t.elements
    (value_decimal t.line (place_small t.line sound.line)) (value_decimal t.column (place_small t.column sound.column)) (sample_value t.sample (recursion_from_All (λ a. a < 2 ^ 64) t.sample sound.numbers))
    (lines_value s (length t.sample) t.elements (parameters_of t.parameters sound.parameters) (small_inside t.parameters (length t.sample) short) (recursion_from_All (IsSoundLine t.order (length t.sample)) t.elements sound.elements))

-- ---- a choice has no more numbers than the text has bytes

numbers_fit : (sample : List ℕ) → length sample ≤ length (flat_map (λ a. rt.spaced (decimal a)) sample)
numbers_fit [] = omega arith
numbers_fit (a ∷ as_) =
    omega (arith, ap length (flat_map-cons (λ a. rt.spaced (decimal a)) a as_), length-append (rt.spaced (decimal a)) (flat_map (λ a. rt.spaced (decimal a)) as_), length-append (codes " ") (decimal a), numbers_fit as_)

inner_fits : (a o p f w m l e z : List ℕ) → length m ≤ length ((((((a ++ o) ++ p) ++ f) ++ ((w ++ m) ++ l)) ++ e) ++ z)
inner_fits a o p f w m l e z =
    omega (arith, length-append (((((a ++ o) ++ p) ++ f) ++ ((w ++ m) ++ l)) ++ e) z, length-append ((((a ++ o) ++ p) ++ f) ++ ((w ++ m) ++ l)) e, length-append (((a ++ o) ++ p) ++ f) ((w ++ m) ++ l), length-append (w ++ m) l, length-append w m)

sample_fits : (t : Trace) → length t.sample ≤ length (tt_.trace_text t)
sample_fits t =
    let fits = inner_fits (codes "lois results 2\n") (rt.structure_text t.order) (rt.parameters_text t.parameters) (tt_.failure_text t.line t.column t.kind) (codes "choice") (flat_map (λ a. rt.spaced (decimal a)) t.sample) (codes "\n") (flat_map (tt_.element_text t.parameters (length t.sample)) t.elements) (codes "end\n") in
    omega (arith, numbers_fit t.sample, fits)

-- ---- answers

-- Sound answers are read from their text, which lies in memory.
pub answer_back : (a : Answer) → IsSoundAnswer a → length (tt_.answer_text a) < 2 ^ 64 → answer_reading (tt_.answer_text a) ≡ Ok a
answer_back (answers.Results r) sound short =
    let d : AnswerDraft = draft.results (results_draft r) in
    ap answer_reading (sym (results_text_is r))
    ∙ answer_reading_is d (results_form r sound)
    ∙ ap (λ e. e >>= λ x. Ok x.0) (out_unbroken (answer_pieces d) (answer_of d) [] (results_whole r sound))
    ∙ ap (λ x. Ok (answers.Results x)) (results_value r sound)
answer_back (answers.Trace t) sound short =
    let d : AnswerDraft = draft.trace (trace_draft t) in
    let fits = sample_fits t in
    let few : length t.sample < 2 ^ 64 = omega arith in
    ap answer_reading (sym (trace_text_is t))
    ∙ answer_reading_is d (trace_form t sound few)
    ∙ ap (λ e. e >>= λ x. Ok x.0) (out_unbroken (answer_pieces d) (answer_of d) [] (trace_whole t sound few))
    ∙ ap (λ x. Ok (answers.Trace x)) (trace_value t sound few)
