-- Sound results are read back from their text, and a draft's first broken rule is told.
use Rattle.std.proofs.Common.{◌≡◌, ℕ, suc, ◌+◌, Bool, true, false, cond, not, ◌&&◌, ◌||◌, List, [], ◌∷◌, ◌++◌, length, map, Option, Some, None, Result, Ok, Err, refl, sym, ap, subst, ◌∙◌, append_assoc, arith}
use Rattle.std.specs.Prelude.{codes, bytes_eq, Contains, option_map}
use Rattle.std.specs.List.{AllByRecursion, flat_map}
use Rattle.std.proofs.lemmas.List.Concat.{flat_map-cons}
use Rattle.std.proofs.lemmas.List.Elements.{recursion_from_All}
use Rattle.lois_base.specs.Data.{TermD}
use Rattle.lois_base.specs.declared.guards.Lit.{Lit}
use Rattle.lois_lexer.specs.Words.{reserved}
use Rattle.lois_answers.specs.ResultsData.{LineD, CaseD}
use Rattle.lois_answers.specs.ResultsText as rt
use Rattle.lois_answers.specs.Sound.{IsFreeName, IsSoundLine, AreDistinct, AreParameters, IsSoundCase, IsSound}
use Rattle.lois_answers.specs.TermText as texts
use Rattle.lois_answers.specs.declared.results.Results.{Results}
use Rattle.lois_reader.specs.declared.scope.Scope.{Scope}
use Rattle.lois_reader.specs.Draft.{LineDraft, CaseDraft, ResultsDraft, IsWord, IsLineDraft, IsCaseDraft, IsResultsDraft}
use Rattle.lois_reader.specs.Pieces.{Piece, each, is_among, is_unreserved, constraint_pieces, term_pieces, line_end, line_pieces, case_pieces, name_pieces, end_piece, results_pieces}
use Rattle.lois_reader.specs.WholeTexts.{results_reading}
use Rattle.lois_reader.specs.Shape.{text_of_pieces, first_broken}
use Rattle.lois_reader.specs.Reading.{◌>>=◌}
use Rattle.lois_reader.specs.AnswerValues.{results_text_at}
use Rattle.lois_reader.proofs.Forms.{is_among_iff}
use Rattle.lois_reader.proofs.Outcome.{size, out, text_append}
use Rattle.lois_reader.proofs.AnswerFronts.{head_rest, scope_of, results_rest_is, results_rest_text, results_text_front}
use Rattle.lois_reader.proofs.AnswerOutcome.{line_of, case_of, results_of, results_text_out}
use Rattle.lois_reader.proofs.DraftOf.{Unbroken, unbroken_append, unbroken_each, out_unbroken, name_is_word, Parameters, Small, constraint_draft, constraint_text, constraint_form, constraint_whole, constraint_value, term_draft, term_text, term_form, term_whole, term_value, each_map, le_test, unequal}

abbrev pub line_draft : List (List ℕ) → ℕ → LineD → LineDraft
line_draft ps n l = record { name = l.name; term = term_draft ps n l.term }

abbrev pub case_draft : List (List ℕ) → CaseD → CaseDraft
case_draft ps c = record { «when» = constraint_draft ps c.«when»; lines = map (line_draft ps (length ps)) c.lines }

abbrev pub results_draft : Results → ResultsDraft
results_draft r = record { ordered = r.order; parameters = r.parameters; cases = map (case_draft r.parameters) r.cases }

-- ---- texts

pub each_flat : {A : Type 0} (pieces : A → List Piece) (f : A → List ℕ) → ((x : A) → text_of_pieces (pieces x) ≡ f x) → (xs : List A) → text_of_pieces (each pieces xs) ≡ flat_map f xs
each_flat pieces f same [] = refl
each_flat pieces f same (x ∷ xs) = text_append (pieces x) (each pieces xs) ∙ ap (λ (t : List ℕ). t ++ text_of_pieces (each pieces xs)) (same x) ∙ ap (λ (t : List ℕ). f x ++ t) (each_flat pieces f same xs) ∙ sym (flat_map-cons f x xs)

pub names_flat : (before ws : List (List ℕ)) → text_of_pieces (name_pieces before ws) ≡ flat_map rt.spaced ws
names_flat before [] = refl
names_flat before (w ∷ ws) = ap (λ (t : List ℕ). codes " " ++ (w ++ t)) (names_flat (before ++ w ∷ []) ws) ∙ sym (flat_map-cons rt.spaced w ws)

pub line_regroup : (a e t n : List ℕ) → a ++ (e ++ (t ++ n)) ≡ ((a ++ e) ++ t) ++ n
line_regroup a e t n = simp append_assoc

pub line_text : (s : Scope) (n : ℕ) (l : LineD) → text_of_pieces (line_pieces s n (line_draft s.names n l)) ≡ rt.line_text s.names n l
line_text s n l =
    let t : List ℕ = texts.term_text s.names n l.term in
    ap (λ (x : List ℕ). l.name ++ (codes " = " ++ x)) (text_append (term_pieces s n (term_draft s.names n l.term)) (line_end ∷ []) ∙ ap (λ (x : List ℕ). x ++ codes "\n") (term_text s n n l.term))
    ∙ line_regroup l.name (codes " = ") t (codes "\n")

lines_text : (s : Scope) (n : ℕ) (ls : List LineD) → text_of_pieces (each (line_pieces s n) (map (line_draft s.names n) ls)) ≡ flat_map (rt.line_text s.names n) ls
lines_text s n ls = ap text_of_pieces (each_map (line_pieces s n) (line_draft s.names n) ls) ∙ each_flat (λ l. line_pieces s n (line_draft s.names n l)) (rt.line_text s.names n) (line_text s n) ls

case_regroup : (w g n ls : List ℕ) → w ++ (g ++ (n ++ ls)) ≡ ((w ++ g) ++ n) ++ ls
case_regroup w g n ls = simp append_assoc

case_text : (s : Scope) (c : CaseD) → text_of_pieces (case_pieces s (case_draft s.names c)) ≡ rt.case_text s.names c
case_text s c =
    let n : ℕ = length s.names in
    let lines : List Piece = each (line_pieces s n) (map (line_draft s.names n) c.lines) in
    ap (λ (x : List ℕ). codes "case when " ++ x) (text_append (constraint_pieces s n (constraint_draft s.names c.«when»)) (line_end ∷ lines)
    ∙ ap (λ (x : List ℕ). x ++ (codes "\n" ++ text_of_pieces lines)) (constraint_text s n c.«when»)
    ∙ ap (λ (x : List ℕ). texts.constraint_text s.names c.«when» ++ (codes "\n" ++ x)) (lines_text s n c.lines))
    ∙ case_regroup (codes "case when ") (texts.constraint_text s.names c.«when») (codes "\n") (flat_map (rt.line_text s.names n) c.lines)

cases_text : (s : Scope) (cs : List CaseD) → text_of_pieces (each (case_pieces s) (map (case_draft s.names) cs)) ≡ flat_map (rt.case_text s.names) cs
cases_text s cs = ap text_of_pieces (each_map (case_pieces s) (case_draft s.names) cs) ∙ each_flat (λ c. case_pieces s (case_draft s.names c)) (rt.case_text s.names) (case_text s) cs

pub head_rest_text : (s : Scope) → text_of_pieces (head_rest s) ≡ codes "\n" ++ (rt.structure_text s.ordered ++ (codes "parameters" ++ (flat_map rt.spaced s.names ++ codes "\n")))
head_rest_text s = ap (λ (x : List ℕ). codes "\n" ++ (rt.structure_text s.ordered ++ (codes "parameters" ++ x))) (text_append (name_pieces [] s.names) (line_end ∷ []) ∙ ap (λ (x : List ℕ). x ++ codes "\n") (names_flat [] s.names))

regroup : (a s p n l c e : List ℕ) → a ++ ((s ++ (p ++ (n ++ l))) ++ (c ++ e)) ≡ (((a ++ s) ++ ((p ++ n) ++ l)) ++ c) ++ e
regroup a s p n l c e = simp append_assoc

pub results_text_is : (r : Results) → text_of_pieces (results_pieces (results_draft r)) ≡ rt.results_text r
results_text_is r =
    let d : ResultsDraft = results_draft r in
    let s : Scope = scope_of (results_draft r) in
    let cases : List ℕ = text_of_pieces (each (case_pieces s) (map (case_draft r.parameters) r.cases)) in
    let names : List ℕ = flat_map rt.spaced r.parameters in
    ap text_of_pieces (results_rest_is d)
    ∙ ap (λ (x : List ℕ). codes "lois results 1" ++ x) (results_rest_text d ∙ ap (λ (x : List ℕ). x ++ (cases ++ codes "end\n")) (head_rest_text s)
    ∙ ap (λ (x : List ℕ). (codes "\n" ++ (rt.structure_text r.order ++ (codes "parameters" ++ (names ++ codes "\n")))) ++ (x ++ codes "end\n")) (cases_text s r.cases))
    ∙ regroup (codes "lois results 1\n") (rt.structure_text r.order) (codes "parameters") names (codes "\n") (flat_map (rt.case_text r.parameters) r.cases) (codes "end\n")

-- ---- parameters

words_of : (ws : List (List ℕ)) → AllByRecursion IsFreeName ws → AllByRecursion IsWord ws
words_of [] h = tt
words_of (w ∷ ws) h = (name_is_word w h.0.form, words_of ws h.1)

pub parameters_of : (ps : List (List ℕ)) → AreParameters ps → Parameters ps
parameters_of ps h = record { words = words_of ps (recursion_from_All IsFreeName ps h.free); distinct = h.distinct }

not_among : (words : List (List ℕ)) (w : List ℕ) → (Contains words w → ⊥) → is_among words w ≡ false
not_among words w h =
    elim (is_among words w) as (λ b. is_among words w ≡ b → b ≡ false) [ true ↦ λ e. absurd (h ((is_among_iff words w).0 e)) | false ↦ λ e. refl ] refl

pub free_is : (w : List ℕ) → IsFreeName w → is_unreserved w ≡ true
free_is w h = rw (le_test (length w) 64 h.form.short, not_among reserved w h.free) refl

apart : (w : List ℕ) (ws : List (List ℕ)) → (Contains ws w → ⊥) → AllByRecursion (λ x. bytes_eq x w ≡ false) ws
apart w [] h = tt
apart w (x ∷ xs) h = (unequal x w (λ e. h (0, omega arith, e)), apart w xs (λ k. h (suc k.0, omega (arith, k.1), k.2)))

pub among_append : (xs : List (List ℕ)) (w x : List ℕ) → is_among (xs ++ w ∷ []) x ≡ (is_among xs x || bytes_eq x w)
among_append [] w x = or_none (bytes_eq x w)
  where
    or_none : (b : Bool) → (b || false) ≡ b
    or_none true = refl
    or_none false = refl
among_append (y ∷ ys) w x = ap (λ (b : Bool). bytes_eq x y || b) (among_append ys w x) ∙ or_assoc (bytes_eq x y) (is_among ys x) (bytes_eq x w)
  where
    or_assoc : (a b c : Bool) → (a || (b || c)) ≡ ((a || b) || c)
    or_assoc true b c = refl
    or_assoc false b c = refl

still_apart : (before : List (List ℕ)) (w : List ℕ) (ws : List (List ℕ)) → AllByRecursion (λ x. is_among before x ≡ false) ws → AllByRecursion (λ x. bytes_eq x w ≡ false) ws → AllByRecursion (λ x. is_among (before ++ w ∷ []) x ≡ false) ws
still_apart before w [] h k = tt
still_apart before w (x ∷ xs) h k = (among_append before w x ∙ rw (h.0, k.0) refl, still_apart before w xs h.1 k.1)

names_whole : (before ws : List (List ℕ)) → AllByRecursion IsFreeName ws → AreDistinct ws → AllByRecursion (λ x. is_among before x ≡ false) ws → Unbroken (name_pieces before ws)
names_whole before [] free distinct new = tt
names_whole before (w ∷ ws) free distinct new =
    (refl, (both (is_unreserved w) (is_among before w) (free_is w free.0) new.0, names_whole (before ++ w ∷ []) ws free.1 distinct.1 (still_apart before w ws new.1 (apart w ws distinct.0))))
  where
    both : (a b : Bool) → a ≡ true → b ≡ false → not (a && not b) ≡ false
    both a b e f = rw (e, f) refl

none_before : (ws : List (List ℕ)) → AllByRecursion (λ x. is_among [] x ≡ false) ws
none_before [] = tt
none_before (w ∷ ws) = (refl, none_before ws)

pub head_whole : (s : Scope) → AreParameters s.names → Unbroken (head_rest s)
head_whole s h = (refl, (refl, (refl, unbroken_append (name_pieces [] s.names) (line_end ∷ []) (names_whole [] s.names (recursion_from_All IsFreeName s.names h.free) h.distinct (none_before s.names)) (refl, tt))))

-- ---- lines and cases

pub lines_form : (ps : List (List ℕ)) (o : Bool) (n : ℕ) (ls : List LineD) → Parameters ps → Small ps n → AllByRecursion (IsSoundLine o n) ls → AllByRecursion IsLineDraft (map (line_draft ps n) ls)
lines_form ps o n [] good small sound = tt
lines_form ps o n (l ∷ ls) good small sound =
    let t = sound.0.term in
    ((name_is_word l.name sound.0.name.form, term_form ps 64 n l.term good small t.levels t.tags t.widths t.strict t.brackets), lines_form ps o n ls good small sound.1)

line_whole : (s : Scope) (n : ℕ) (l : LineD) → Small s.names n → IsSoundLine s.ordered n l → Unbroken (line_pieces s n (line_draft s.names n l))
line_whole s n l small sound =
    let t = sound.term in
    (ap not (free_is l.name sound.name), (refl, unbroken_append (term_pieces s n (term_draft s.names n l.term)) (line_end ∷ []) (term_whole s n l.term small t.levels t.tags t.widths t.operators) (refl, tt)))

pub lines_whole : (s : Scope) (n : ℕ) (ls : List LineD) → Small s.names n → AllByRecursion (IsSoundLine s.ordered n) ls → Unbroken (each (line_pieces s n) (map (line_draft s.names n) ls))
lines_whole s n ls small sound = subst Unbroken (sym (each_map (line_pieces s n) (line_draft s.names n) ls)) (unbroken_each (λ l. line_pieces s n (line_draft s.names n l)) (IsSoundLine s.ordered n) (λ l h. line_whole s n l small h) ls sound)

pub lines_value : (s : Scope) (n : ℕ) (ls : List LineD) → Parameters s.names → Small s.names n → AllByRecursion (IsSoundLine s.ordered n) ls → map (line_of s n) (map (line_draft s.names n) ls) ≡ ls
lines_value s n [] good small sound = refl
lines_value s n (l ∷ ls) good small sound =
    ap (λ (t : TermD). let x : List LineD = record { name = l.name; term = t } ∷ map (line_of s n) (map (line_draft s.names n) ls) in x) (term_value s n l.term good small sound.0.term.levels)
    ∙ ap (λ (xs : List LineD). l ∷ xs) (lines_value s n ls good small sound.1)

-- no level of the parameters' own is another's
small_top : (ps : List (List ℕ)) → Small ps (length ps)
small_top ps i le lt = absurd (omega arith)

case_form : (ps : List (List ℕ)) (o : Bool) (c : CaseD) → Parameters ps → IsSoundCase o (length ps) c → IsCaseDraft (case_draft ps c)
case_form ps o c good sound = (constraint_form ps (length ps) c.«when» good (small_top ps) sound.levels sound.strict, lines_form ps o (length ps) c.lines good (small_top ps) (recursion_from_All (IsSoundLine o (length ps)) c.lines sound.lines))

cases_form : (ps : List (List ℕ)) (o : Bool) (cs : List CaseD) → Parameters ps → AllByRecursion (IsSoundCase o (length ps)) cs → AllByRecursion IsCaseDraft (map (case_draft ps) cs)
cases_form ps o [] good sound = tt
cases_form ps o (c ∷ cs) good sound = (case_form ps o c good sound.0, cases_form ps o cs good sound.1)

case_whole : (s : Scope) (c : CaseD) → IsSoundCase s.ordered (length s.names) c → Unbroken (case_pieces s (case_draft s.names c))
case_whole s c sound =
    let n : ℕ = length s.names in
    (refl, unbroken_append (constraint_pieces s n (constraint_draft s.names c.«when»)) (line_end ∷ each (line_pieces s n) (map (line_draft s.names n) c.lines)) (constraint_whole s n c.«when» (small_top s.names) sound.levels sound.operators) (refl, lines_whole s n c.lines (small_top s.names) (recursion_from_All (IsSoundLine s.ordered n) c.lines sound.lines)))

case_value : (s : Scope) (c : CaseD) → Parameters s.names → IsSoundCase s.ordered (length s.names) c → case_of s (case_draft s.names c) ≡ c
case_value s c good sound =
    let n : ℕ = length s.names in
    ap (λ (g : List (List Lit)). let x : CaseD = record { «when» = g; lines = map (line_of s n) (map (line_draft s.names n) c.lines) } in x) (constraint_value s n c.«when» good (small_top s.names) sound.levels)
    ∙ ap (λ (ls : List LineD). let x : CaseD = record { «when» = c.«when»; lines = ls } in x) (lines_value s n c.lines good (small_top s.names) (recursion_from_All (IsSoundLine s.ordered n) c.lines sound.lines))

cases_value : (s : Scope) (cs : List CaseD) → Parameters s.names → AllByRecursion (IsSoundCase s.ordered (length s.names)) cs → map (case_of s) (map (case_draft s.names) cs) ≡ cs
cases_value s [] good sound = refl
cases_value s (c ∷ cs) good sound = ap (λ (x : CaseD). x ∷ map (case_of s) (map (case_draft s.names) cs)) (case_value s c good sound.0) ∙ ap (λ (xs : List CaseD). c ∷ xs) (cases_value s cs good sound.1)

-- ---- results

pub results_form : (r : Results) → IsSound r → IsResultsDraft (results_draft r)
results_form r sound =
    let good = parameters_of r.parameters sound.parameters in
    record { parameters = good.words; cases = cases_form r.parameters r.order r.cases good (recursion_from_All (IsSoundCase r.order (length r.parameters)) r.cases sound.cases) }

pub results_whole : (r : Results) → IsSound r → Unbroken (results_pieces (results_draft r))
results_whole r sound =
    let s : Scope = scope_of (results_draft r) in
    let cases : List Piece = each (case_pieces s) (map (case_draft r.parameters) r.cases) in
    subst Unbroken (sym (results_rest_is (results_draft r))) (
      refl,
      (
        refl,
        unbroken_append (head_rest s) (cases ++ end_piece ∷ []) (head_whole s sound.parameters) (unbroken_append cases (end_piece ∷ [])
            (subst Unbroken (sym (each_map (case_pieces s) (case_draft r.parameters) r.cases)) (unbroken_each (λ c. case_pieces s (case_draft r.parameters c)) (IsSoundCase r.order (length r.parameters)) (λ c h. case_whole s c h) r.cases (recursion_from_All (IsSoundCase r.order (length r.parameters)) r.cases sound.cases)))
            (refl, tt)),
      ),
    )

pub results_value : (r : Results) → IsSound r → results_of (results_draft r) ≡ r
results_value r sound =
    ap (λ (cs : List CaseD). let x : Results = record { order = r.order; parameters = r.parameters; cases = cs } in x)
    (cases_value (scope_of (results_draft r)) r.cases (parameters_of r.parameters sound.parameters) (recursion_from_All (IsSoundCase r.order (length r.parameters)) r.cases sound.cases))

pub reading_is : (d : ResultsDraft) → IsResultsDraft d → results_reading (text_of_pieces (results_pieces d)) ≡ (out (results_pieces d) (results_of d) [] >>= λ x. Ok x.0)
reading_is d form = ap (λ e. e >>= λ end. results_text_at (text_of_pieces (results_pieces d))) (results_text_front d form) ∙ results_text_out d form

-- Sound results are read from their text.
pub results_back : (r : Results) → IsSound r → results_reading (rt.results_text r) ≡ Ok r
results_back r sound =
    let d : ResultsDraft = results_draft r in
    ap results_reading (sym (results_text_is r))
    ∙ reading_is d (results_form r sound)
    ∙ ap (λ e. e >>= λ x. Ok x.0) (out_unbroken (results_pieces d) (results_of d) [] (results_whole r sound))
    ∙ ap (λ (x : Results). Ok x) (results_value r sound)

-- how many bytes are left at the first broken piece
broken_later : {A : Type 0} (n m l : ℕ) (k : ℕ) (o : Option ℕ) (x : Result A ℕ) → ((i : ℕ) → o ≡ Some i → (left : ℕ) × (x ≡ Err left) × (i + left ≡ m + l)) → option_map (λ i. n + i) o ≡ Some k → (left : ℕ) × (x ≡ Err left) × (k + left ≡ (n + m) + l)
broken_later n m l k None x later f = absurd cc
broken_later n m l k (Some i) x later f =
    let rest = later i refl in
    let z : n + i ≡ k = cc in
    let sum : i + rest.0 ≡ m + l = rest.2 in
    (rest.0, rest.1, omega arith)

broken_here : (n m l k : ℕ) → (let o : Option ℕ = Some 0 in o) ≡ Some k → k + (n + (m + l)) ≡ (n + m) + l
broken_here n m l k h = let z : 0 ≡ k = cc in omega arith

pub out_broken : {A : Type 0} (ps : List Piece) (a : A) (r : List ℕ) (k : ℕ) → first_broken ps ≡ Some k → (left : ℕ) × (out ps a r ≡ Err left) × (k + left ≡ size ps + length r)
out_broken [] a r k e = absurd cc
out_broken (p ∷ ps) a r k e =
    elim p.broken as (λ b. cond b (Some 0) (option_map (λ i. length p.bytes + i) (first_broken ps)) ≡ Some k → (left : ℕ) × (cond b (Err (length p.bytes + (size ps + length r))) (out ps a r) ≡ Err left) × (k + left ≡ (length p.bytes + size ps) + length r)) [
      | true ↦ λ h. (length p.bytes + (size ps + length r), refl, broken_here (length p.bytes) (size ps) (length r) k h)
      | false ↦ λ h. broken_later (length p.bytes) (size ps) (length r) k (first_broken ps) (out ps a r) (λ i f. out_broken ps a r i f) h
    ] e
