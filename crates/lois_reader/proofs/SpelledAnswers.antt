-- What the readers of lines and of whole texts pass over is the text of a draft.
use Rattle.std.proofs.Common.{◌≡◌, ℕ, zero, suc, Bool, true, false, cond, ◌&&◌, List, [], ◌∷◌, ◌++◌, length, Ok, refl, sym, ap, subst, ◌∙◌, append_assoc}
use Rattle.std.specs.Prelude.{codes, bytes_eq}
use Rattle.std.specs.List.{AllByRecursion}
use Rattle.std.proofs.lemmas.Bool.{and_parts}
use Rattle.std.proofs.lemmas.Slice.Eq.{bytes_eq-Decides}
use Rattle.lois_answers.specs.ResultsText.{structure_text}
use Rattle.lois_answers.specs.TraceText.{kind_text}
use Rattle.lois_answers.specs.declared.faults.FaultKind.{FaultKind}
use Rattle.lois_answers.specs.declared.faults.FaultKind.TheVariants.{Assertion, NotASet, NotAtoms, NotATuple, NoSuchPart, NotAutomaton, NotDeterministic, NotComplete, TurnLimit, DepthLimit}
use Rattle.lois_reader.specs.declared.scope.Scope.{Scope}
use Rattle.lois_reader.specs.Draft.{ConstraintDraft, TermDraft, LineDraft, CaseDraft, ResultsDraft, TraceDraft, IsWord, IsNumber, IsConstraintDraft, IsTermDraft, IsLineDraft, IsCaseDraft, IsResultsDraft, IsTraceDraft}
use Rattle.lois_reader.specs.Draft as draft
use Rattle.lois_reader.specs.Pieces.{Piece, each, constraint_pieces, term_pieces, line_pieces, case_pieces, name_pieces, end_piece, failure_pieces}
use Rattle.lois_reader.specs.Shape.{text_of_pieces, HasResultsShape, HasAnswerShape}
use Rattle.lois_reader.specs.Reading.{◌>>=◌, End, begins}
use Rattle.lois_reader.specs.Ends.{fixed_end, word_at, word_end, number_end, many_end, constraint_end, term_end}
use Rattle.lois_reader.specs.AnswerEnds.{structure_end, name_end, names_end, head_end, when_end, body_end, behind_case, assigned_end, behind_word, entry_at, opening_at, entries_end, cases_end, not_a_end, not_end, no_end, kind_end, failure_end, choice_number_end, numbers_end, choice_end, element_end, elements_end, trace_end, results_end, ends_text, results_text_end, version_end, answer_text_end}
use Rattle.lois_reader.proofs.Outcome.{text_append, text_split}
use Rattle.lois_reader.proofs.Backs.{no_ok, same_ok, got, fixed_back, word_back, word_at_back, number_back}
use Rattle.lois_reader.proofs.AnswerFronts.{name_text, head_rest, head_text, line_text, case_text, results_rest, results_rest_is, results_rest_text}
use Rattle.lois_reader.proofs.TraceFronts.{trace_scope, failure_text, number_pieces, number_text, choice_line, choice_text, element_pieces, elements_of, trace_rest, trace_rest_is}
use Rattle.lois_reader.proofs.ExactAnswers.{marked, further, set_or_tuple}
use Rattle.lois_reader.proofs.Spelled.{Spelled, many_spelled, then_text, constraint_spelled, term_spelled}

-- ---- the head

name_spelled : (s r : List ℕ) → name_end s ≡ Ok r → (w : List ℕ) × IsWord w × (s ≡ codes " " ++ (w ++ r))
name_spelled s r e =
    let m = got (fixed_end (codes " ") s) word_end r e in
    let w = word_back m.0 r m.2 in
    (w.0, w.1.form, then_text (codes " ") (fixed_back (codes " ") s m.0 m.1) w.1.split)

record NamesAt (s r : List ℕ) : Type 0 where
  pub names : List (List ℕ)
  pub form : AllByRecursion IsWord names
  pub text : (before : List (List ℕ)) → s ≡ text_of_pieces (name_pieces before names) ++ r

many_names : (n : ℕ) (s r : List ℕ) → many_end (begins 32) name_end n s ≡ Ok r → NamesAt s r
many_names zero s r e = absurd (no_ok e)
many_names (suc n) s r e =
    elim (begins 32 s) as (λ v. begins 32 s ≡ v → NamesAt s r) [
      | true ↦ λ h. let m = got (name_end s) (many_end (begins 32) name_end n) r (rw h at e) in
          let w = name_spelled s m.0 m.1 in
          let ws = many_names n m.0 r m.2 in
          record {
            names = w.0 ∷ ws.names;
            form = (w.1, ws.form);
            text = λ before. w.2 ∙ ap (λ (x : List ℕ). codes " " ++ (w.0 ++ x)) (ws.text (before ++ w.0 ∷ [])) ∙ sym (name_text before w.0 ws.names r);
          }
      | false ↦ λ h. record { names = []; form = tt; text = λ before. same_ok (rw h at e) }
    ] refl

names_spelled : (s r : List ℕ) → names_end s ≡ Ok r → NamesAt s r
unfolding names_end
names_spelled s r e = many_names (suc (length s)) s r e

structure_spelled : (s r : List ℕ) → structure_end s ≡ Ok r → (o : Bool) × (codes "\natoms " ++ s ≡ codes "\n" ++ (structure_text o ++ r))
unfolding structure_end
structure_spelled s r e =
    elim (begins 111 s) as (λ v. begins 111 s ≡ v → (o : Bool) × (codes "\natoms " ++ s ≡ codes "\n" ++ (structure_text o ++ r))) [
      | true ↦ λ h. (true, ap (λ (x : List ℕ). codes "\natoms " ++ x) (fixed_back (codes "order\n") s r (rw h at e)))
      | false ↦ λ h. (false, ap (λ (x : List ℕ). codes "\natoms " ++ x) (fixed_back (codes "equality\n") s r (rw h at e)))
    ] refl

record HeadAt (s r : List ℕ) : Type 0 where
  pub scope : Scope
  pub form : AllByRecursion IsWord scope.names
  pub text : s ≡ text_of_pieces (head_rest scope) ++ r

head_spelled : (s r : List ℕ) → head_end s ≡ Ok r → HeadAt s r
unfolding head_end
head_spelled s r e =
    let f = got (fixed_end (codes "\natoms ") s >>= structure_end >>= fixed_end (codes "parameters") >>= names_end) (fixed_end (codes "\n")) r e in
    let g = got (fixed_end (codes "\natoms ") s >>= structure_end >>= fixed_end (codes "parameters")) names_end f.0 f.1 in
    let h = got (fixed_end (codes "\natoms ") s >>= structure_end) (fixed_end (codes "parameters")) g.0 g.1 in
    let i = got (fixed_end (codes "\natoms ") s) structure_end h.0 h.1 in
    let o = structure_spelled i.0 h.0 i.2 in
    let ns = names_spelled g.0 f.0 g.2 in
    let scope : Scope = record { names = ns.names; ordered = o.0 } in
    record {
      scope = scope;
      form = ns.form;
      text = fixed_back (codes "\natoms ") s i.0 i.1 ∙ o.1
          ∙ ap (λ (x : List ℕ). codes "\n" ++ (structure_text o.0 ++ x)) (then_text (codes "parameters") (fixed_back (codes "parameters") h.0 g.0 h.2) (then_text (text_of_pieces (name_pieces [] ns.names)) (ns.text []) (fixed_back (codes "\n") f.0 r f.2)))
          ∙ sym (head_text scope r);
    }

-- ---- lines

record TermAt (s r : List ℕ) : Type 0 where
  pub term : TermDraft
  pub form : IsTermDraft 64 term
  pub text : (c : Scope) (n : ℕ) → s ≡ text_of_pieces (term_pieces c n term) ++ (codes "\n" ++ r)

record WhenAt (s r : List ℕ) : Type 0 where
  pub guard : ConstraintDraft
  pub form : IsConstraintDraft guard
  pub text : (c : Scope) (n : ℕ) → s ≡ text_of_pieces (constraint_pieces c n guard) ++ (codes "\n" ++ r)

body_spelled : (s r : List ℕ) → body_end s ≡ Ok r → TermAt s r
unfolding body_end
body_spelled s r e =
    let m = got (term_end 64 s) (fixed_end (codes "\n")) r e in
    let t = term_spelled 64 s m.0 m.1 in
    record { term = t.draft; form = t.form; text = λ c n. then_text (text_of_pieces (term_pieces c n t.draft)) (t.text c n) (fixed_back (codes "\n") m.0 r m.2) }

when_spelled : (s r : List ℕ) → when_end s ≡ Ok r → WhenAt s r
unfolding when_end
when_spelled s r e =
    let m = got (constraint_end s) (fixed_end (codes "\n")) r e in
    let g = constraint_spelled s m.0 m.1 in
    record { guard = g.draft; form = g.form; text = λ c n. then_text (text_of_pieces (constraint_pieces c n g.draft)) (g.text c n) (fixed_back (codes "\n") m.0 r m.2) }

-- behind the name of a line
record AssignedAt (s r : List ℕ) : Type 0 where
  pub term : TermDraft
  pub form : IsTermDraft 64 term
  pub text : (c : Scope) (n : ℕ) → s ≡ codes " = " ++ (text_of_pieces (term_pieces c n term) ++ (codes "\n" ++ r))

-- behind `case`
record CaseAt (s r : List ℕ) : Type 0 where
  pub guard : ConstraintDraft
  pub form : IsConstraintDraft guard
  pub text : (c : Scope) (n : ℕ) → s ≡ codes " when " ++ (text_of_pieces (constraint_pieces c n guard) ++ (codes "\n" ++ r))

assigned_spelled : (s r : List ℕ) → assigned_end s ≡ Ok r → AssignedAt s r
unfolding assigned_end
assigned_spelled s r e =
    let m = got (fixed_end (codes " = ") s) body_end r e in
    let t = body_spelled m.0 r m.2 in
    record { term = t.term; form = t.form; text = λ c n. then_text (codes " = ") (fixed_back (codes " = ") s m.0 m.1) (t.text c n) }

data BehindWord (w s r : List ℕ) : Type 0 where
  assigned : AssignedAt s r → BehindWord w s r
  case_when : w ≡ codes "case" → CaseAt s r → BehindWord w s r

behind_case_spelled : (w s r : List ℕ) → w ≡ codes "case" → behind_case s ≡ Ok r → BehindWord w s r
unfolding behind_case
behind_case_spelled w s r is e =
    let m = got (fixed_end (codes " ") s) (λ q. cond (begins 119 q) (fixed_end (codes "when ") q >>= when_end) (fixed_end (codes "= ") q >>= body_end)) r e in
    let split : s ≡ codes " " ++ m.0 = fixed_back (codes " ") s m.0 m.1 in
    elim (begins 119 m.0) as (λ v. begins 119 m.0 ≡ v → BehindWord w s r) [
      | true ↦ λ h. let k = got (fixed_end (codes "when ") m.0) when_end r (rw h at m.2) in
          let g = when_spelled k.0 r k.2 in
          case_when is (record { guard = g.guard; form = g.form; text = λ c n. then_text (codes " ") split (then_text (codes "when ") (fixed_back (codes "when ") m.0 k.0 k.1) (g.text c n)) })
      | false ↦ λ h. let k = got (fixed_end (codes "= ") m.0) body_end r (rw h at m.2) in
          let t = body_spelled k.0 r k.2 in
          assigned (record { term = t.term; form = t.form; text = λ c n. then_text (codes " ") split (then_text (codes "= ") (fixed_back (codes "= ") m.0 k.0 k.1) (t.text c n)) })
    ] refl

word_spelled : (w s r : List ℕ) → behind_word w s ≡ Ok r → BehindWord w s r
unfolding behind_word
word_spelled w s r e =
    elim (bytes_eq w (codes "case")) as (λ v. bytes_eq w (codes "case") ≡ v → BehindWord w s r) [
      | true ↦ λ h. behind_case_spelled w s r ((bytes_eq-Decides w (codes "case")).0 h) (rw h at e)
      | false ↦ λ h. assigned (assigned_spelled s r (rw h at e))
    ] refl

-- A line inside a case: the last of the text, one with a name, or the first of a case.
data EntryAt (s : List ℕ) : Bool → List ℕ → Type 0 where
  last : {r : List ℕ} → s ≡ codes "end\n" ++ r → EntryAt s false r
  line : {r : List ℕ} (l : LineDraft) → IsLineDraft l → ((c : Scope) (n : ℕ) → s ≡ text_of_pieces (line_pieces c n l) ++ r) → EntryAt s true r
  opens : {r : List ℕ} (g : ConstraintDraft) → IsConstraintDraft g → ((c : Scope) (n : ℕ) → s ≡ codes "case when " ++ (text_of_pieces (constraint_pieces c n g) ++ (codes "\n" ++ r))) → EntryAt s true r

entry_of : (w s t r : List ℕ) → IsWord w → s ≡ w ++ t → BehindWord w t r → EntryAt s true r
entry_of w s t r form split (assigned h) =
    let l : LineDraft = record { name = w; term = h.term } in
    line l (form, h.form) (λ c n. then_text w split (h.text c n) ∙ sym (line_text c n l r))
entry_of w s t r form split (case_when is h) =
    opens h.guard h.form (λ c n. split ∙ ap (λ (x : List ℕ). x ++ t) is ∙ ap (λ (x : List ℕ). codes "case" ++ x) (h.text c n))

entry_spelled : (s : List ℕ) (y : Bool × List ℕ) → entry_at s ≡ Ok y → EntryAt s y.0 y.1
unfolding entry_at
entry_spelled s y e =
    let m = got (word_at s) (λ x. cond (bytes_eq x.0 (codes "end") && begins 10 x.1) (fixed_end (codes "\n") x.1 >>= marked false) (behind_word x.0 x.1 >>= marked true)) y e in
    let w = word_at_back s m.0 m.1 in
    elim (bytes_eq m.0.0 (codes "end") && begins 10 m.0.1) as (λ v. (bytes_eq m.0.0 (codes "end") && begins 10 m.0.1) ≡ v → EntryAt s y.0 y.1) [
      | true ↦ λ h. let k = got (fixed_end (codes "\n") m.0.1) (marked false) y (rw h at m.2) in
          let is : m.0.0 ≡ codes "end" = (bytes_eq-Decides m.0.0 (codes "end")).0 (and_parts (bytes_eq m.0.0 (codes "end")) (begins 10 m.0.1) h).0 in
          let here : Bool × List ℕ = (false, k.0) in
          let same : here ≡ y = same_ok k.2 in
          subst (λ (z : Bool × List ℕ). EntryAt s z.0 z.1) same (last (w.split ∙ ap (λ (x : List ℕ). x ++ m.0.1) is ∙ ap (λ (x : List ℕ). codes "end" ++ x) (fixed_back (codes "\n") m.0.1 k.0 k.1)))
      | false ↦ λ h. let k = got (behind_word m.0.0 m.0.1) (marked true) y (rw h at m.2) in
          let here : Bool × List ℕ = (true, k.0) in
          let same : here ≡ y = same_ok k.2 in
          subst (λ (z : Bool × List ℕ). EntryAt s z.0 z.1) same (entry_of m.0.0 s m.0.1 k.0 w.form w.split (word_spelled m.0.0 m.0.1 k.0 k.1))
    ] refl

-- ---- cases

-- the rest of a case, and the cases behind it
record LinesAt (s r : List ℕ) : Type 0 where
  pub lines : List LineDraft
  pub cases : List CaseDraft
  pub lines_form : AllByRecursion IsLineDraft lines
  pub cases_form : AllByRecursion IsCaseDraft cases
  pub text : (c : Scope) → s ≡ text_of_pieces (each (line_pieces c (length c.names)) lines) ++ (text_of_pieces (each (case_pieces c) cases) ++ (codes "end\n" ++ r))

add_entry : (n : ℕ) (r : List ℕ) → ((s : List ℕ) → entries_end n s ≡ Ok r → LinesAt s r) → (s : List ℕ) (goes_on : Bool) (t : List ℕ) → EntryAt s goes_on t → cond goes_on (entries_end n t) (Ok t) ≡ Ok r → LinesAt s r
add_entry n r rec s false t (last split) e = record { lines = []; cases = []; lines_form = tt; cases_form = tt; text = λ c. split ∙ ap (λ (x : List ℕ). codes "end\n" ++ x) (same_ok e) }
add_entry n r rec s true t (line l form text) e =
    let later = rec t e in
    record {
      lines = l ∷ later.lines;
      cases = later.cases;
      lines_form = (form, later.lines_form);
      cases_form = later.cases_form;
      text = λ c. then_text (text_of_pieces (line_pieces c (length c.names) l)) (text c (length c.names)) (later.text c)
          ∙ sym (text_split (line_pieces c (length c.names) l) (each (line_pieces c (length c.names)) later.lines) (text_of_pieces (each (case_pieces c) later.cases) ++ (codes "end\n" ++ r)));
    }
add_entry n r rec s true t (opens g form text) e =
    let later = rec t e in
    let k : CaseDraft = record { «when» = g; lines = later.lines } in
    record {
      lines = [];
      cases = k ∷ later.cases;
      lines_form = tt;
      cases_form = ((form, later.lines_form), later.cases_form);
      text = λ c. text c (length c.names)
          ∙ ap (λ (x : List ℕ). codes "case when " ++ (text_of_pieces (constraint_pieces c (length c.names) g) ++ (codes "\n" ++ x))) (later.text c)
          ∙ sym (case_text c k (text_of_pieces (each (case_pieces c) later.cases) ++ (codes "end\n" ++ r)))
          ∙ sym (text_split (case_pieces c k) (each (case_pieces c) later.cases) (codes "end\n" ++ r));
    }

lines_spelled : (n : ℕ) (r s : List ℕ) → entries_end n s ≡ Ok r → LinesAt s r
lines_spelled zero r s e = absurd (no_ok e)
lines_spelled (suc n) r s e =
    let m = got (entry_at s) (λ x. cond x.0 (entries_end n x.1) (Ok x.1)) r e in
    add_entry n r (lines_spelled n r) s m.0.0 m.0.1 (entry_spelled s m.0 m.1) m.2

record CasesAt (s r : List ℕ) : Type 0 where
  pub cases : List CaseDraft
  pub form : AllByRecursion IsCaseDraft cases
  pub text : (c : Scope) → s ≡ text_of_pieces (each (case_pieces c) cases) ++ (codes "end\n" ++ r)

first_case : (s t r : List ℕ) → WhenAt t r → s ≡ codes "case when " ++ t → (u : List ℕ) → LinesAt r u → CasesAt s u
first_case s t r g split u later =
    let k : CaseDraft = record { «when» = g.guard; lines = later.lines } in
    record {
      cases = k ∷ later.cases;
      form = ((g.form, later.lines_form), later.cases_form);
      text = λ c. then_text (codes "case when ") split (g.text c (length c.names))
          ∙ ap (λ (x : List ℕ). codes "case when " ++ (text_of_pieces (constraint_pieces c (length c.names) g.guard) ++ (codes "\n" ++ x))) (later.text c)
          ∙ sym (case_text c k (text_of_pieces (each (case_pieces c) later.cases) ++ (codes "end\n" ++ u)))
          ∙ sym (text_split (case_pieces c k) (each (case_pieces c) later.cases) (codes "end\n" ++ u));
    }

cases_open : (s r : List ℕ) (y : Bool × List ℕ) → opening_at s ≡ Ok y → further y ≡ Ok r → CasesAt s r
unfolding opening_at
cases_open s r y e later =
    elim (begins 99 s) as (λ v. begins 99 s ≡ v → CasesAt s r) [
      | true ↦ λ h. let k = got (fixed_end (codes "case when ") s >>= when_end) (marked true) y (rw h at e) in
          let f = got (fixed_end (codes "case when ") s) when_end k.0 k.1 in
          let here : Bool × List ℕ = (true, k.0) in
          let same : here ≡ y = same_ok k.2 in
          first_case s f.0 k.0 (when_spelled f.0 k.0 f.2) (fixed_back (codes "case when ") s f.0 f.1) r (lines_spelled (suc (length k.0)) r k.0 (ap further same ∙ later))
      | false ↦ λ h. let k = got (fixed_end (codes "end\n") s) (marked false) y (rw h at e) in
          let here : Bool × List ℕ = (false, k.0) in
          let same : here ≡ y = same_ok k.2 in
          record { cases = []; form = tt; text = λ c. then_text (codes "end\n") (fixed_back (codes "end\n") s k.0 k.1) (same_ok (ap further same ∙ later)) }
    ] refl

cases_spelled : (s r : List ℕ) → cases_end s ≡ Ok r → CasesAt s r
unfolding cases_end
cases_spelled s r e =
    let m = got (opening_at s) further r e in
    cases_open s r m.0 m.1 m.2

-- ---- results

whole_spelled : (s r : List ℕ) → ends_text s ≡ Ok r → s ≡ []
whole_spelled [] r e = refl
whole_spelled (b ∷ s) r e = absurd (no_ok e)

record ResultsAt (s : List ℕ) : Type 0 where
  pub draft : ResultsDraft
  pub form : IsResultsDraft draft
  pub text : s ≡ text_of_pieces (results_rest draft)

results_spelled : (s : List ℕ) → results_end s ≡ Ok [] → ResultsAt s
unfolding results_end
results_spelled s e =
    let m = got (head_end s) cases_end [] e in
    let h = head_spelled s m.0 m.1 in
    let cs = cases_spelled m.0 [] m.2 in
    let d : ResultsDraft = record { ordered = h.scope.ordered; parameters = h.scope.names; cases = cs.cases } in
    record { draft = d; form = record { parameters = h.form; cases = cs.form }; text = then_text (text_of_pieces (head_rest h.scope)) h.text (cs.text h.scope) ∙ sym (results_rest_text d) }

results_shape : (s t : List ℕ) → s ≡ codes "lois results 1" ++ t → ResultsAt t → HasResultsShape s
results_shape s t split h =
    (h.draft, record { form = h.form; spelled = ap (λ (ps : List Piece). text_of_pieces ps) (results_rest_is h.draft) ∙ sym (then_text (codes "lois results 1") split h.text) })

pub results_text_spelled : (s : List ℕ) → results_text_end s ≡ Ok [] → HasResultsShape s
unfolding results_text_end
results_text_spelled s e =
    let m = got (fixed_end (codes "lois results 1") s >>= results_end) ends_text [] e in
    let k = got (fixed_end (codes "lois results 1") s) results_end m.0 m.1 in
    results_shape s k.0 (fixed_back (codes "lois results 1") s k.0 k.1) (results_spelled k.0 (k.2 ∙ ap (λ (x : List ℕ). Ok x) (whole_spelled m.0 [] m.2)))

-- ---- traces

-- a kind whose first bytes, before, were read already
abbrev KindAt : List ℕ → List ℕ → List ℕ → Type 0
KindAt before s r = (k : FaultKind) × (before ++ s ≡ kind_text k ++ r)

kind_word : (before x s r : List ℕ) (k : FaultKind) → before ++ x ≡ kind_text k → fixed_end x s ≡ Ok r → before ++ s ≡ kind_text k ++ r
kind_word before x s r k is e = ap (λ (y : List ℕ). before ++ y) (fixed_back x s r e) ∙ sym (append_assoc before x r) ∙ ap (λ (y : List ℕ). y ++ r) is

kind_if : (c : ℕ) (before x s r : List ℕ) (k : FaultKind) (other : End) → before ++ x ≡ kind_text k → (other ≡ Ok r → KindAt before s r) → cond (begins c s) (fixed_end x s) other ≡ Ok r → KindAt before s r
kind_if c before x s r k other is later e =
    elim (begins c s) as (λ v. begins c s ≡ v → KindAt before s r) [
      | true ↦ λ h. (k, kind_word before x s r k is (rw h at e))
      | false ↦ λ h. later (rw h at e)
    ] refl

kind_step : (before x s m r : List ℕ) → s ≡ x ++ m → KindAt (before ++ x) m r → KindAt before s r
kind_step before x s m r split h = (h.0, ap (λ (y : List ℕ). before ++ y) split ∙ sym (append_assoc before x m) ∙ h.1)

not_a_spelled : (s r : List ℕ) → not_a_end s ≡ Ok r → KindAt (codes "not a") s r
unfolding not_a_end
not_a_spelled s r e =
    kind_if 110 (codes "not a") (codes "n automaton") s r NotAutomaton (cond (begins 116 s) (fixed_end (codes "toms") s) (fixed_end (codes " ") s >>= set_or_tuple)) refl
    (λ f. kind_if 116 (codes "not a") (codes "toms") s r NotAtoms (fixed_end (codes " ") s >>= set_or_tuple) refl
    (λ g. let m = got (fixed_end (codes " ") s) set_or_tuple r g in
    kind_step (codes "not a") (codes " ") s m.0 r (fixed_back (codes " ") s m.0 m.1)
    (kind_if 115 (codes "not a ") (codes "set") m.0 r NotASet (fixed_end (codes "tuple") m.0) refl (λ h. (NotATuple, kind_word (codes "not a ") (codes "tuple") m.0 r NotATuple refl h)) m.2)) f) e

not_spelled : (s r : List ℕ) → not_end s ≡ Ok r → KindAt (codes "not ") s r
unfolding not_end
not_spelled s r e =
    kind_if 100 (codes "not ") (codes "deterministic") s r NotDeterministic (cond (begins 99 s) (fixed_end (codes "complete") s) (fixed_end (codes "a") s >>= not_a_end)) refl
    (λ f. kind_if 99 (codes "not ") (codes "complete") s r NotComplete (fixed_end (codes "a") s >>= not_a_end) refl
    (λ g. let m = got (fixed_end (codes "a") s) not_a_end r g in
    kind_step (codes "not ") (codes "a") s m.0 r (fixed_back (codes "a") s m.0 m.1) (not_a_spelled m.0 r m.2)) f) e

no_spelled : (s r : List ℕ) → no_end s ≡ Ok r → KindAt (codes "no") s r
unfolding no_end
no_spelled s r e =
    kind_if 32 (codes "no") (codes " such part") s r NoSuchPart (fixed_end (codes "t ") s >>= not_end) refl
    (λ g. let m = got (fixed_end (codes "t ") s) not_end r g in
    kind_step (codes "no") (codes "t ") s m.0 r (fixed_back (codes "t ") s m.0 m.1) (not_spelled m.0 r m.2)) e

kind_spelled : (s r : List ℕ) → kind_end s ≡ Ok r → KindAt [] s r
unfolding kind_end
kind_spelled s r e =
    kind_if 97 [] (codes "assertion failed") s r Assertion (cond (begins 116 s) (fixed_end (codes "turn limit") s) (cond (begins 100 s) (fixed_end (codes "depth limit") s) (fixed_end (codes "no") s >>= no_end))) refl
    (λ f. kind_if 116 [] (codes "turn limit") s r TurnLimit (cond (begins 100 s) (fixed_end (codes "depth limit") s) (fixed_end (codes "no") s >>= no_end)) refl
    (λ g. kind_if 100 [] (codes "depth limit") s r DepthLimit (fixed_end (codes "no") s >>= no_end) refl
    (λ h. let m = got (fixed_end (codes "no") s) no_end r h in
    kind_step [] (codes "no") s m.0 r (fixed_back (codes "no") s m.0 m.1) (no_spelled m.0 r m.2)) g) f) e

record FailureAt (s r : List ℕ) : Type 0 where
  pub line : List ℕ
  pub column : List ℕ
  pub kind : FaultKind
  pub line_form : IsNumber line
  pub column_form : IsNumber column
  pub text : s ≡ codes "failed at " ++ (line ++ (codes ":" ++ (column ++ (codes ": " ++ (kind_text kind ++ (codes "\n" ++ r))))))

failure_spelled : (s r : List ℕ) → failure_end s ≡ Ok r → FailureAt s r
unfolding failure_end
failure_spelled s r e =
    let a = got (fixed_end (codes "failed at ") s >>= number_end >>= fixed_end (codes ":") >>= number_end >>= fixed_end (codes ": ") >>= kind_end) (fixed_end (codes "\n")) r e in
    let b = got (fixed_end (codes "failed at ") s >>= number_end >>= fixed_end (codes ":") >>= number_end >>= fixed_end (codes ": ")) kind_end a.0 a.1 in
    let c = got (fixed_end (codes "failed at ") s >>= number_end >>= fixed_end (codes ":") >>= number_end) (fixed_end (codes ": ")) b.0 b.1 in
    let d = got (fixed_end (codes "failed at ") s >>= number_end >>= fixed_end (codes ":")) number_end c.0 c.1 in
    let f = got (fixed_end (codes "failed at ") s >>= number_end) (fixed_end (codes ":")) d.0 d.1 in
    let g = got (fixed_end (codes "failed at ") s) number_end f.0 f.1 in
    let l = number_back g.0 f.0 g.2 in
    let k = number_back d.0 c.0 d.2 in
    let kind = kind_spelled b.0 a.0 b.2 in
    record {
      line = l.0;
      column = k.0;
      kind = kind.0;
      line_form = l.1.form;
      column_form = k.1.form;
      text = then_text (codes "failed at ") (fixed_back (codes "failed at ") s g.0 g.1)
          (then_text l.0 l.1.split (then_text (codes ":") (fixed_back (codes ":") f.0 d.0 f.2)
          (then_text k.0 k.1.split (then_text (codes ": ") (fixed_back (codes ": ") c.0 b.0 c.2)
          (then_text (kind_text kind.0) kind.1 (fixed_back (codes "\n") a.0 r a.2))))));
    }

number_spelled : (s r : List ℕ) → choice_number_end s ≡ Ok r → Spelled IsNumber (λ c n ds. number_pieces ds) s r
number_spelled s r e =
    let m = got (fixed_end (codes " ") s) number_end r e in
    let d = number_back m.0 r m.2 in
    record { draft = d.0; form = d.1.form; text = λ c n. then_text (codes " ") (fixed_back (codes " ") s m.0 m.1) d.1.split ∙ sym (number_text d.0 r) }

record ChoiceAt (s r : List ℕ) : Type 0 where
  pub choice : List (List ℕ)
  pub form : AllByRecursion IsNumber choice
  pub text : Scope → s ≡ codes "choice" ++ (text_of_pieces (each number_pieces choice) ++ (codes "\n" ++ r))

choice_spelled : (s r : List ℕ) → choice_end s ≡ Ok r → ChoiceAt s r
unfolding choice_end numbers_end
choice_spelled s r e =
    let f = got (fixed_end (codes "choice") s >>= numbers_end) (fixed_end (codes "\n")) r e in
    let g = got (fixed_end (codes "choice") s) numbers_end f.0 f.1 in
    let ns = many_spelled 32 choice_number_end IsNumber (λ c n ds. number_pieces ds) number_spelled (suc (length g.0)) g.0 f.0 g.2 in
    record {
      choice = ns.draft;
      form = ns.form;
      text = λ c. then_text (codes "choice") (fixed_back (codes "choice") s g.0 g.1) (then_text (text_of_pieces (each number_pieces ns.draft)) (ns.text c 0) (fixed_back (codes "\n") f.0 r f.2));
    }

element_spelled : (s r : List ℕ) → element_end s ≡ Ok r → Spelled IsLineDraft element_pieces s r
unfolding element_end
element_spelled s r e =
    let f = got (fixed_end (codes "for ") s >>= word_end) assigned_end r e in
    let g = got (fixed_end (codes "for ") s) word_end f.0 f.1 in
    let w = word_back g.0 f.0 g.2 in
    let t = assigned_spelled f.0 r f.2 in
    let l : LineDraft = record { name = w.0; term = t.term } in
    record {
      draft = l;
      form = (w.1.form, t.form);
      text = λ c n. then_text (codes "for ") (fixed_back (codes "for ") s g.0 g.1) (then_text w.0 w.1.split (t.text c n) ∙ sym (line_text c n l r));
    }

elements_spelled : (s r : List ℕ) → elements_end s ≡ Ok r → Spelled (AllByRecursion IsLineDraft) (λ c n xs. each (element_pieces c n) xs) s r
unfolding elements_end
elements_spelled s r e = many_spelled 102 element_end IsLineDraft element_pieces element_spelled (suc (length s)) s r e

trace_rest_text : (t : TraceDraft) → text_of_pieces (trace_rest t) ≡ text_of_pieces (head_rest (trace_scope t)) ++ (text_of_pieces (failure_pieces t) ++ (text_of_pieces (choice_line t) ++ (text_of_pieces (elements_of t) ++ codes "end\n")))
trace_rest_text t =
    text_append (head_rest (trace_scope t)) (failure_pieces t ++ (choice_line t ++ (elements_of t ++ end_piece ∷ [])))
    ∙ ap (λ (x : List ℕ). text_of_pieces (head_rest (trace_scope t)) ++ x)
    (text_append (failure_pieces t) (choice_line t ++ (elements_of t ++ end_piece ∷ []))
    ∙ ap (λ (x : List ℕ). text_of_pieces (failure_pieces t) ++ x)
    (text_append (choice_line t) (elements_of t ++ end_piece ∷ []) ∙ ap (λ (x : List ℕ). text_of_pieces (choice_line t) ++ x) (text_append (elements_of t) (end_piece ∷ []))))

record TraceAt (s : List ℕ) : Type 0 where
  pub draft : TraceDraft
  pub form : IsTraceDraft draft
  pub text : s ≡ text_of_pieces (trace_rest draft)

trace_spelled : (s : List ℕ) → trace_end s ≡ Ok [] → TraceAt s
unfolding trace_end
trace_spelled s e =
    let a = got (head_end s >>= failure_end >>= choice_end >>= elements_end) (fixed_end (codes "end\n")) [] e in
    let b = got (head_end s >>= failure_end >>= choice_end) elements_end a.0 a.1 in
    let c = got (head_end s >>= failure_end) choice_end b.0 b.1 in
    let d = got (head_end s) failure_end c.0 c.1 in
    let h = head_spelled s d.0 d.1 in
    let f = failure_spelled d.0 c.0 d.2 in
    let ns = choice_spelled c.0 b.0 c.2 in
    let xs = elements_spelled b.0 a.0 b.2 in
    let t : TraceDraft = record { ordered = h.scope.ordered; parameters = h.scope.names; line = f.line; column = f.column; kind = f.kind; choice = ns.choice; elements = xs.draft } in
    record {
      draft = t;
      form = record { parameters = h.form; line = f.line_form; column = f.column_form; choice = ns.form; elements = xs.form };
      text = then_text (text_of_pieces (head_rest h.scope)) h.text
          (then_text (text_of_pieces (failure_pieces t)) (f.text ∙ sym (failure_text t c.0))
          (then_text (text_of_pieces (choice_line t)) (ns.text h.scope ∙ sym (choice_text t b.0))
          (then_text (text_of_pieces (elements_of t)) (xs.text h.scope (length ns.choice)) (fixed_back (codes "end\n") a.0 [] a.2))))
          ∙ sym (trace_rest_text t);
    }

trace_shape : (s t : List ℕ) → s ≡ codes "lois results 2" ++ t → TraceAt t → HasAnswerShape s
trace_shape s t split h =
    (draft.trace h.draft, record { form = h.form; spelled = ap (λ (ps : List Piece). text_of_pieces ps) (trace_rest_is h.draft) ∙ sym (then_text (codes "lois results 2") split h.text) })

results_as_answer : (s : List ℕ) → HasResultsShape s → HasAnswerShape s
results_as_answer s h = (draft.results h.0, record { form = h.1.form; spelled = h.1.spelled })

version_spelled : (s t : List ℕ) → s ≡ codes "lois results " ++ t → version_end t ≡ Ok [] → HasAnswerShape s
unfolding version_end
version_spelled s t split e =
    elim (begins 50 t) as (λ v. begins 50 t ≡ v → HasAnswerShape s) [
      | true ↦ λ h. let m = got (fixed_end (codes "2") t) trace_end [] (rw h at e) in
          trace_shape s m.0 (then_text (codes "lois results ") split (fixed_back (codes "2") t m.0 m.1)) (trace_spelled m.0 m.2)
      | false ↦ λ h. let m = got (fixed_end (codes "1") t) results_end [] (rw h at e) in
          results_as_answer s (results_shape s m.0 (then_text (codes "lois results ") split (fixed_back (codes "1") t m.0 m.1)) (results_spelled m.0 m.2))
    ] refl

pub answer_text_spelled : (s : List ℕ) → answer_text_end s ≡ Ok [] → HasAnswerShape s
unfolding answer_text_end
answer_text_spelled s e =
    let m = got (fixed_end (codes "lois results ") s >>= version_end) ends_text [] e in
    let k = got (fixed_end (codes "lois results ") s) version_end m.0 m.1 in
    version_spelled s k.0 (fixed_back (codes "lois results ") s k.0 k.1) (k.2 ∙ ap (λ (x : List ℕ). Ok x) (whole_spelled m.0 [] m.2))
