-- The readers of the lines of results and of traces, and of whole texts, are exact.
use Rattle.std.proofs.Common.{◌≡◌, ℕ, zero, suc, ◌<◌, ◌≤◌, Bool, true, false, cond, ◌&&◌, ◌==◌, List, [], ◌∷◌, ◌++◌, length, Result, Ok, Err, refl, sym, ap, subst, ◌∙◌, arith, length-append}
use Rattle.std.specs.Prelude.{codes, bytes_eq}
use Rattle.std.specs.Char.{is_ascii_alphabetic, is_ascii_digit}
use Rattle.std.proofs.lemmas.Bool.{and_right}
use Rattle.lois_lexer.specs.Bytes.{is_word_byte}
use Rattle.lois_lexer.specs.Forms.{is_word_form}
use Rattle.lois_reader.specs.Reading.{◌>>=◌, End, begins}
use Rattle.lois_reader.specs.Ends.{fixed_end, word_at, word_end, number_end}
use Rattle.lois_reader.specs.AnswerEnds.{structure_end, name_end, names_end, head_end, when_end, body_end, behind_case, assigned_end, behind_word, entry_at, opening_at, entries_end, cases_end, not_a_end, not_end, no_end, kind_end, failure_end, choice_number_end, numbers_end, choice_end, element_end, elements_end, trace_end, results_end, ends_text, results_text_end, version_end, answer_text_end}
use Rattle.lois_reader.proofs.Fronts.{EndsWord, word_front}
use Rattle.lois_reader.proofs.Outcome.{bind_assoc}
use Rattle.lois_reader.proofs.Backs.{same_ok, got, run_of, word_form, word_size, word_at_back}
use Rattle.lois_reader.proofs.Exact.{bind_same, cond_then, choice_at, refused_behind, accepted_text, Exact, Upto, Refuses, no_byte, refuses_none, same_reader, ◌⨾◌, IsPart, IsItem, part_of, part_then, item_then, fixed_part, fixed_item, fixed_refuses, differs, word_item, number_item, choice_item, many_part, or_byte, behind_stop}
use Rattle.lois_reader.proofs.ExactEnds.{in_constraint, constraint_part, term_item}

-- ---- the head

pub structure_item : IsItem no_byte structure_end
unfolding structure_end
structure_item = choice_item 111 (fixed_end (codes "order\n")) (λ x. refl) (fixed_part (codes "rder\n")) (fixed_item 101 (codes "quality\n")) (λ t. refl)

name_item : IsItem is_word_byte name_end
name_item = item_then (fixed_item 32 []) (part_of word_item) (λ k s. refuses_none (word_end ⨾ k))

names_part : IsPart (or_byte 32 is_word_byte) names_end
unfolding names_end
names_part = many_part 32 name_end name_item.shorter (λ x. refl) (part_of word_item) refl

pub head_item : IsItem no_byte head_end
unfolding head_end
head_item =
    item_then (item_then (item_then (item_then (fixed_item 10 (codes "atoms ")) (part_of structure_item) (λ k s. refuses_none (structure_end ⨾ k)))
    (fixed_part (codes "parameters")) (λ k s. refuses_none (fixed_end (codes "parameters") ⨾ k))) names_part (λ k s. refuses_none (names_end ⨾ k)))
    (fixed_part (codes "\n")) (λ k s. fixed_refuses (or_byte 32 is_word_byte) 10 [] k refl)

-- ---- lines

line_feed_refuses : (p : ℕ → Bool) (k : List ℕ → End) → p 10 ≡ false → Refuses p (fixed_end (codes "\n") ⨾ k)
line_feed_refuses p k none = fixed_refuses p 10 [] k none

when_part : IsPart no_byte when_end
unfolding when_end
when_part = part_then constraint_part (fixed_part (codes "\n")) (λ k s. line_feed_refuses in_constraint k refl)

body_part : IsPart no_byte body_end
unfolding body_end
body_part = part_then (part_of (term_item 64)) (fixed_part (codes "\n")) (λ k s. line_feed_refuses is_word_byte k refl)

when_words_part : IsPart no_byte ((fixed_end (codes "hen ")) ⨾ when_end)
when_words_part = part_then (fixed_part (codes "hen ")) when_part (λ k s. refuses_none (when_end ⨾ k))

-- behind `case` and a space
abbrev case_or_equals : List ℕ → End
case_or_equals r = cond (begins 119 r) (fixed_end (codes "when ") r >>= when_end) (fixed_end (codes "= ") r >>= body_end)

case_or_equals_item : IsItem no_byte case_or_equals
case_or_equals_item =
    choice_item 119 (fixed_end (codes "when ") ⨾ when_end) (λ x. refl) when_words_part
    (item_then (fixed_item 61 (codes " ")) body_part (λ k s. refuses_none (body_end ⨾ k))) (λ t. refl)

behind_case_item : IsItem no_byte behind_case
unfolding behind_case
behind_case_item = item_then (fixed_item 32 []) (part_of case_or_equals_item) (λ k s. refuses_none (case_or_equals ⨾ k))

assigned_item : IsItem no_byte assigned_end
unfolding assigned_end
assigned_item = item_then (fixed_item 32 (codes "= ")) body_part (λ k s. refuses_none (body_end ⨾ k))

-- ---- the lines of cases

word_line_item : (w : List ℕ) → IsItem no_byte (behind_word w)
unfolding behind_word
word_line_item w =
    elim (bytes_eq w (codes "case")) as (λ b. IsItem no_byte (λ s. cond b (behind_case s) (assigned_end s))) [ true ↦ behind_case_item | false ↦ assigned_item ]

-- behind its first word a line goes on with a space
word_line_refuses : (w : List ℕ) (b : ℕ) (t : List ℕ) → (b == 32) ≡ false → behind_word w (b ∷ t) ≡ Err (suc (length t))
unfolding behind_word behind_case assigned_end
word_line_refuses w b t other =
    elim (bytes_eq w (codes "case")) as (λ v. cond v (fixed_end (codes " ") (b ∷ t) >>= case_or_equals) (fixed_end (codes " = ") (b ∷ t) >>= body_end) ≡ Err (suc (length t))) [ true ↦ rw other refl | false ↦ rw other refl ]

-- what an entry gives behind its word
abbrev line_at_word : List ℕ × List ℕ → Result (Bool × List ℕ) ℕ
line_at_word x =
    cond (bytes_eq x.0 (codes "end") && begins 10 x.1) (fixed_end (codes "\n") x.1 >>= λ r. Ok (false, r)) (behind_word x.0 x.1 >>= λ r. Ok (true, r))

line_size : (x : List ℕ × List ℕ) (y : Bool × List ℕ) → line_at_word x ≡ Ok y → length y.1 ≤ length x.1
line_size x y e =
    elim (bytes_eq x.0 (codes "end") && begins 10 x.1) as (λ v. (bytes_eq x.0 (codes "end") && begins 10 x.1) ≡ v → length y.1 ≤ length x.1) [
      | true ↦ λ h. let m = got (fixed_end (codes "\n") x.1) (λ r. Ok (false, r)) y (rw h at e) in
          let le : length m.0 ≤ length x.1 = (fixed_part (codes "\n")).shorter x.1 m.0 m.1 in
          let is : length m.0 ≡ length y.1 = ap (λ (z : Bool × List ℕ). length z.1) (same_ok m.2) in
          omega arith
      | false ↦ λ h. let m = got (behind_word x.0 x.1) (λ r. Ok (true, r)) y (rw h at e) in
          let lt : length m.0 < length x.1 = (word_line_item x.0).shorter x.1 m.0 m.1 in
          let is : length m.0 ≡ length y.1 = ap (λ (z : Bool × List ℕ). length z.1) (same_ok m.2) in
          omega arith
    ] refl

entry_size : (s : List ℕ) (y : Bool × List ℕ) → entry_at s ≡ Ok y → length y.1 < length s
unfolding entry_at
entry_size s y e =
    let m = got (word_at s) line_at_word y e in
    let w = word_at_back s m.0 m.1 in
    let le : length y.1 ≤ length m.0.1 = line_size m.0 y m.2 in
    omega (arith, ap length w.split, length-append m.0.0 m.0.1, word_size m.0.0 w.form)

entries_same : (n m : ℕ) (s : List ℕ) → length s < n → length s < m → entries_end n s ≡ entries_end m s
entries_same zero m s a b = absurd (omega arith)
entries_same (suc n) zero s a b = absurd (omega arith)
entries_same (suc n) (suc m) s a b =
    bind_same (entry_at s) (λ x. cond x.0 (entries_end n x.1) (Ok x.1)) (λ x. cond x.0 (entries_end m x.1) (Ok x.1))
    (λ x e. let lt : length x.1 < length s = entry_size s x e in ap (λ (r : End). cond x.0 r (Ok x.1)) (entries_same n m x.1 (omega arith) (omega arith)))

-- whether another line follows, and the rest
abbrev pub marked : Bool → List ℕ → Result (Bool × List ℕ) ℕ
marked goes_on r = Ok (goes_on, r)

abbrev pub further : Bool × List ℕ → End
further z = cond z.0 (entries_end (suc (length z.1)) z.1) (Ok z.1)

-- The reader of what follows the cases.
module _ (k : List ℕ → End) where
  abbrev lines : List ℕ → End
  lines s = entries_end (suc (length s)) s >>= k

  abbrev next_line : Bool × List ℕ → End
  next_line x = cond x.0 (lines x.1) (k x.1)

  lines_open : (s : List ℕ) → lines s ≡ (entry_at s >>= next_line)
  lines_open s =
      bind_assoc (entry_at s) (λ x. cond x.0 (entries_end (length s) x.1) (Ok x.1)) k
      ∙ bind_same (entry_at s) (λ x. cond x.0 (entries_end (length s) x.1) (Ok x.1) >>= k) next_line
      (λ x e. let lt : length x.1 < length s = entry_size s x e in
      cond_then x.0 (entries_end (length s) x.1) (Ok x.1) k
      ∙ ap (λ (r : End). cond x.0 (r >>= k) (k x.1)) (entries_same (length s) (suc (length x.1)) x.1 lt (omega arith)))

  -- behind the first word of a line
  abbrev after : List ℕ → List ℕ → End
  after w r = cond (bytes_eq w (codes "end") && begins 10 r) (fixed_end (codes "\n") r >>= k) (behind_word w r >>= lines)

  line_then : (b : Bool) (x y : End) → (cond b (x >>= λ r. Ok (false, r)) (y >>= λ r. Ok (true, r)) >>= next_line) ≡ cond b (x >>= k) (y >>= lines)
  line_then true x y = bind_assoc x (λ r. Ok (false, r)) next_line
  line_then false x y = bind_assoc y (λ r. Ok (true, r)) next_line

  lines_word : (w r : List ℕ) → is_word_form w ≡ true → EndsWord r → lines (w ++ r) ≡ after w r
  unfolding entry_at
  lines_word w r form ends =
      lines_open (w ++ r) ∙ rw (word_front w r form ends) (line_then (bytes_eq w (codes "end") && begins 10 r) (fixed_end (codes "\n") r) (behind_word w r))

  no_line : (b : ℕ) (t : List ℕ) → is_ascii_alphabetic b ≡ false → lines (b ∷ t) ≡ Err (suc (length t))
  unfolding entry_at word_at
  no_line b t none = lines_open (b ∷ t) ∙ rw none refl

  no_line_left : lines [] ≡ Err 0
  unfolding entry_at word_at
  no_line_left = lines_open [] ∙ refl

  after_other : (w x : List ℕ) → begins 10 x ≡ false → after w x ≡ ((behind_word w ⨾ lines) x)
  after_other w x none = rw (and_right (bytes_eq w (codes "end")) (begins 10 x) none) refl

  after_refuses : (w : List ℕ) → Refuses is_word_byte (after w)
  after_refuses w b t h =
      after_other w (b ∷ t) (differs is_word_byte b 10 h refl) ∙ ap (λ (e : End). e >>= lines) (word_line_refuses w b t (differs is_word_byte b 32 h refl))

  after_exact : (n : ℕ) → Upto n k → Upto n lines → (w r : List ℕ) → length r ≤ n → Exact (after w) r
  after_exact n upto below w r le =
      elim (bytes_eq w (codes "end")) as (λ v. bytes_eq w (codes "end") ≡ v → Exact (after w) r) [
        | true ↦ λ h. choice_at 10 (after w) k (behind_word w ⨾ lines) (λ x. rw h refl) (after_other w) (λ t. ap (λ (e : End). e >>= lines) (word_line_refuses w 10 t refl)) r
            (λ t lt. upto t (omega arith)) ((word_line_item w).exact n lines (refuses_none lines) below r (omega arith))
        | false ↦ λ h. same_reader (after w) (behind_word w ⨾ lines) (λ x. rw h refl) r ((word_line_item w).exact n lines (refuses_none lines) below r (omega arith))
      ] refl

  no_line_exact : (s : List ℕ) → Exact k [] → lines s ≡ Err (length s) → ((b : ℕ) (t u : List ℕ) → s ≡ b ∷ t → lines (b ∷ u) ≡ Err (suc (length u))) → Exact lines s
  no_line_exact s some e stays =
      let text = accepted_text k some in
      refused_behind lines [] s (codes "end\n" ++ text.0) e (lines_word (codes "end") (10 ∷ text.0) refl refl ∙ text.1) stays

  lines_upto : (n : ℕ) → Upto n k → Upto n lines
  lines_upto n upto [] le = no_line_exact [] (upto [] le) no_line_left (λ b t u e. cc)
  lines_upto zero upto (b ∷ t) le = absurd (omega arith)
  lines_upto (suc n) upto (b ∷ t) le =
      let fewer : Upto n k = λ x h. upto x (omega arith) in
      elim (is_ascii_alphabetic b) as (λ v. is_ascii_alphabetic b ≡ v → Exact lines (b ∷ t)) [
        | true ↦ λ h. let u = run_of is_word_byte t in
            let short : length u.rest ≤ n = omega (arith, ap length u.split, length-append u.run u.rest) in
            subst (λ (x : List ℕ). Exact lines (b ∷ x)) (sym u.split)
            (behind_stop lines (after (b ∷ u.run)) is_word_byte (b ∷ u.run) u.rest (λ x ends. lines_word (b ∷ u.run) x (word_form b u.run h u.all) ends) (after_refuses (b ∷ u.run)) u.ends (after_exact n fewer (lines_upto n fewer) (b ∷ u.run) u.rest short))
        | false ↦ λ h. no_line_exact (b ∷ t) (upto [] (omega arith)) (no_line b t h) (λ d v u same. let is_d : b ≡ d = cc in no_line d u (subst (λ (x : ℕ). is_ascii_alphabetic x ≡ false) is_d h))
      ] refl

  -- from the first case on, or the end
  abbrev opening : List ℕ → End
  opening s = cond (begins 99 s) ((fixed_end (codes "case when ") s >>= when_end) >>= lines) (fixed_end (codes "end\n") s >>= k)

  opens : (b : Bool) (x y : End) → ((cond b (x >>= marked true) (y >>= marked false) >>= further) >>= k) ≡ cond b (x >>= lines) (y >>= k)
  opens true x y = ap (λ (e : End). e >>= k) (bind_assoc x (marked true) further) ∙ bind_assoc x (λ r. further (true, r)) k
  opens false x y = ap (λ (e : End). e >>= k) (bind_assoc y (marked false) further) ∙ bind_assoc y (λ r. further (false, r)) k

  cases_are : (s : List ℕ) → ((cases_end ⨾ k) s) ≡ opening s
  unfolding cases_end opening_at
  cases_are s = opens (begins 99 s) (fixed_end (codes "case when ") s >>= when_end) (fixed_end (codes "end\n") s)

  cases_upto : (n : ℕ) → Upto n k → Upto n (cases_end ⨾ k)
  cases_upto n upto s le =
      same_reader (cases_end ⨾ k) opening cases_are s
      (choice_at 99 opening ((fixed_end (codes "ase when ") ⨾ when_end) ⨾ lines) (fixed_end (codes "end\n") ⨾ k) (λ x. refl) (λ x none. rw none refl) (λ t. refl) s
      (λ t lt. (part_then (fixed_part (codes "ase when ")) when_part (λ l r. refuses_none (when_end ⨾ l))).exact n lines (refuses_none lines) (lines_upto n upto) t (omega arith))
      ((fixed_part (codes "end\n")).exact n k (refuses_none k) upto s le))

-- ---- traces

-- behind `not a `
abbrev pub set_or_tuple : List ℕ → End
set_or_tuple r = cond (begins 115 r) (fixed_end (codes "set") r) (fixed_end (codes "tuple") r)

set_or_tuple_item : IsItem no_byte set_or_tuple
set_or_tuple_item = choice_item 115 (fixed_end (codes "set")) (λ x. refl) (fixed_part (codes "et")) (fixed_item 116 (codes "uple")) (λ t. refl)

not_a_item : IsItem no_byte not_a_end
unfolding not_a_end
not_a_item =
    choice_item 110 (fixed_end (codes "n automaton")) (λ x. refl) (fixed_part (codes " automaton"))
    (choice_item 116 (fixed_end (codes "toms")) (λ x. refl) (fixed_part (codes "oms"))
    (item_then (fixed_item 32 []) (part_of set_or_tuple_item) (λ k s. refuses_none (set_or_tuple ⨾ k))) (λ t. refl)) (λ t. refl)

not_item : IsItem no_byte not_end
unfolding not_end
not_item =
    choice_item 100 (fixed_end (codes "deterministic")) (λ x. refl) (fixed_part (codes "eterministic"))
    (choice_item 99 (fixed_end (codes "complete")) (λ x. refl) (fixed_part (codes "omplete"))
    (item_then (fixed_item 97 []) (part_of not_a_item) (λ k s. refuses_none (not_a_end ⨾ k))) (λ t. refl)) (λ t. refl)

no_item : IsItem no_byte no_end
unfolding no_end
no_item =
    choice_item 32 (fixed_end (codes " such part")) (λ x. refl) (fixed_part (codes "such part"))
    (item_then (fixed_item 116 (codes " ")) (part_of not_item) (λ k s. refuses_none (not_end ⨾ k))) (λ t. refl)

kind_item : IsItem no_byte kind_end
unfolding kind_end
kind_item =
    choice_item 97 (fixed_end (codes "assertion failed")) (λ x. refl) (fixed_part (codes "ssertion failed"))
    (choice_item 116 (fixed_end (codes "turn limit")) (λ x. refl) (fixed_part (codes "urn limit"))
    (choice_item 100 (fixed_end (codes "depth limit")) (λ x. refl) (fixed_part (codes "epth limit"))
    (item_then (fixed_item 110 (codes "o")) (part_of no_item) (λ k s. refuses_none (no_end ⨾ k))) (λ t. refl)) (λ t. refl)) (λ t. refl)

failure_item : IsItem no_byte failure_end
unfolding failure_end
failure_item =
    item_then (item_then (item_then (item_then (item_then (item_then (fixed_item 102 (codes "ailed at "))
    (part_of number_item) (λ k s. refuses_none (number_end ⨾ k)))
    (fixed_part (codes ":")) (λ k s. fixed_refuses is_ascii_digit 58 [] k refl))
    (part_of number_item) (λ k s. refuses_none (number_end ⨾ k)))
    (fixed_part (codes ": ")) (λ k s. fixed_refuses is_ascii_digit 58 (codes " ") k refl))
    (part_of kind_item) (λ k s. refuses_none (kind_end ⨾ k)))
    (fixed_part (codes "\n")) (λ k s. refuses_none (fixed_end (codes "\n") ⨾ k))

choice_number_item : IsItem is_ascii_digit choice_number_end
choice_number_item = item_then (fixed_item 32 []) (part_of number_item) (λ k s. refuses_none (number_end ⨾ k))

numbers_part : IsPart (or_byte 32 is_ascii_digit) numbers_end
unfolding numbers_end
numbers_part = many_part 32 choice_number_end choice_number_item.shorter (λ x. refl) (part_of number_item) refl

choice_line_item : IsItem no_byte choice_end
unfolding choice_end
choice_line_item =
    item_then (item_then (fixed_item 99 (codes "hoice")) numbers_part (λ k s. refuses_none (numbers_end ⨾ k)))
    (fixed_part (codes "\n")) (λ k s. line_feed_refuses (or_byte 32 is_ascii_digit) k refl)

assigned_refuses : (k : List ℕ → End) → Refuses is_word_byte (assigned_end ⨾ k)
unfolding assigned_end
assigned_refuses k b t h = rw (differs is_word_byte b 32 h refl) refl

element_item : IsItem no_byte element_end
unfolding element_end
element_item =
    item_then (item_then (fixed_item 102 (codes "or ")) (part_of word_item) (λ k s. refuses_none (word_end ⨾ k))) (part_of assigned_item) (λ k s. assigned_refuses k)

behind_f : IsPart no_byte ((fixed_end (codes "or ") ⨾ word_end) ⨾ assigned_end)
behind_f =
    part_then (part_then (fixed_part (codes "or ")) (part_of word_item) (λ k s. refuses_none (word_end ⨾ k))) (part_of assigned_item) (λ k s. assigned_refuses k)

element_takes : (x : List ℕ) → element_end (102 ∷ x) ≡ (((fixed_end (codes "or ") ⨾ word_end) ⨾ assigned_end) x)
unfolding element_end
element_takes x = refl

elements_part : IsPart (or_byte 102 no_byte) elements_end
unfolding elements_end
elements_part = many_part 102 element_end element_item.shorter element_takes behind_f refl

pub trace_item : IsItem no_byte trace_end
unfolding trace_end
trace_item =
    item_then (item_then (item_then (item_then head_item
    (part_of failure_item) (λ k s. refuses_none (failure_end ⨾ k)))
    (part_of choice_line_item) (λ k s. refuses_none (choice_end ⨾ k)))
    elements_part (λ k s. refuses_none (elements_end ⨾ k)))
    (fixed_part (codes "end\n")) (λ k s. fixed_refuses (or_byte 102 no_byte) 101 (codes "nd\n") k refl)

-- ---- whole texts

whole_exact : (s : List ℕ) → Exact ends_text s
whole_exact [] = Exact.accepts refl
whole_exact (b ∷ t) = refused_behind ends_text [] (b ∷ t) [] refl refl (λ c u v e. refl)

results_upto : (n : ℕ) (k : List ℕ → End) → Upto n k → Upto n (results_end ⨾ k)
unfolding results_end
results_upto n k upto s le =
    same_reader (results_end ⨾ k) (head_end ⨾ (cases_end ⨾ k)) (λ x. bind_assoc (head_end x) cases_end k) s
    ((part_of head_item).exact n (cases_end ⨾ k) (refuses_none (cases_end ⨾ k)) (cases_upto k n upto) s le)

pub results_text_exact : (s : List ℕ) → Exact results_text_end s
unfolding results_text_end
results_text_exact s =
    same_reader results_text_end (fixed_end (codes "lois results 1") ⨾ (results_end ⨾ ends_text)) (λ x. bind_assoc (fixed_end (codes "lois results 1") x) results_end ends_text) s
    ((fixed_part (codes "lois results 1")).exact (length s) (results_end ⨾ ends_text) (refuses_none (results_end ⨾ ends_text)) (results_upto (length s) ends_text (λ x h. whole_exact x)) s (omega arith))

-- the version, and what follows it
abbrev version : List ℕ → End
version s = cond (begins 50 s) ((fixed_end (codes "2") ⨾ (trace_end ⨾ ends_text)) s) ((fixed_end (codes "1") ⨾ (results_end ⨾ ends_text)) s)

version_is : (s : List ℕ) → ((version_end ⨾ ends_text) s) ≡ version s
unfolding version_end
version_is s =
    elim (begins 50 s) as (λ v. (cond v (fixed_end (codes "2") s >>= trace_end) (fixed_end (codes "1") s >>= results_end) >>= ends_text) ≡ cond v ((fixed_end (codes "2") ⨾ (trace_end ⨾ ends_text)) s) ((fixed_end (codes "1") ⨾ (results_end ⨾ ends_text)) s)) [
      | true ↦ bind_assoc (fixed_end (codes "2") s) trace_end ends_text
      | false ↦ bind_assoc (fixed_end (codes "1") s) results_end ends_text
    ]

version_exact : (s : List ℕ) → Exact (version_end ⨾ ends_text) s
version_exact s =
    same_reader (version_end ⨾ ends_text) version version_is s
    (choice_at 50 version (trace_end ⨾ ends_text) (fixed_end (codes "1") ⨾ (results_end ⨾ ends_text)) (λ x. refl) (λ x none. rw none refl) (λ t. refl) s
    (λ t lt. (part_of trace_item).exact (length t) ends_text (refuses_none ends_text) (λ x h. whole_exact x) t (omega arith))
    ((fixed_part (codes "1")).exact (length s) (results_end ⨾ ends_text) (refuses_none (results_end ⨾ ends_text)) (results_upto (length s) ends_text (λ x h. whole_exact x)) s (omega arith)))

pub answer_text_exact : (s : List ℕ) → Exact answer_text_end s
unfolding answer_text_end
answer_text_exact s =
    same_reader answer_text_end (fixed_end (codes "lois results ") ⨾ (version_end ⨾ ends_text)) (λ x. bind_assoc (fixed_end (codes "lois results ") x) version_end ends_text) s
    ((fixed_part (codes "lois results ")).exact (length s) (version_end ⨾ ends_text) (refuses_none (version_end ⨾ ends_text)) (λ x h. version_exact x) s (omega arith))
