-- Where reading stops: behind the lines that were read, at a line that isn't one of any register automaton with these lines.
use Rattle.std.proofs.Common.{◌≡◌, ℕ, ◌+◌, ◌≤◌, Bool, true, false, List, [], ◌∷◌, ◌++◌, length, map, refl, sym, ap, subst, ◌∙◌, ◌⊎◌, inl, inr, arith, append_assoc, append-nil}
use Rattle.std.specs.Prelude.{codes}
use Rattle.std.specs.List.{All, Contains, flat_map}
use Rattle.std.proofs.lemmas.List.{length-append, length-map}
use Rattle.std.proofs.lemmas.List.Elements.{All-nil, All-cons, All-contains, Contains-append_left, Contains-push}
use Rattle.lois_base.specs.Names.{IsName}
use Rattle.lois_registers.specs.Places.{AreGoodLines, BreaksAt, IsRegistersOf}
use Rattle.lois_registers.specs.Stops.{StopsIn}
use Rattle.lois_registers.specs.Reading.{IsLeftAt, BeginsWithNoLine}
use Rattle.lois_registers.specs.Texts.{text_of_words, title_words, order_words, count_words, states_words, initial_words, final_words, step_words, end_words, head_lines, front_lines}
use Rattle.lois_registers.specs.Valid.{AreStates, AreListed, IsRegStep, IsRegisters}
use Rattle.lois_registers.specs.ReadParts.{IsCount}
use Rattle.lois_registers.specs.declared.automata.RegStep.{RegStep}
use Rattle.lois_registers.specs.declared.automata.Registers.{Registers}
use Rattle.lois_registers.specs.declared.parse_error.ParseError.{ParseError}
use Rattle.lois_registers.specs.declared.parse_error.ParseError.TheVariants.{Left, NoMemory}
use Rattle.lois_registers.proofs.Contents.{mapped_from}
use Rattle.lois_registers.proofs.Members.{contains_first}

abbrev Lines : Type 0
Lines = List (List (List ℕ))

flat_append : (xs ys : Lines) → flat_map text_of_words (xs ++ ys) ≡ flat_map text_of_words xs ++ flat_map text_of_words ys
flat_append [] ys = refl
flat_append (x ∷ xs) ys = ap (λ z. text_of_words x ++ z) (flat_append xs ys) ∙ sym (append_assoc (text_of_words x) (flat_map text_of_words xs) (flat_map text_of_words ys))

-- further lines were read
pub front_more : (lines more : Lines) (text rest after : List ℕ) → text ≡ flat_map text_of_words lines ++ rest → rest ≡ flat_map text_of_words more ++ after → text ≡ flat_map text_of_words (lines ++ more) ++ after
front_more lines more text rest after e f =
    e ∙ (ap (λ z. flat_map text_of_words lines ++ z) f ∙ (sym (append_assoc (flat_map text_of_words lines) (flat_map text_of_words more) after) ∙ ap (λ z. z ++ after) (sym (flat_append lines more))))

one_line : (words : List (List ℕ)) (after : List ℕ) → text_of_words words ++ after ≡ flat_map text_of_words (words ∷ []) ++ after
one_line words after = ap (λ z. z ++ after) (sym (append-nil (text_of_words words)))

pub front_one : (lines : Lines) (words : List (List ℕ)) (text rest after : List ℕ) → text ≡ flat_map text_of_words lines ++ rest → rest ≡ text_of_words words ++ after → text ≡ flat_map text_of_words (lines ++ words ∷ []) ++ after
front_one lines words text rest after e f = front_more lines (words ∷ []) text rest after e (f ∙ one_line words after)

-- register automata with these first lines
abbrev made : Bool → ℕ → List (List ℕ) → List ℕ → List (List ℕ) → List RegStep → Registers
made o k states initial finals steps = record { order = o; registers = k; states = states; initial = initial; finals = finals; steps = steps }

pub made_valid : (o : Bool) (k : ℕ) (states : List (List ℕ)) (initial : List ℕ) (finals : List (List ℕ)) (steps : List RegStep) → IsCount k → AreStates states → Contains states initial → AreListed states finals → length steps ≤ 256 → All (IsRegStep o k states) steps → IsRegisters (made o k states initial finals steps)
made_valid o k states initial finals steps count are i f few s =
    record { some = count.0; few = count.1; states = are; initial = i; finals = f; few_steps = few; steps = s }

abbrev some_states : List (List ℕ)
some_states = codes "s" ∷ []

no_finals : (states : List (List ℕ)) → AreListed states []
no_finals states = record { listed = All-nil (Contains states); distinct = tt }

s_name : IsName (codes "s")
s_name = record { short = omega arith; letter = refl; bytes = refl }

are_some : AreStates some_states
are_some = record { form = All-cons IsName (codes "s") [] s_name (All-nil IsName); some = omega arith; few = omega arith; distinct = (nothing, tt) }
  where
    nothing : Contains [] (codes "s") → ⊥
    nothing (k, l, e) = absurd (omega (arith, l))

head_of : (states : List (List ℕ)) → AreStates states → (s : List ℕ) × Contains states s
head_of [] h = absurd (omega (arith, h.some))
head_of (s ∷ states) h = (s, contains_first s states)

pub same_order : (a b : Bool) → order_words a ≡ order_words b → a ≡ b
same_order false false e = refl
same_order true true e = refl
same_order false true e = absurd (cc)
same_order true false e = absurd (cc)

pub same_count : (a b : ℕ) → count_words a ≡ count_words b → a ≡ b
same_count a b e = let h : 48 + a ≡ 48 + b = cc in omega (arith, h)

too_many : (more steps : List RegStep) (line : List (List ℕ)) (rest : Lines) → map step_words more ≡ (map step_words steps ++ line ∷ []) ++ rest → length steps ≡ 256 → length more ≤ 256 → ⊥
too_many more steps line rest e full few =
    omega (arith, ap length e, length-append (map step_words steps ++ line ∷ []) rest, length-append (map step_words steps) (line ∷ []), length-map more step_words, length-map steps step_words)

-- what stops the reading at the lines so far
stop : (text rest : List ℕ) (lines : Lines) (h : ParseError) (C : Type 0) → text ≡ flat_map text_of_words lines ++ rest → AreGoodLines lines →
    (C → (line : List (List ℕ)) (more : List ℕ) → rest ≡ text_of_words line ++ more → AreGoodLines (lines ++ line ∷ []) → ⊥) →
    ((r : Registers) → front_lines r ≡ lines → ⊥) → IsLeftAt rest C h → StopsIn text h
stop text rest lines (Left n) C e good further short (l, cause) =
    (lines, rest, record { whole = e; good = good; further = further cause; last = λ r v f _. absurd (short r f) }, l)
stop text rest lines NoMemory C e good further short h = tt

module _ (text : List ℕ) (h : ParseError) where
  pub stop_title : IsLeftAt text ((more : List ℕ) → text ≡ text_of_words title_words ++ more → ⊥) h → StopsIn text h
  stop_title left =
      let r = made false 1 some_states (codes "s") [] [] in
      stop text text [] h ((more : List ℕ) → text ≡ text_of_words title_words ++ more → ⊥) refl (r, front_lines r, made_valid false 1 some_states (codes "s") [] [] (omega arith, omega arith) are_some (contains_first (codes "s") []) (no_finals some_states) (omega arith) (All-nil (IsRegStep false 1 some_states)), refl)
      (λ none line more e (r, rest, v, f). let is : line ≡ title_words = cc in none more (subst (λ z. text ≡ text_of_words z ++ more) is e)) (λ r e. absurd (cc)) left

  module _ (rest1 : List ℕ) (e1 : text ≡ text_of_words title_words ++ rest1) where
    whole1 : text ≡ flat_map text_of_words (title_words ∷ []) ++ rest1
    whole1 = front_one [] title_words text text rest1 refl e1

    pub stop_order : IsLeftAt rest1 ((o : Bool) (more : List ℕ) → rest1 ≡ text_of_words (order_words o) ++ more → ⊥) h → StopsIn text h
    stop_order left =
        let r = made false 1 some_states (codes "s") [] [] in
        stop text rest1 (title_words ∷ []) h ((o : Bool) (more : List ℕ) → rest1 ≡ text_of_words (order_words o) ++ more → ⊥) whole1 (r, _, made_valid false 1 some_states (codes "s") [] [] (omega arith, omega arith) are_some (contains_first (codes "s") []) (no_finals some_states) (omega arith) (All-nil (IsRegStep false 1 some_states)), refl)
        (λ none line more e (r, rest, v, f). let is : line ≡ order_words r.order = cc in none r.order more (subst (λ z. rest1 ≡ text_of_words z ++ more) is e)) (λ r e. absurd (cc)) left

    module _ (o : Bool) (rest2 : List ℕ) (e2 : rest1 ≡ text_of_words (order_words o) ++ rest2) where
      whole2 : text ≡ flat_map text_of_words (title_words ∷ order_words o ∷ []) ++ rest2
      whole2 = front_one (title_words ∷ []) (order_words o) text rest1 rest2 whole1 e2

      pub stop_count : IsLeftAt rest2 (BeginsWithNoLine IsCount count_words rest2) h → StopsIn text h
      stop_count left =
          let r = made o 1 some_states (codes "s") [] [] in
          stop text rest2 (title_words ∷ order_words o ∷ []) h (BeginsWithNoLine IsCount count_words rest2) whole2 (r, _, made_valid o 1 some_states (codes "s") [] [] (omega arith, omega arith) are_some (contains_first (codes "s") []) (no_finals some_states) (omega arith) (All-nil (IsRegStep o 1 some_states)), refl)
          (λ none line more e (r, rest, v, f). let is : line ≡ count_words r.registers = cc in none r.registers more (v.some, v.few) (subst (λ z. rest2 ≡ text_of_words z ++ more) is e)) (λ r e. absurd (cc)) left

      module _ (k : ℕ) (count : IsCount k) (rest3 : List ℕ) (e3 : rest2 ≡ text_of_words (count_words k) ++ rest3) where
        whole3 : text ≡ flat_map text_of_words (title_words ∷ order_words o ∷ count_words k ∷ []) ++ rest3
        whole3 = front_one (title_words ∷ order_words o ∷ []) (count_words k) text rest2 rest3 whole2 e3

        pub stop_states : IsLeftAt rest3 (BeginsWithNoLine AreStates states_words rest3) h → StopsIn text h
        stop_states left =
            let r = made o k some_states (codes "s") [] [] in
            stop text rest3 (title_words ∷ order_words o ∷ count_words k ∷ []) h (BeginsWithNoLine AreStates states_words rest3) whole3 (r, _, made_valid o k some_states (codes "s") [] [] count are_some (contains_first (codes "s") []) (no_finals some_states) (omega arith) (All-nil (IsRegStep o k some_states)), refl)
            (λ none line more e (r, rest, v, f). let is : line ≡ states_words r.states = cc in none r.states more v.states (subst (λ z. rest3 ≡ text_of_words z ++ more) is e)) (λ r e. absurd (cc)) left

        module _ (states : List (List ℕ)) (are : AreStates states) (rest4 : List ℕ) (e4 : rest3 ≡ text_of_words (states_words states) ++ rest4) where
          whole4 : text ≡ flat_map text_of_words (title_words ∷ order_words o ∷ count_words k ∷ states_words states ∷ []) ++ rest4
          whole4 = front_one (title_words ∷ order_words o ∷ count_words k ∷ []) (states_words states) text rest3 rest4 whole3 e4

          pub stop_initial : IsLeftAt rest4 (BeginsWithNoLine (Contains states) initial_words rest4) h → StopsIn text h
          stop_initial left =
              let s = head_of states are in
              let r = made o k states s.0 [] [] in
              stop text rest4 (title_words ∷ order_words o ∷ count_words k ∷ states_words states ∷ []) h (BeginsWithNoLine (Contains states) initial_words rest4) whole4 (r, _, made_valid o k states s.0 [] [] count are s.1 (no_finals states) (omega arith) (All-nil (IsRegStep o k states)), refl)
              (λ none line more e (r, rest, v, f). let is : line ≡ initial_words r.initial = cc in let own : r.states ≡ states = cc in none r.initial more (subst (λ z. Contains z r.initial) own v.initial) (subst (λ z. rest4 ≡ text_of_words z ++ more) is e)) (λ r e. absurd (cc)) left

          module _ (initial : List ℕ) (listed : Contains states initial) (rest5 : List ℕ) (e5 : rest4 ≡ text_of_words (initial_words initial) ++ rest5) where
            whole5 : text ≡ flat_map text_of_words (title_words ∷ order_words o ∷ count_words k ∷ states_words states ∷ initial_words initial ∷ []) ++ rest5
            whole5 = front_one (title_words ∷ order_words o ∷ count_words k ∷ states_words states ∷ []) (initial_words initial) text rest4 rest5 whole4 e5

            pub stop_final : IsLeftAt rest5 (BeginsWithNoLine (AreListed states) final_words rest5) h → StopsIn text h
            stop_final left =
                let r = made o k states initial [] [] in
                stop text rest5 (title_words ∷ order_words o ∷ count_words k ∷ states_words states ∷ initial_words initial ∷ []) h (BeginsWithNoLine (AreListed states) final_words rest5) whole5 (r, _, made_valid o k states initial [] [] count are listed (no_finals states) (omega arith) (All-nil (IsRegStep o k states)), refl)
                (λ none line more e (r, rest, v, f). let is : line ≡ final_words r.finals = cc in let own : r.states ≡ states = cc in none r.finals more (subst (λ z. AreListed z r.finals) own v.finals) (subst (λ z. rest5 ≡ text_of_words z ++ more) is e)) (λ r e. absurd (cc)) left

            module _ (finals : List (List ℕ)) (ends : AreListed states finals) (rest6 : List ℕ) (e6 : rest5 ≡ text_of_words (final_words finals) ++ rest6) (steps : List RegStep) (few : length steps ≤ 256) (valid : All (IsRegStep o k states) steps) (rest7 : List ℕ) (e7 : rest6 ≡ flat_map text_of_words (map step_words steps) ++ rest7) where
              abbrev read : Registers
              read = made o k states initial finals steps

              read_valid : IsRegisters read
              read_valid = made_valid o k states initial finals steps count are listed ends few valid

              whole7 : text ≡ flat_map text_of_words (front_lines read) ++ rest7
              whole7 = front_more (head_lines read) (map step_words steps) text rest6 rest7 (front_one (title_words ∷ order_words o ∷ count_words k ∷ states_words states ∷ initial_words initial ∷ []) (final_words finals) text rest5 rest6 whole5 e6) e7

              pub is_read : rest7 ≡ text_of_words end_words → IsRegistersOf text read
              is_read e = record { valid = read_valid; same = ap (λ z. flat_map text_of_words (front_lines read) ++ z) (sym e) ∙ sym whole7 }

              further : (length steps ≡ 256) ⊎ BeginsWithNoLine (IsRegStep o k states) step_words rest7 → (line : List (List ℕ)) (more : List ℕ) → rest7 ≡ text_of_words line ++ more → AreGoodLines (front_lines read ++ line ∷ []) → ⊥
              further all line more e (r, rest, v, f) =
                  let tail : map step_words r.steps ≡ (map step_words steps ++ line ∷ []) ++ rest = cc in
                  let states_are : r.states ≡ states = cc in
                  let orders : order_words r.order ≡ order_words o = cc in
                  let counts : count_words r.registers ≡ count_words k = cc in
                  let has : Contains (map step_words r.steps) line = subst (λ z. Contains z line) (sym tail) (Contains-append_left (map step_words steps ++ line ∷ []) rest line (Contains-push (map step_words steps) line)) in
                  let found = mapped_from step_words r.steps line has in
                  let own : IsRegStep r.order r.registers r.states found.0 = All-contains (IsRegStep r.order r.registers r.states) r.steps found.0 v.steps found.1 in
                  let here : IsRegStep o k states found.0 = subst (λ z. IsRegStep z k states found.0) (same_order r.order o orders) (subst (λ z. IsRegStep r.order z states found.0) (same_count r.registers k counts) (subst (λ z. IsRegStep r.order r.registers z found.0) states_are own)) in
                  elim all [
                    | inl full ↦ too_many r.steps steps line rest tail full v.few_steps
                    | inr none ↦ none found.0 more here (subst (λ z. rest7 ≡ text_of_words z ++ more) (sym found.2) e)
                  ]

              pub stop_end : (length steps ≡ 256) ⊎ BeginsWithNoLine (IsRegStep o k states) step_words rest7 → (rest7 ≡ text_of_words end_words → ⊥) → BreaksAt text (front_lines read) rest7
              stop_end all never = record {
                whole = whole7;
                good = (read, [], read_valid, sym (append-nil (front_lines read)));
                further = further all;
                last = λ r v f e. never e;
              }
