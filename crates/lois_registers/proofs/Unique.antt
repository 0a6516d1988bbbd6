-- A text begins with the good lines of a register automaton in one way, so where they end is one place.
use Rattle.std.proofs.Common.{◌≡◌, ℕ, ◌-◌, Bool, true, false, List, [], ◌∷◌, ◌++◌, length, map, get_or, refl, sym, ap, subst, ◌∙◌, ◌⊎◌, inl, inr, arith, append_assoc, append-nil}
use Rattle.std.specs.Prelude.{codes}
use Rattle.std.specs.List.{All, Contains, flat_map}
use Rattle.std.proofs.lemmas.List.{length-append}
use Rattle.std.proofs.lemmas.List.Elements.{All-nil, All-cons, All-head, All-tail, All-append, All-map, All-weaker, All-contains, Contains-append_left, Contains-append_right}
use Rattle.lois_base.specs.Names.{IsName}
use Rattle.lois_registers.specs.Places.{AreGoodLines, BreaksAt, IsFaultPlace, IsRegistersOf}
use Rattle.lois_registers.specs.Stops.{StopsIn}
use Rattle.lois_registers.specs.Reading.{AreWords, is_clean}
use Rattle.lois_registers.specs.Texts.{text_of_words, title_words, order_words, count_words, states_words, initial_words, final_words, step_words, end_words, digit, head_lines, front_lines}
use Rattle.lois_registers.specs.Valid.{IsRegStep, IsRegisters}
use Rattle.lois_registers.specs.declared.RegistersError.TheVariants.{NotRegisters}
use Rattle.lois_registers.specs.declared.automata.RegStep.{RegStep}
use Rattle.lois_registers.specs.declared.automata.Registers.{Registers}
use Rattle.lois_registers.specs.declared.parse_error.ParseError.TheVariants.{Left}
use Rattle.lois_registers.proofs.Cuts.{clean_words, named_words, words_unique}
use Rattle.lois_registers.proofs.Members.{contains_first}
use Rattle.lois_registers.proofs.StepWords.{both_cons, digit_clean, step_are}

abbrev Lines : Type 0
Lines = List (List (List ℕ))

-- ---- the lines of a register automaton
order_are : (o : Bool) → AreWords (order_words o)
order_are false = clean_words (codes "atoms") (codes "equality" ∷ []) refl
order_are true = clean_words (codes "atoms") (codes "order" ∷ []) refl

six : (P : List (List ℕ) → Type 0) (a b c d e f : List (List ℕ)) → P a → P b → P c → P d → P e → P f → All P (a ∷ b ∷ c ∷ d ∷ e ∷ f ∷ [])
six P a b c d e f ha hb hc hd he hf =
    All-cons P a (b ∷ c ∷ d ∷ e ∷ f ∷ []) ha (All-cons P b (c ∷ d ∷ e ∷ f ∷ []) hb (All-cons P c (d ∷ e ∷ f ∷ []) hc (All-cons P d (e ∷ f ∷ []) hd (All-cons P e (f ∷ []) he (All-cons P f [] hf (All-nil P))))))

pub front_are : (r : Registers) → IsRegisters r → All AreWords (front_lines r)
front_are r v =
    let listed : All IsName r.finals = All-weaker (Contains r.states) IsName (λ n i. All-contains IsName r.states n v.states.form i) r.finals v.finals.listed in
    let steps : All AreWords (map step_words r.steps) =
    All-map AreWords step_words r.steps (All-weaker (IsRegStep r.order r.registers r.states) (λ s. AreWords (step_words s)) (λ s i. step_are r.order r.registers r.states s v.few i v.states.form) r.steps v.steps) in
    All-append AreWords (head_lines r) (map step_words r.steps)
    (six AreWords title_words (order_words r.order) (count_words r.registers) (states_words r.states) (initial_words r.initial) (final_words r.finals)
    (clean_words (codes "lois") (codes "registers" ∷ codes "1" ∷ []) refl)
    (order_are r.order)
    (clean_words (codes "registers") (digit r.registers ∷ []) (both_cons is_clean (codes "registers") (digit r.registers ∷ []) refl (both_cons is_clean (digit r.registers) [] (digit_clean r.registers v.few) refl)))
    (named_words (codes "states") r.states refl v.states.form)
    (named_words (codes "initial") (r.initial ∷ []) refl (All-cons IsName r.initial [] (All-contains IsName r.states r.initial v.states.form v.initial) (All-nil IsName)))
    (named_words (codes "final") r.finals refl listed))
    steps

good_are : (lines : Lines) → AreGoodLines lines → All AreWords lines
good_are lines (r, more, v, e) = prefix lines more (subst (All AreWords) e (front_are r v))
  where
    prefix : (xs ys : Lines) → All AreWords (xs ++ ys) → All AreWords xs
    prefix [] ys h = All-nil AreWords
    prefix (x ∷ xs) ys h = All-cons AreWords x xs (All-head AreWords x (xs ++ ys) h) (prefix xs ys (All-tail AreWords x (xs ++ ys) h))

-- none of them is the last line of the text
first_length : (w : List ℕ) (ws : List (List ℕ)) → w ∷ ws ≡ end_words → length w ≡ 3
first_length w ws e = let h : w ≡ codes "end" = cc in ap length h

abbrev IsNoEnd : List (List ℕ) → Type 0
IsNoEnd ws = ws ≡ end_words → ⊥

order_no_end : (o : Bool) → IsNoEnd (order_words o)
order_no_end false e = let bad : ◌≡◌ {A = ℕ} 5 3 = first_length (codes "atoms") (codes "equality" ∷ []) e in absurd (omega (arith, bad))
order_no_end true e = let bad : ◌≡◌ {A = ℕ} 5 3 = first_length (codes "atoms") (codes "order" ∷ []) e in absurd (omega (arith, bad))

step_no_end : (s : RegStep) → IsNoEnd (step_words s)
step_no_end s e = let bad : ◌≡◌ {A = ℕ} 4 3 = first_length (codes "step") _ e in absurd (omega (arith, bad))

front_no_end : (r : Registers) → All IsNoEnd (front_lines r)
front_no_end r =
    All-append IsNoEnd (head_lines r) (map step_words r.steps)
    (six IsNoEnd title_words (order_words r.order) (count_words r.registers) (states_words r.states) (initial_words r.initial) (final_words r.finals)
    (λ e. let bad : ◌≡◌ {A = ℕ} 4 3 = first_length (codes "lois") _ e in absurd (omega (arith, bad)))
    (order_no_end r.order)
    (λ e. let bad : ◌≡◌ {A = ℕ} 9 3 = first_length (codes "registers") _ e in absurd (omega (arith, bad)))
    (λ e. let bad : ◌≡◌ {A = ℕ} 6 3 = first_length (codes "states") _ e in absurd (omega (arith, bad)))
    (λ e. let bad : ◌≡◌ {A = ℕ} 7 3 = first_length (codes "initial") _ e in absurd (omega (arith, bad)))
    (λ e. let bad : ◌≡◌ {A = ℕ} 5 3 = first_length (codes "final") _ e in absurd (omega (arith, bad))))
    (All-map IsNoEnd step_words r.steps (λ k d l. step_no_end (get_or r.steps k d)))

good_no_end : (lines : Lines) → AreGoodLines lines → Contains lines end_words → ⊥
good_no_end lines (r, more, v, e) has =
    All-contains IsNoEnd (front_lines r) end_words (front_no_end r) (subst (λ z. Contains z end_words) (sym e) (Contains-append_left lines more end_words has)) refl

-- ---- two beginnings of one text: one of them goes on from the other
abbrev pub GoesOn : Lines → Lines → List ℕ → List ℕ → Type 0
GoesOn xs ys a b = (zs : Lines) × (ys ≡ xs ++ zs) × (a ≡ flat_map text_of_words zs ++ b)

next_line : (x y : List (List ℕ)) (xs ys : Lines) (a b : List ℕ) → x ≡ y → GoesOn xs ys a b ⊎ GoesOn ys xs b a → GoesOn (x ∷ xs) (y ∷ ys) a b ⊎ GoesOn (y ∷ ys) (x ∷ xs) b a
next_line x y xs ys a b e (inl (zs, f, g)) = inl (zs, ap (λ z. z ∷ ys) (sym e) ∙ ap (λ z. x ∷ z) f, g)
next_line x y xs ys a b e (inr (zs, f, g)) = inr (zs, ap (λ z. z ∷ xs) e ∙ ap (λ z. y ∷ z) f, g)

pub two_beginnings : (xs ys : Lines) (a b : List ℕ) → All AreWords xs → All AreWords ys → flat_map text_of_words xs ++ a ≡ flat_map text_of_words ys ++ b → GoesOn xs ys a b ⊎ GoesOn ys xs b a
two_beginnings [] ys a b h k e = inl (ys, refl, e)
two_beginnings (x ∷ xs) [] a b h k e = inr (x ∷ xs, refl, sym e)
two_beginnings (x ∷ xs) (y ∷ ys) a b h k e =
    let u = words_unique x y (flat_map text_of_words xs ++ a) (flat_map text_of_words ys ++ b) (All-head AreWords x xs h) (All-head AreWords y ys k)
    (sym (append_assoc (text_of_words x) (flat_map text_of_words xs) a) ∙ (e ∙ append_assoc (text_of_words y) (flat_map text_of_words ys) b)) in
    next_line x y xs ys a b u.0 (two_beginnings xs ys a b (All-tail AreWords x xs h) (All-tail AreWords y ys k) u.1)

-- where a text breaks no good lines go on
no_further : (text : List ℕ) (xs ys : Lines) (a b : List ℕ) → BreaksAt text xs a → AreGoodLines ys → (zs : Lines) → ys ≡ xs ++ zs → a ≡ flat_map text_of_words zs ++ b → xs ≡ ys
no_further text xs ys a b breaks good [] f g = sym (f ∙ append-nil xs)
no_further text xs ys a b breaks (r, more, v, e) (z ∷ zs) f g =
    absurd (breaks.further z (flat_map text_of_words zs ++ b) (g ∙ append_assoc (text_of_words z) (flat_map text_of_words zs) b)
    (r, zs ++ more, v, e ∙ (ap (λ w. w ++ more) (f ∙ sym (append_assoc xs (z ∷ []) zs)) ∙ append_assoc (xs ++ z ∷ []) zs more)))

lines_alone : (text : List ℕ) (xs ys : Lines) (a b : List ℕ) → BreaksAt text xs a → BreaksAt text ys b → xs ≡ ys
lines_alone text xs ys a b p q =
    elim (two_beginnings xs ys a b (good_are xs p.good) (good_are ys q.good) (sym p.whole ∙ q.whole)) [
      | inl (zs, f, g) ↦ no_further text xs ys a b p q.good zs f g
      | inr (zs, f, g) ↦ sym (no_further text ys xs b a q p.good zs f g)
    ]

-- a text is refused at one place
pub one_place : (text : List ℕ) (k m : ℕ) → IsFaultPlace text (NotRegisters k) → IsFaultPlace text (NotRegisters m) → k ≡ m
one_place text k m (xs, a, p, e) (ys, b, q, f) = e ∙ (ap (λ z. length (flat_map text_of_words z)) (lines_alone text xs ys a b p q) ∙ sym f)

-- a text that breaks is no register automaton's
breaks_on : (text : List ℕ) (lines : Lines) (rest : List ℕ) → BreaksAt text lines rest → (r : Registers) → IsRegisters r → (zs : Lines) → front_lines r ≡ lines ++ zs → rest ≡ flat_map text_of_words zs ++ text_of_words end_words → ⊥
breaks_on text lines rest b r v [] f g = b.last r v (f ∙ append-nil lines) g
breaks_on text lines rest b r v (z ∷ zs) f g =
    b.further z (flat_map text_of_words zs ++ text_of_words end_words) (g ∙ append_assoc (text_of_words z) (flat_map text_of_words zs) (text_of_words end_words)) (r, zs, v, f ∙ sym (append_assoc lines (z ∷ []) zs))

breaks_behind : (text : List ℕ) (lines : Lines) (rest : List ℕ) → BreaksAt text lines rest → (r : Registers) → IsRegisters r → (zs : Lines) → lines ≡ front_lines r ++ zs → text_of_words end_words ≡ flat_map text_of_words zs ++ rest → ⊥
breaks_behind text lines rest b r v [] f g = b.last r v (sym (f ∙ append-nil (front_lines r))) (sym g)
breaks_behind text lines rest b r v (z ∷ zs) f g =
    let lines_are : All AreWords (front_lines r ++ z ∷ zs) = subst (All AreWords) f (good_are lines b.good) in
    let z_are : AreWords z = All-contains AreWords (front_lines r ++ z ∷ zs) z lines_are (Contains-append_right (front_lines r) (z ∷ zs) z (contains_first z zs)) in
    let u = words_unique end_words z [] (flat_map text_of_words zs ++ rest) (clean_words (codes "end") [] refl) z_are (append-nil (text_of_words end_words) ∙ (g ∙ append_assoc (text_of_words z) (flat_map text_of_words zs) rest)) in
    good_no_end lines b.good (subst (λ w. Contains w end_words) (sym f) (Contains-append_right (front_lines r) (z ∷ zs) end_words (subst (Contains (z ∷ zs)) (sym u.0) (contains_first z zs))))

no_registers : (text : List ℕ) (lines : Lines) (rest : List ℕ) → BreaksAt text lines rest → (r : Registers) → IsRegistersOf text r → ⊥
no_registers text lines rest b r h =
    elim (two_beginnings lines (front_lines r) rest (text_of_words end_words) (good_are lines b.good) (front_are r h.valid) (sym b.whole ∙ sym h.same)) [
      | inl (zs, f, g) ↦ breaks_on text lines rest b r h.valid zs f g
      | inr (zs, f, g) ↦ breaks_behind text lines rest b r h.valid zs f g
    ]

-- the same by how many bytes are left
module _ (text : List ℕ) (n : ℕ) where
  pub none_left : StopsIn text (Left n) → (r : Registers) → IsRegistersOf text r → ⊥
  none_left (lines, rest, b, l) = no_registers text lines rest b

  pub only_left : (at : ℕ) → at ≡ length text - n → StopsIn text (Left n) → (other : ℕ) → IsFaultPlace text (NotRegisters other) → other ≡ at
  only_left at e (lines, rest, b, l) other h =
      one_place text other at h (lines, rest, b, omega (arith, e, l, ap length b.whole, length-append (flat_map text_of_words lines) rest))
