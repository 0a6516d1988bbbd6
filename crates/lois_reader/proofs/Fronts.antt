-- What the readers of words, numbers and fixed texts give where these stand in front.
use Rattle.std.proofs.Common.{◌≡◌, ℕ, ◌<◌, Bool, true, false, not, ◌&&◌, ◌||◌, ◌==◌, List, [], ◌∷◌, ◌++◌, length, take, drop, get_or, Ok, refl, sym, ap, ◌∙◌, arith, eq-eqb}
use Rattle.std.specs.List.{list_all, prefix_len}
use Rattle.std.specs.Char.{is_ascii_alphabetic, is_ascii_digit}
use Rattle.std.proofs.lemmas.Bool.{and_parts, eqb-true, false≢true}
use Rattle.std.proofs.lemmas.Bool.Decides.{nat_tests}
use Rattle.std.proofs.lemmas.List.{take_at, drop_at}
use Rattle.lois_lexer.specs.Bytes.{is_word_byte}
use Rattle.lois_lexer.specs.Forms.{is_word_form}
use Rattle.lois_lexer.proofs.Forms.{word_bytes}
use Rattle.lois_reader.specs.Draft.{is_number}
use Rattle.lois_reader.specs.Reading.{first_byte, passes, begins}
use Rattle.lois_reader.specs.Ends.{fixed_end, word_at, word_end, number_at, number_end}

-- no byte of a word follows
abbrev pub EndsWord : List ℕ → Type 0
EndsWord r = passes is_word_byte (first_byte r) ≡ false

abbrev pub EndsNumber : List ℕ → Type 0
EndsNumber r = passes is_ascii_digit (first_byte r) ≡ false

pub fixed_front : (x r : List ℕ) → fixed_end x (x ++ r) ≡ Ok r
fixed_front [] r = refl
fixed_front (c ∷ cs) r = rw (eq-eqb c c refl) (fixed_front cs r)

-- a run of bytes that pass, before one that doesn't
run_is : (p : ℕ → Bool) (w r : List ℕ) → list_all p w ≡ true → passes p (first_byte r) ≡ false → prefix_len p (w ++ r) ≡ length w
run_is p [] [] all none = refl
run_is p [] (b ∷ r) all none = rw none refl
run_is p (b ∷ w) r all none =
    let parts = and_parts (p b) (list_all p w) all in
    let here : p b ≡ true = parts.0 in
    rw here (omega (arith, run_is p w r parts.1 none))

cut_is : (p : ℕ → Bool) (w r : List ℕ) → list_all p w ≡ true → passes p (first_byte r) ≡ false → (take (prefix_len p (w ++ r)) (w ++ r) ≡ w) × (drop (prefix_len p (w ++ r)) (w ++ r) ≡ r)
cut_is p w r all none =
    let n = run_is p w r all none in
    (take_at w r (prefix_len p (w ++ r)) (sym n), drop_at w r (prefix_len p (w ++ r)) (sym n))

pub word_front : (w r : List ℕ) → is_word_form w ≡ true → EndsWord r → word_at (w ++ r) ≡ Ok (w, r)
unfolding word_at
word_front [] r form none = absurd (false≢true form)
word_front (b ∷ bs) r form none =
    let letter : is_ascii_alphabetic b ≡ true = (and_parts (is_ascii_alphabetic b) (list_all is_word_byte bs) form).0 in
    let cut = cut_is is_word_byte (b ∷ bs) r (word_bytes (b ∷ bs) form) none in
    rw (letter, cut.0, cut.1) refl

digit_is_word_byte : (b : ℕ) → is_word_byte b ≡ false → is_ascii_digit b ≡ false
digit_is_word_byte b h = grind (arith, nat_tests)

pub ends_number : (r : List ℕ) → EndsWord r → EndsNumber r
ends_number [] h = refl
ends_number (b ∷ r) h = digit_is_word_byte b h

-- the front of a number
pub number_parts : (ds : List ℕ) → is_number ds ≡ true → (0 < length ds) × (list_all is_ascii_digit ds ≡ true) × ((length ds == 1 || not (get_or ds 0 0 == 48)) ≡ true)
number_parts [] h = absurd (false≢true h)
number_parts (d ∷ ds) h =
    let outer = and_parts (not (length (d ∷ ds) == 0) && list_all is_ascii_digit (d ∷ ds)) (length (d ∷ ds) == 1 || not (d == 48)) h in
    let inner = and_parts (not (length (d ∷ ds) == 0)) (list_all is_ascii_digit (d ∷ ds)) outer.0 in
    (omega arith, inner.1, outer.1)

zero_alone : (d : ℕ) (ds : List ℕ) → (d == 48) ≡ true → (length (d ∷ ds) == 1 || not (d == 48)) ≡ true → ds ≡ []
zero_alone d [] e h = refl
zero_alone d (x ∷ ds) e h = absurd (grind (arith, nat_tests))

digits_in_front : (s : List ℕ) → begins 48 s ≡ false → passes is_ascii_digit (first_byte s) ≡ true → number_at s ≡ Ok (take (prefix_len is_ascii_digit s) s, drop (prefix_len is_ascii_digit s) s)
unfolding number_at
digits_in_front s other digit = rw (other, digit) refl

number_at_digit : (d : ℕ) (ds r : List ℕ) → (d == 48) ≡ false → list_all is_ascii_digit (d ∷ ds) ≡ true → EndsNumber r → number_at ((d ∷ ds) ++ r) ≡ Ok (d ∷ ds, r)
number_at_digit d ds r other all none =
    let digit : is_ascii_digit d ≡ true = (and_parts (is_ascii_digit d) (list_all is_ascii_digit ds) all).0 in
    let cut = cut_is is_ascii_digit (d ∷ ds) r all none in
    digits_in_front ((d ∷ ds) ++ r) other digit ∙ rw (cut.0, cut.1) refl

number_at_zero : (d : ℕ) (r : List ℕ) → (d == 48) ≡ true → number_at (d ∷ r) ≡ Ok (d ∷ [], r)
unfolding number_at
number_at_zero d r e = rw e refl

pub number_front : (ds r : List ℕ) → is_number ds ≡ true → EndsNumber r → number_at (ds ++ r) ≡ Ok (ds, r)
number_front [] r h none = absurd (false≢true h)
number_front (d ∷ ds) r h none =
    let parts = number_parts (d ∷ ds) h in
    elim (d == 48) as (λ b. (d == 48) ≡ b → number_at ((d ∷ ds) ++ r) ≡ Ok (d ∷ ds, r)) [
      | true ↦ λ e. let alone = zero_alone d ds e parts.2 in rw alone (number_at_zero d r e)
      | false ↦ λ e. number_at_digit d ds r e parts.1 none
    ] refl

number_end_is : (ds r : List ℕ) (x : List ℕ × List ℕ) (s : List ℕ) → number_at s ≡ Ok x → number_end s ≡ Ok x.1
unfolding number_end
number_end_is ds r x s e = rw e refl

pub number_ends : (ds r : List ℕ) → is_number ds ≡ true → EndsNumber r → number_end (ds ++ r) ≡ Ok r
number_ends ds r h none = number_end_is ds r (ds, r) (ds ++ r) (number_front ds r h none)

word_end_is : (x : List ℕ × List ℕ) (s : List ℕ) → word_at s ≡ Ok x → word_end s ≡ Ok x.1
unfolding word_end
word_end_is x s e = rw e refl

pub word_ends : (w r : List ℕ) → is_word_form w ≡ true → EndsWord r → word_end (w ++ r) ≡ Ok r
word_ends w r form none = word_end_is (w, r) (w ++ r) (word_front w r form none)

-- a word doesn't begin with a byte that is no letter
pub word_begins : (c : ℕ) (w r : List ℕ) → is_word_form w ≡ true → is_ascii_alphabetic c ≡ false → begins c (w ++ r) ≡ false
word_begins c [] r form none = absurd (false≢true form)
word_begins c (b ∷ bs) r form none =
    let letter : is_ascii_alphabetic b ≡ true = (and_parts (is_ascii_alphabetic b) (list_all is_word_byte bs) form).0 in
    elim (b == c) as (λ t. (b == c) ≡ t → (b == c) ≡ false) [
      | true ↦ λ e. absurd (false≢true (sym none ∙ ap is_ascii_alphabetic (sym (eqb-true b c e)) ∙ letter))
      | false ↦ λ e. e
    ] refl
