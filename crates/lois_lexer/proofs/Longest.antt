-- Which token is the longest at the front of some bytes, by the first of them.
use Rattle.std.proofs.Common.{◌≡◌, ℕ, zero, suc, ◌<◌, ◌≤◌, Bool, true, false, List, [], ◌∷◌, length, get_or, take, drop, sym, refl, ap, subst, ◌∙◌, ⊎_elim, arith, length-take, get_or-take, take_all}
use Rattle.std.specs.Prelude.{Contains}
use Rattle.std.specs.List.{list_all, prefix_len}
use Rattle.std.specs.Char.{is_ascii_alphabetic, is_ascii_digit}
use Rattle.std.proofs.lemmas.Bool.{and_from, and_parts, both_ways, cases_lt, false≢true}
use Rattle.std.proofs.lemmas.List.Sums.{AllPass-from_list_all, list_all-from_AllPass, prefix_len-le-length, prefix_len_passes, prefix_len_stops}
use Rattle.lois_lexer.specs.declared.TokenKind.{TokenKind}
use Rattle.lois_lexer.specs.declared.TokenKind.TheVariants.{Name, Word, Tag, Number, Symbol}
use Rattle.lois_lexer.specs.Bytes.{is_word_byte}
use Rattle.lois_lexer.specs.Words.{symbols}
use Rattle.lois_lexer.specs.Forms.{is_word_form, HasForm}
use Rattle.lois_lexer.specs.Tokens.{Longest}
use Rattle.lois_lexer.proofs.Forms.{class_of, first_class, class_of_first, form_nonempty, letter_first, letter_class, digit_class, word_bytes, symbol_only, symbol_short, letter_is_word_byte}

-- a run that passes a test: it passes, no longer front does, and it is there where the first byte passes
pub run_passes : (p : ℕ → Bool) (bytes : List ℕ) → list_all p (take (prefix_len p bytes) bytes) ≡ true
run_passes p bytes =
    list_all-from_AllPass p (take (prefix_len p bytes) bytes)
    (λ k d below. let inside : k < prefix_len p bytes = omega (arith, length-take (prefix_len p bytes) bytes) in ap p (get_or-take (prefix_len p bytes) bytes k d inside) ∙ prefix_len_passes p bytes k d inside)

pub run_is_longest : (p : ℕ → Bool) (bytes : List ℕ) (m : ℕ) → prefix_len p bytes < m → m ≤ length bytes → list_all p (take m bytes) ≡ true → ⊥
run_is_longest p bytes m over within passes =
    let n = prefix_len p bytes in
    let inside : prefix_len p bytes < length (take m bytes) = omega (arith, length-take m bytes) in
    both_ways (p (get_or bytes n 0))
    (prefix_len_stops p bytes 0 (omega arith))
    (sym (ap p (get_or-take m bytes n 0 over)) ∙ AllPass-from_list_all p (take m bytes) passes n 0 inside)

pub run_nonempty : (p : ℕ → Bool) (bytes : List ℕ) → 0 < length bytes → p (get_or bytes 0 0) ≡ true → 0 < prefix_len p bytes
run_nonempty p bytes nonempty passes =
    ⊎_elim (λ positive. positive)
    (λ none. let is_zero : prefix_len p bytes ≡ 0 = omega arith in
    absurd (both_ways (p (get_or bytes (prefix_len p bytes) 0)) (prefix_len_stops p bytes 0 (omega arith)) (ap (λ i. p (get_or bytes i 0)) is_zero ∙ passes)))
    (cases_lt 0 (prefix_len p bytes))

pub first_of_front : (m : ℕ) (bytes : List ℕ) → 0 < length (take m bytes) → get_or (take m bytes) 0 0 ≡ get_or bytes 0 0
first_of_front m bytes nonempty = get_or-take m bytes 0 0 (omega (arith, length-take m bytes))

front_class : (kind : TokenKind) (m : ℕ) (bytes : List ℕ) → HasForm kind (take m bytes) → class_of (get_or (take m bytes) 0 0) ≡ class_of (get_or bytes 0 0)
front_class kind m bytes h = ap class_of (first_of_front m bytes (form_nonempty kind (take m bytes) h))

-- what a token is made of, by its first byte
word_front : (kind : TokenKind) (bytes : List ℕ) → class_of (get_or bytes 0 0) ≡ 0 → HasForm kind bytes → list_all is_word_byte bytes ≡ true
word_front Name bytes e h = word_bytes bytes h.0
word_front Word bytes e h = word_bytes bytes h.0
word_front kind bytes e h = let k : first_class kind ≡ 0 = sym (class_of_first kind bytes h) ∙ e in absurd (omega arith)

number_front : (kind : TokenKind) (bytes : List ℕ) → class_of (get_or bytes 0 0) ≡ 1 → HasForm kind bytes → list_all is_ascii_digit bytes ≡ true
number_front Number [] e h = absurd h
number_front Number (b ∷ bs) e h = h
number_front kind bytes e h = let k : first_class kind ≡ 1 = sym (class_of_first kind bytes h) ∙ e in absurd (omega arith)

tag_front : (kind : TokenKind) (bytes : List ℕ) → class_of (get_or bytes 0 0) ≡ 2 → HasForm kind bytes → is_word_form (drop 1 bytes) ≡ true
tag_front Tag [] e h = absurd h
tag_front Tag (b ∷ bs) e h = h.1
tag_front kind bytes e h = let k : first_class kind ≡ 2 = sym (class_of_first kind bytes h) ∙ e in absurd (omega arith)

-- words and names
word_form_from : (bytes : List ℕ) → 0 < length bytes → is_ascii_alphabetic (get_or bytes 0 0) ≡ true → list_all is_word_byte bytes ≡ true → is_word_form bytes ≡ true
word_form_from [] nonempty letter passes = absurd (omega arith)
word_form_from (b ∷ bs) nonempty letter passes = and_from (is_ascii_alphabetic b) (list_all is_word_byte bs) letter (and_parts (is_word_byte b) (list_all is_word_byte bs) passes).1

module _ (bytes : List ℕ) (nonempty : 0 < length bytes) (letter : is_ascii_alphabetic (get_or bytes 0 0) ≡ true) where
  pub word_len_positive : 0 < prefix_len is_word_byte bytes
  word_len_positive = run_nonempty is_word_byte bytes nonempty (letter_is_word_byte (get_or bytes 0 0) letter)

  pub front_is_word : is_word_form (take (prefix_len is_word_byte bytes) bytes) ≡ true
  front_is_word =
      let n = prefix_len is_word_byte bytes in
      let positive : 0 < prefix_len is_word_byte bytes = word_len_positive in
      let nonempty_front : 0 < length (take (prefix_len is_word_byte bytes) bytes) = omega (arith, length-take n bytes) in
      word_form_from (take n bytes) nonempty_front (ap is_ascii_alphabetic (first_of_front n bytes nonempty_front) ∙ letter) (run_passes is_word_byte bytes)

  pub word_longest : (kind : TokenKind) → HasForm kind (take (prefix_len is_word_byte bytes) bytes) → Longest bytes kind (prefix_len is_word_byte bytes)
  word_longest kind form = record {
    within = prefix_len-le-length is_word_byte bytes;
    form = form;
    longest = λ other m over within h. run_is_longest is_word_byte bytes m over within (word_front other (take m bytes) (front_class other m bytes h ∙ letter_class (get_or bytes 0 0) letter) h);
  }

-- numbers
number_form : (bytes : List ℕ) → 0 < length bytes → list_all is_ascii_digit bytes ≡ true → HasForm Number bytes
number_form [] nonempty digits = absurd (omega arith)
number_form (b ∷ bs) nonempty digits = digits

pub number_longest : (bytes : List ℕ) → 0 < length bytes → is_ascii_digit (get_or bytes 0 0) ≡ true → Longest bytes Number (prefix_len is_ascii_digit bytes)
number_longest bytes nonempty digit =
    let positive : 0 < prefix_len is_ascii_digit bytes = run_nonempty is_ascii_digit bytes nonempty digit in
    let nonempty_front : 0 < length (take (prefix_len is_ascii_digit bytes) bytes) = omega (arith, length-take (prefix_len is_ascii_digit bytes) bytes) in
    record {
      within = prefix_len-le-length is_ascii_digit bytes;
      form = number_form (take (prefix_len is_ascii_digit bytes) bytes) nonempty_front (run_passes is_ascii_digit bytes);
      longest = λ other m over within h. run_is_longest is_ascii_digit bytes m over within (number_front other (take m bytes) (front_class other m bytes h ∙ digit_class (get_or bytes 0 0) digit) h);
    }

-- tags
pub tag_longest : (word : List ℕ) → 0 < length word → is_ascii_alphabetic (get_or word 0 0) ≡ true → Longest (39 ∷ word) Tag (suc (prefix_len is_word_byte word))
tag_longest word nonempty letter = record {
  within = omega (arith, prefix_len-le-length is_word_byte word);
  form = (refl, front_is_word word nonempty letter);
  longest = longest;
}
  where
    longest : (other : TokenKind) (m : ℕ) → suc (prefix_len is_word_byte word) < m → m ≤ suc (length word) → HasForm other (take m (39 ∷ word)) → ⊥
    longest other zero over within h = omega arith
    longest other (suc m) over within h = run_is_longest is_word_byte word m (omega arith) (omega arith) (word_bytes (take m word) (tag_front other (39 ∷ take m word) refl h))

pub no_tag : (word : List ℕ) → (0 < length word → is_ascii_alphabetic (get_or word 0 0) ≡ false) → (kind : TokenKind) (n : ℕ) → HasForm kind (take n (39 ∷ word)) → ⊥
no_tag word no_letter kind zero h = let k : 0 < 0 = form_nonempty kind [] h in omega arith
no_tag [] no_letter kind (suc zero) h = false≢true (tag_front kind (39 ∷ []) refl h)
no_tag [] no_letter kind (suc (suc n)) h = false≢true (tag_front kind (39 ∷ []) refl h)
no_tag (b ∷ bs) no_letter kind (suc zero) h = false≢true (tag_front kind (39 ∷ []) refl h)
no_tag (b ∷ bs) no_letter kind (suc (suc n)) h = both_ways (is_ascii_alphabetic b) (no_letter (omega arith)) (letter_first b (take n bs) (tag_front kind (39 ∷ b ∷ take n bs) refl h))

-- symbols
module _ (bytes : List ℕ) (class : class_of (get_or bytes 0 0) ≡ 3) where
  front_symbol : (kind : TokenKind) (m : ℕ) → HasForm kind (take m bytes) → Contains symbols (take m bytes)
  front_symbol kind m h = symbol_only kind (take m bytes) (front_class kind m bytes h ∙ class) h

  front_short : (kind : TokenKind) (m : ℕ) → m ≤ length bytes → HasForm kind (take m bytes) → m ≤ 2
  front_short kind m within h = omega (arith, length-take m bytes, symbol_short (take m bytes) (front_symbol kind m h))

  pub pair_longest : 1 < length bytes → Contains symbols (take 2 bytes) → Longest bytes Symbol 2
  pair_longest two pair = record { within = two; form = pair; longest = λ other m over within h. let short = front_short other m within h in omega arith }

  pub single_longest : 0 < length bytes → Contains symbols (take 1 bytes) → (1 < length bytes → Contains symbols (take 2 bytes) → ⊥) → Longest bytes Symbol 1
  single_longest one single no_pair = record {
    within = one;
    form = single;
    longest = λ other m over within h.
        let short = front_short other m within h in
        let is_two : m ≡ 2 = omega arith in
        no_pair (omega arith) (subst (λ (n : ℕ). Contains symbols (take n bytes)) is_two (front_symbol other m h));
  }

  -- a front of no more than the length
  no_front : (Contains symbols (take 1 bytes) → ⊥) → (1 < length bytes → Contains symbols (take 2 bytes) → ⊥) → (kind : TokenKind) (m : ℕ) → m ≤ length bytes → HasForm kind (take m bytes) → ⊥
  no_front no_single no_pair kind zero within h = let k = form_nonempty kind (take 0 bytes) h in omega (arith, length-take 0 bytes)
  no_front no_single no_pair kind (suc zero) within h = no_single (front_symbol kind 1 h)
  no_front no_single no_pair kind (suc (suc zero)) within h = no_pair (omega arith) (front_symbol kind 2 h)
  no_front no_single no_pair kind (suc (suc (suc m))) within h = let short = front_short kind (suc (suc (suc m))) within h in omega arith

-- a front is one of at most the length
front_within : (m : ℕ) (bytes : List ℕ) → (n : ℕ) × (n ≤ length bytes) × (take m bytes ≡ take n bytes)
front_within m bytes =
    ⊎_elim (λ below. (m, omega arith, refl))
    (λ above. (length bytes, omega arith, take_all m bytes above ∙ sym (take_all (length bytes) bytes (omega arith))))
    (cases_lt m (length bytes))

pub no_symbol : (bytes : List ℕ) → class_of (get_or bytes 0 0) ≡ 3 → (Contains symbols (take 1 bytes) → ⊥) → (1 < length bytes → Contains symbols (take 2 bytes) → ⊥) → (kind : TokenKind) (m : ℕ) → HasForm kind (take m bytes) → ⊥
no_symbol bytes class no_single no_pair kind m h =
    let front = front_within m bytes in
    no_front bytes class no_single no_pair kind front.0 front.1 (subst (HasForm kind) front.2 h)
