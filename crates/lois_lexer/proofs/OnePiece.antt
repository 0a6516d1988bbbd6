-- At one place of a text stands one thing at most: a gap, a token within the limits, or what is wrong.
use Rattle.std.proofs.Common.{◌≡◌, ℕ, ◌+◌, ◌<◌, ◌≤◌, Bool, true, false, not, ◌||◌, ◌==◌, List, [], ◌∷◌, length, get_or, take, subst, sym, refl, ap, ◌∙◌, ⊎_elim, arith, length-take, get_or-take}
use Rattle.std.specs.Prelude.{IsTrue}
use Rattle.std.specs.List.{list_all, prefix_len}
use Rattle.std.specs.Char.{is_ascii_alphabetic, is_ascii_digit}
use Rattle.std.proofs.lemmas.Bool.{both_ways, false≢true, cases_order, not-true, and_parts}
use Rattle.std.proofs.lemmas.Bool.Decides.{nat_tests}
use Rattle.std.proofs.lemmas.List.Sums.{AllPass-from_list_all, prefix_len_is}
use Rattle.lois_lexer.specs.declared.TokenKind.{TokenKind}
use Rattle.lois_lexer.specs.declared.TokenKind.TheVariants.{Name, Word, Tag, Number, Symbol}
use Rattle.lois_lexer.specs.declared.LexError.{LexError}
use Rattle.lois_lexer.specs.declared.LexError.TheVariants.{BadByte}
use Rattle.lois_lexer.specs.Bytes.{is_blank, is_comment_byte}
use Rattle.lois_lexer.specs.Words.{symbols}
use Rattle.lois_lexer.specs.Forms.{HasForm, is_within_limits}
use Rattle.lois_lexer.specs.Tokens.{Longest, IsComment, IsTrivia}
use Rattle.lois_lexer.specs.Tokens.IsTrivia.{one_blank, one_comment}
use Rattle.lois_lexer.specs.Refusals.{BreaksComment, IsOverLimit, IsWrongAt}
use Rattle.lois_lexer.specs.Refusals.IsWrongAt.{bad_byte, bad_comment, long_name, bad_number}
use Rattle.lois_lexer.proofs.Forms.{passed_by_symbol, letter_first, one_kind}
use Rattle.lois_lexer.proofs.Longest.{first_of_front}
use Rattle.lois_lexer.proofs.Forms.{form_nonempty}
use Rattle.lois_lexer.proofs.Cutting.{token_positive}

-- the first byte of a gap, which is none of a token
abbrev begins_gap : ℕ → Bool
begins_gap b = is_blank b || b == 35

letter_no_gap : (b : ℕ) → is_ascii_alphabetic b ≡ true → begins_gap b ≡ false
letter_no_gap b h = grind (arith, nat_tests)

digit_no_gap : (b : ℕ) → is_ascii_digit b ≡ true → begins_gap b ≡ false
digit_no_gap b h = grind (arith, nat_tests)

token_no_gap : (kind : TokenKind) (bytes : List ℕ) → HasForm kind bytes → begins_gap (get_or bytes 0 0) ≡ false
unfolding symbols
token_no_gap Name (b ∷ bs) h = letter_no_gap b (letter_first b bs h.0)
token_no_gap Word (b ∷ bs) h = letter_no_gap b (letter_first b bs h.0)
token_no_gap Tag (b ∷ bs) h = ap begins_gap h.0
token_no_gap Number (b ∷ bs) h = digit_no_gap b (and_parts (is_ascii_digit b) (list_all is_ascii_digit bs) h).0
token_no_gap Symbol bytes h = not-true (begins_gap (get_or bytes 0 0)) (passed_by_symbol (λ xs. not (begins_gap (get_or xs 0 0))) refl bytes h)
token_no_gap Name [] h = refl
token_no_gap Word [] h = refl
token_no_gap Tag [] h = refl
token_no_gap Number [] h = refl

front_no_gap : (kind : TokenKind) (n : ℕ) (bytes : List ℕ) → HasForm kind (take n bytes) → begins_gap (get_or bytes 0 0) ≡ false
front_no_gap kind n bytes h = ap begins_gap (sym (first_of_front n bytes (form_nonempty kind (take n bytes) h))) ∙ token_no_gap kind (take n bytes) h

blank_begins : (b : ℕ) → is_blank b ≡ true → begins_gap b ≡ true
blank_begins b h = grind (arith, nat_tests)

blank_no_mark : (b : ℕ) → is_blank b ≡ true → b ≡ 35 → ⊥
blank_no_mark b h e = false≢true (ap is_blank (sym e) ∙ h)

gap_begins : (bytes : List ℕ) (n : ℕ) → IsTrivia bytes n → begins_gap (get_or bytes 0 0) ≡ true
gap_begins bytes n (one_blank nonempty blank) = blank_begins (get_or bytes 0 0) blank
gap_begins bytes n (one_comment m comment) = ap begins_gap comment.mark.1

-- how far a comment goes is determined
run_is : (bytes : List ℕ) (n : ℕ) → n ≤ length bytes → list_all is_comment_byte (take n bytes) ≡ true → (n < length bytes → is_comment_byte (get_or bytes n 0) ≡ false) → prefix_len is_comment_byte bytes ≡ n
run_is bytes n within inside stops =
    prefix_len_is is_comment_byte bytes n 0 within
    (λ k below. ap is_comment_byte (sym (get_or-take n bytes k 0 below)) ∙ AllPass-from_list_all is_comment_byte (take n bytes) inside k 0 (omega (arith, length-take n bytes)))
    stops

comment_is : (bytes : List ℕ) (n : ℕ) → IsComment bytes n → prefix_len is_comment_byte bytes ≡ n
comment_is bytes n c = run_is bytes n c.within c.inside (λ below. ⊎_elim (λ all. absurd (omega arith)) (λ e. ap is_comment_byte e) c.end)

broken_is : (bytes : List ℕ) (n : ℕ) → BreaksComment bytes n → prefix_len is_comment_byte bytes ≡ n
broken_is bytes n c = run_is bytes n (omega (arith, c.within)) c.inside (λ below. c.bad)

-- no two things stand at one place
pub gap_once : (bytes : List ℕ) (n m : ℕ) → IsTrivia bytes n → IsTrivia bytes m → n ≡ m
gap_once bytes n m (one_blank a blank) (one_blank b other) = refl
gap_once bytes n m (one_blank a blank) (one_comment k comment) = absurd (blank_no_mark (get_or bytes 0 0) blank comment.mark.1)
gap_once bytes n m (one_comment k comment) (one_blank a blank) = absurd (blank_no_mark (get_or bytes 0 0) blank comment.mark.1)
gap_once bytes n m (one_comment j this) (one_comment k that) = sym (comment_is bytes n this) ∙ comment_is bytes m that

pub gap_no_token : (bytes : List ℕ) (n m : ℕ) (kind : TokenKind) → IsTrivia bytes n → HasForm kind (take m bytes) → ⊥
gap_no_token bytes n m kind gap form = both_ways (begins_gap (get_or bytes 0 0)) (front_no_gap kind m bytes form) (gap_begins bytes n gap)

pub token_once : (bytes : List ℕ) (n m : ℕ) (this that : TokenKind) → Longest bytes this n → Longest bytes that m → (this ≡ that) × (n ≡ m)
token_once bytes n m this that a b =
    ⊎_elim
    (λ same. (one_kind this that (take n bytes) a.form (subst (λ (k : ℕ). HasForm that (take k bytes)) (sym same) b.form), same))
    (λ apart. ⊎_elim (λ below. absurd (a.longest that m below b.within b.form)) (λ above. absurd (b.longest this n above a.within a.form)) apart)
    (cases_order n m)

over_no_gap : (bytes : List ℕ) (n : ℕ) (kind : TokenKind) → IsOverLimit bytes kind → IsTrivia bytes n → ⊥
over_no_gap bytes n kind over gap = gap_no_token bytes n over.0 kind gap over.1.form

over_no_token : (bytes : List ℕ) (n : ℕ) (this that : TokenKind) → IsOverLimit bytes this → Longest bytes that n → IsTrue (is_within_limits that (take n bytes)) → ⊥
over_no_token bytes n this that over token limits =
    let same = token_once bytes over.0 n this that over.1 token in
    both_ways (is_within_limits this (take over.0 bytes)) over.2
    (subst (λ (k : TokenKind). is_within_limits k (take over.0 bytes) ≡ true) (sym same.0) (subst (λ (k : ℕ). is_within_limits that (take k bytes) ≡ true) (sym same.1) limits))

over_once : (bytes : List ℕ) (this that : TokenKind) → IsOverLimit bytes this → IsOverLimit bytes that → this ≡ that
over_once bytes this that a b = (token_once bytes a.0 b.0 this that a.1 b.1).0

broken_no_token : (bytes : List ℕ) (n m : ℕ) (kind : TokenKind) → BreaksComment bytes n → HasForm kind (take m bytes) → ⊥
broken_no_token bytes n m kind broken form = both_ways (begins_gap (get_or bytes 0 0)) (front_no_gap kind m bytes form) (ap begins_gap broken.mark)

pub wrong_no_gap : (at : ℕ) (bytes : List ℕ) (error : LexError) (n : ℕ) → IsWrongAt at bytes error → IsTrivia bytes n → ⊥
wrong_no_gap at bytes error n (bad_byte nothing) (one_blank a blank) = both_ways (is_blank (get_or bytes 0 0)) nothing.no_blank blank
wrong_no_gap at bytes error n (bad_byte nothing) (one_comment k comment) = nothing.no_comment comment.mark.1
wrong_no_gap at bytes error n (bad_comment m broken) (one_blank a blank) = blank_no_mark (get_or bytes 0 0) blank broken.mark
wrong_no_gap at bytes error n (bad_comment m broken) (one_comment k comment) =
    let same : m ≡ k = sym (broken_is bytes m broken) ∙ comment_is bytes k comment in
    ⊎_elim (λ all. omega (arith, broken.within)) (λ e. broken.no_end (ap (λ i. get_or bytes i 0) same ∙ e)) comment.end
wrong_no_gap at bytes error n (long_name kind other over) gap = over_no_gap bytes n kind over gap
wrong_no_gap at bytes error n (bad_number over) gap = over_no_gap bytes n Number over gap

pub wrong_no_token : (at : ℕ) (bytes : List ℕ) (error : LexError) (n : ℕ) (kind : TokenKind) → IsWrongAt at bytes error → Longest bytes kind n → IsTrue (is_within_limits kind (take n bytes)) → ⊥
wrong_no_token at bytes error n kind (bad_byte nothing) token limits = nothing.no_token kind n token.form
wrong_no_token at bytes error n kind (bad_comment m broken) token limits = broken_no_token bytes m n kind broken token.form
wrong_no_token at bytes error n kind (long_name other apart over) token limits = over_no_token bytes n other kind over token limits
wrong_no_token at bytes error n kind (bad_number over) token limits = over_no_token bytes n Number kind over token limits

pub wrong_once : (at : ℕ) (bytes : List ℕ) (this that : LexError) → IsWrongAt at bytes this → IsWrongAt at bytes that → this ≡ that
wrong_once at bytes this that (bad_byte a) (bad_byte b) = refl
wrong_once at bytes this that (bad_byte a) (bad_comment n b) = absurd (a.no_comment b.mark)
wrong_once at bytes this that (bad_byte a) (long_name kind apart over) = absurd (a.no_token kind over.0 over.1.form)
wrong_once at bytes this that (bad_byte a) (bad_number over) = absurd (a.no_token Number over.0 over.1.form)
wrong_once at bytes this that (bad_comment n b) (bad_byte a) = absurd (a.no_comment b.mark)
wrong_once at bytes this that (bad_comment n a) (bad_comment m b) = ap (λ k. BadByte (at + k)) (sym (broken_is bytes n a) ∙ broken_is bytes m b)
wrong_once at bytes this that (bad_comment n a) (long_name kind apart over) = absurd (broken_no_token bytes n over.0 kind a over.1.form)
wrong_once at bytes this that (bad_comment n a) (bad_number over) = absurd (broken_no_token bytes n over.0 Number a over.1.form)
wrong_once at bytes this that (long_name kind apart over) (bad_byte a) = absurd (a.no_token kind over.0 over.1.form)
wrong_once at bytes this that (long_name kind apart over) (bad_comment n a) = absurd (broken_no_token bytes n over.0 kind a over.1.form)
wrong_once at bytes this that (long_name kind apart a) (long_name other other_apart b) = refl
wrong_once at bytes this that (long_name kind apart a) (bad_number b) = absurd (apart (over_once bytes kind Number a b))
wrong_once at bytes this that (bad_number over) (bad_byte a) = absurd (a.no_token Number over.0 over.1.form)
wrong_once at bytes this that (bad_number over) (bad_comment n a) = absurd (broken_no_token bytes n over.0 Number a over.1.form)
wrong_once at bytes this that (bad_number a) (long_name kind apart b) = absurd (apart (over_once bytes kind Number b a))
wrong_once at bytes this that (bad_number a) (bad_number b) = refl

-- what is wrong is wrong with some byte
pub wrong_nonempty : (at : ℕ) (bytes : List ℕ) (error : LexError) → IsWrongAt at bytes error → 0 < length bytes
wrong_nonempty at bytes error (bad_byte nothing) = nothing.nonempty
wrong_nonempty at bytes error (bad_comment n broken) = omega (arith, broken.within)
wrong_nonempty at bytes error (long_name kind apart over) = omega (arith, token_positive bytes kind over.0 over.1, over.1.within)
wrong_nonempty at bytes error (bad_number over) = omega (arith, token_positive bytes Number over.0 over.1, over.1.within)
