use Rattle.std.proofs.Common.{◌≡◌, ℕ, ◌+◌, ◌-◌, ◌<◌, false, suc, List, [], ◌∷◌, length, get_or, take, drop, subst, sym, ap, ◌∙◌, arith}
use Rattle.std.specs.List.{prefix_len}
use Rattle.std.specs.Char.{is_ascii_alphabetic}
use Rattle.std.proofs.lemmas.Bool.{eqb-true, eqb-false}
use Rattle.std.proofs.lemmas.List.Sums.{prefix_len-le-length}
use Rattle.lois_lexer.specs.declared.TokenKind.TheVariants.{Tag}
use Rattle.lois_lexer.specs.Bytes.{is_word_byte}
use Rattle.lois_lexer.specs.Forms.{HasForm}
use Rattle.lois_lexer.specs.Tokens.{Longest}
use Rattle.lois_lexer.proofs.Longest.{no_tag, tag_longest}
use Rattle.lois_lexer.proofs.Slices.{rest_is}
use Rattle.lois_lexer.proofs.lexing.tag_at.Goals as goal
use Rattle.lois_lexer.proofs.lexing.tag_at.Goals.{then-is_empty-via-then-is_empty, then-is_empty-via-else-is_empty+then-not-is_ascii_alphabetic}

-- bytes that begin with a quote, taken apart
quoted : (bytes : List ℕ) → 0 < length bytes → get_or bytes 0 0 ≡ 39 → bytes ≡ 39 ∷ drop 1 bytes
quoted [] nonempty quote = absurd (omega arith)
quoted (b ∷ bs) nonempty quote = ap (λ a. a ∷ bs) quote

abbrev word_of : List ℕ → List ℕ
word_of bytes = take (length bytes - 1) (drop 1 bytes)

is_quoted : (bytes : List ℕ) → 0 < length bytes → get_or bytes 0 0 ≡ 39 → bytes ≡ 39 ∷ word_of bytes
is_quoted bytes nonempty quote = quoted bytes nonempty quote ∙ ap (λ w. 39 ∷ w) (sym (rest_is 1 bytes))

pub returns-then-is_empty-clause-none : goal.returns-then-is_empty-clause-none
returns-then-is_empty-clause-none c =
    let bytes = c.args.bytes.now in
    let no_letter : 0 < length (word_of c.args.bytes.now) → is_ascii_alphabetic (get_or (word_of c.args.bytes.now) 0 0) ≡ false = λ nonempty.
    elim c.then-is_empty.branch [
      | then-is_empty-via-then-is_empty w ↦ let none = eqb-true (length (word_of bytes)) 0 (sym c.is_empty.ensures ∙ w.if-is_empty.true) in absurd (omega arith)
      | then-is_empty-via-else-is_empty+then-not-is_ascii_alphabetic w ↦ sym w.is_ascii_alphabetic.ensures.value ∙ w.if-not-is_ascii_alphabetic.true
    ] in
    λ kind n h. no_tag (word_of bytes) no_letter kind n (subst (λ (xs : List ℕ). HasForm kind (take n xs)) (is_quoted bytes c.requires.nonempty c.requires.quote) h)

pub overflow_add-result : goal.overflow_add-result
overflow_add-result c =
    let word = word_of c.args.bytes.now in
    omega (arith, c.word_len.ensures, prefix_len-le-length is_word_byte word, ap length (is_quoted c.args.bytes.now c.requires.nonempty c.requires.quote))

pub returns-clause-some : goal.returns-clause-some
returns-clause-some c =
    let bytes = c.args.bytes.now in
    let word = word_of c.args.bytes.now in
    let some : length (word_of c.args.bytes.now) ≡ 0 → ⊥ = eqb-false (length word) 0 (sym c.is_empty.ensures ∙ c.if-is_empty.false) in
    let found = tag_longest word (omega arith) (sym c.is_ascii_alphabetic.ensures.value ∙ c.if-not-is_ascii_alphabetic.false) in
    let len : suc (prefix_len is_word_byte (word_of c.args.bytes.now)) ≡ 1 + c.word_len.result = omega (arith, c.word_len.ensures) in
    subst (λ (n : ℕ). Longest bytes Tag n) len (subst (λ (xs : List ℕ). Longest xs Tag (suc (prefix_len is_word_byte word))) (sym (is_quoted bytes c.requires.nonempty c.requires.quote)) found)
