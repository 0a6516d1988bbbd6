use Rattle.std.proofs.Common.{ℕ, take, subst, sym}
use Rattle.std.specs.Prelude.{Contains}
use Rattle.std.specs.List.{prefix_len}
use Rattle.std.proofs.lemmas.Bool.{both_ways}
use Rattle.lois_lexer.specs.declared.TokenKind.TheVariants.{Name, Word}
use Rattle.lois_lexer.specs.Bytes.{is_word_byte}
use Rattle.lois_lexer.specs.Words.{reserved}
use Rattle.lois_lexer.specs.Forms.{HasForm}
use Rattle.lois_lexer.specs.Tokens.{Longest}
use Rattle.lois_lexer.proofs.Longest.{front_is_word, word_longest}
use Rattle.lois_lexer.proofs.lexing.word_at.Goals as goal

pub returns-then-is_reserved : goal.returns-then-is_reserved
returns-then-is_reserved c =
    let bytes = c.args.bytes.now in
    let is_run = c.word_len-len.ensures in
    let here : Contains reserved (take c.word_len-len.result c.args.bytes.now) = c.is_reserved.ensures.0 c.if-is_reserved.true in
    let form : HasForm Word (take (prefix_len is_word_byte c.args.bytes.now) c.args.bytes.now) = (front_is_word bytes c.requires.nonempty c.requires.letter, subst (λ (n : ℕ). Contains reserved (take n bytes)) is_run here) in
    subst (λ (n : ℕ). Longest bytes Word n) (sym is_run) (word_longest bytes c.requires.nonempty c.requires.letter Word form)

pub returns-else-is_reserved : goal.returns-else-is_reserved
returns-else-is_reserved c =
    let bytes = c.args.bytes.now in
    let is_run = c.word_len-len.ensures in
    let not_here : Contains reserved (take (prefix_len is_word_byte c.args.bytes.now) c.args.bytes.now) → ⊥ = λ h.
    both_ways c.is_reserved.result c.if-is_reserved.false (c.is_reserved.ensures.1 (subst (λ (n : ℕ). Contains reserved (take n bytes)) (sym is_run) h)) in
    subst (λ (n : ℕ). Longest bytes Name n) (sym is_run) (word_longest bytes c.requires.nonempty c.requires.letter Name (front_is_word bytes c.requires.nonempty c.requires.letter, not_here))
