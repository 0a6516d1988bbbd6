use Rattle.std.proofs.Common.{sym, subst, ℕ}
use Rattle.lois_lexer.specs.declared.TokenKind.TheVariants.{Number}
use Rattle.lois_lexer.specs.Tokens.{Longest}
use Rattle.lois_lexer.proofs.Longest.{number_longest}
use Rattle.lois_lexer.proofs.lexing.number_at.Goals as goal

pub returns : goal.returns
returns c =
    let bytes = c.args.bytes.now in
    subst (λ (n : ℕ). Longest bytes Number n) (sym c.digits_len.ensures) (number_longest bytes c.requires.nonempty c.requires.digit)
