use Rattle.std.proofs.Common.{sym, ◌∙◌}
use Rattle.lois_lexer.proofs.Forms.{single_from, is_single}
use Rattle.lois_lexer.proofs.lexing.is_symbol.Goals as goal

pub returns : goal.returns
returns c = (λ h. is_single c.args.byte (sym c.contains.ensures.value ∙ h), λ h. c.contains.ensures.value ∙ single_from c.args.byte h)
