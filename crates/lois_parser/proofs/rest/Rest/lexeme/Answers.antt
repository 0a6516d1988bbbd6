use Rattle.std.proofs.Common.{◌∙◌, ap}
use Rattle.lois_descent.specs.Lexemes.{as_tag}
use Rattle.lois_parser.proofs.ReadableTokens.{first_lies, tag_suits}
use Rattle.lois_parser.proofs.rest.Rest.lexeme.Goals as goal

pub bytes-requires-clause-forward : goal.bytes-requires-clause-forward
bytes-requires-clause-forward c = (first_lies c.args.self.text.now c.args.self.tokens.now c.in-Some.token.now c.in-Some.field-0-1.now c.in-Some.ensures.cases c.args.self.readable).forward

pub bytes-requires-clause-within : goal.bytes-requires-clause-within
bytes-requires-clause-within c = (first_lies c.args.self.text.now c.args.self.tokens.now c.in-Some.token.now c.in-Some.field-0-1.now c.in-Some.ensures.cases c.args.self.readable).within

pub lexeme_of-requires : goal.lexeme_of-requires
lexeme_of-requires c = λ e. ap as_tag c.bytes.ensures ∙ tag_suits c.args.self.text.now c.args.self.tokens.now c.in-Some.token.now c.in-Some.field-0-1.now c.in-Some.ensures.cases c.args.self.readable e
