use Rattle.std.proofs.Common.{◌≡◌, ◌≤◌, true, length, drop, sym, subst}
use Rattle.lois_base.specs.Names.{IsName}
use Rattle.lois_parser.specs.Ahead.{ahead}
use Rattle.lois_parser.specs.Readable.{is_digits}
use Rattle.lois_parser.proofs.ReadableTokens.{first_lies, named, tagged, counted}
use Rattle.lois_parser.proofs.rest.Rest.bytes.Goals as goal

pub bytes-requires-clause-forward : goal.bytes-requires-clause-forward
bytes-requires-clause-forward c = (first_lies c.args.self.text.now c.args.self.tokens.now c.in-Some.token.now c.in-Some.field-0-1.now c.in-Some.ensures.cases c.args.self.readable).forward

pub bytes-requires-clause-within : goal.bytes-requires-clause-within
bytes-requires-clause-within c = (first_lies c.args.self.text.now c.args.self.tokens.now c.in-Some.token.now c.in-Some.field-0-1.now c.in-Some.ensures.cases c.args.self.readable).within

pub returns-in-Some-clause-named : goal.returns-in-Some-clause-named
unfolding ahead
returns-in-Some-clause-named c = λ e. subst IsName (sym c.bytes.ensures) (named c.args.self.text.now c.args.self.tokens.now c.in-Some.token.now c.in-Some.field-0-1.now c.in-Some.ensures.cases c.args.self.readable e)

pub returns-in-Some-clause-tagged : goal.returns-in-Some-clause-tagged
unfolding ahead
returns-in-Some-clause-tagged c = λ e. subst (λ x. (1 ≤ length x) × IsName (drop 1 x)) (sym c.bytes.ensures) (tagged c.args.self.text.now c.args.self.tokens.now c.in-Some.token.now c.in-Some.field-0-1.now c.in-Some.ensures.cases c.args.self.readable e)

pub returns-in-Some-clause-counted : goal.returns-in-Some-clause-counted
unfolding ahead
returns-in-Some-clause-counted c = λ e. subst (λ x. is_digits x ≡ true) (sym c.bytes.ensures) (counted c.args.self.text.now c.args.self.tokens.now c.in-Some.token.now c.in-Some.field-0-1.now c.in-Some.ensures.cases c.args.self.readable e)
