use Rattle.lois_parser.proofs.ReadableTokens.{rest_readable}
use Rattle.lois_parser.proofs.rest.Rest.behind.Goals as goal

pub invariant_of-result : goal.invariant_of-result
invariant_of-result c = record { readable = rest_readable c.args.self.text.now c.args.self.tokens.now c.in-Some._first.now c.in-Some.tokens.now c.in-Some.ensures.cases c.args.self.readable }
