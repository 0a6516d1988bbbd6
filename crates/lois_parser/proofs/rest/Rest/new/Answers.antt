use Rattle.lois_parser.proofs.ReadableTokens.{tokens_readable}
use Rattle.lois_parser.proofs.rest.Rest.new.Goals as goal

pub invariant_of-result : goal.invariant_of-result
invariant_of-result c = record { readable = tokens_readable c.args.text.now c.args.tokens.now c.requires.cut }
