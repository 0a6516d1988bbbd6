-- The tokens that a reader has before it, with their bytes.
use Rattle.std.specs.Prelude.{List}
use Rattle.lois_script.specs.Grammar.{PlacedToken}
use Rattle.lois_descent.specs.Refusals.{tokens_in}
use Rattle.lois_parser.specs.declared.rest.Rest.{Rest}

unfoldable pub ahead : Rest → List PlacedToken
ahead r = tokens_in r.text.now r.tokens.now
