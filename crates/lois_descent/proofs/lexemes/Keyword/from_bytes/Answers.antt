use Rattle.std.proofs.Common.{sym, ◌∙◌}
use Rattle.lois_descent.specs.declared.lexemes.TheConstants.{KEYWORDS}
use Rattle.lois_descent.proofs.Keywords.{got, no_keyword, keyword_there}
use Rattle.lois_descent.proofs.lexemes.Keyword.from_bytes.Goals as goal

pub returns-in_err-place : goal.returns-in_err-place
returns-in_err-place c = c.from_residual.ensures ∙ sym (no_keyword c.args.bytes.now (sym (c.in_err-place.ensures)))

pub returns : goal.returns
returns c =
    c.copied.ensures ∙ got KEYWORDS c.in_ok-place.place c.get.result c.get.ensures.lookup ∙ keyword_there c.args.bytes.now c.in_ok-place.place (sym (c.in_ok-place.ensures))
