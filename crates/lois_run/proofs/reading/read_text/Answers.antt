use Rattle.std.proofs.Common.{◌≡◌, sym, subst, List}
use Rattle.lois_lexer.specs.Tokens.{HasTokens}
use Rattle.lois_lexer.specs.declared.Token.{Token}
use Rattle.lois_script.specs.View.{script_tree}
use Rattle.lois_run.specs.Refusals.{SyntaxTells}
use Rattle.lois_run.proofs.Answered.{syntax_refused, scope_refused, no_syntax_memory, no_scope_memory, none_scoped}
use Rattle.lois_run.proofs.reading.read_text.Goals as goal

pub returns-in-Err-read_script : goal.returns-in-Err-read_script
returns-in-Err-read_script c =
    let text = c.args.text.now in let tokens = c.deref.result.now in let error = c.in-Err-read_script.error in let r = c.in_ok-syntax_refusal-in-Err-read_script.field-0 in
    let again : c.deref-in-Err-read_script.result.now ≡ tokens = cc (c.deref.ensures.value, c.deref-in-Err-read_script.ensures.value) in
    let cut : HasTokens text tokens = subst (HasTokens text) (sym c.deref.ensures.value) c.in-Ok.ensures.tokens in
    let told : SyntaxTells text tokens error r = subst (λ (ts : List Token). SyntaxTells text ts error r) again c.in_ok-syntax_refusal-in-Err-read_script.ensures in
    let refused = syntax_refused text tokens error r cut c.in-Err-read_script.ensures.refused told in
    (refused.0, λ s h w. no_syntax_memory text tokens error r told (c.in-Err-read_script.ensures.accepts s h), refused.1)

pub returns : goal.returns
returns c =
    let text = c.args.text.now in let s = script_tree c.in-Ok-read_script.script in let error = c.in-Err-check.error in let r = c.in_ok-scope_refusal-in-Err-check.field-0 in
    let told = c.in_ok-scope_refusal-in-Err-check.ensures in
    let spells = c.in-Ok-read_script.ensures.script in
    let refused = scope_refused text s error r spells c.in-Err-check.ensures.refused told in
    (refused.0, none_scoped text s spells (λ w. no_scope_memory text error r told (c.in-Err-check.ensures.passes w)), refused.1)
