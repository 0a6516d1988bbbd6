use Rattle.std.proofs.Common.{take, subst, sym, ◌∙◌}
use Rattle.lois_lexer.specs.Refusals.{IsOverLimit}
use Rattle.lois_lexer.specs.Refusals.IsWrongAt.{bad_byte, long_name, bad_number}
use Rattle.lois_lexer.proofs.Forms.{form_nonempty}
use Rattle.lois_lexer.proofs.lexing.token_at.Goals as goal

pub returns-in_default-clause-wrong : goal.returns-in_default-clause-wrong
returns-in_default-clause-wrong c = bad_byte (record { nonempty = c.requires.nonempty; no_blank = c.requires.no_blank; no_comment = c.requires.no_comment; no_token = c.in_default.ensures.none })

pub is_within_limits-requires : goal.is_within_limits-requires
is_within_limits-requires c = form_nonempty c.in-Some.kind (take c.in-Some.len c.args.bytes.now) c.in-Some.ensures.some.form

pub returns-in-Number-clause-wrong : goal.returns-in-Number-clause-wrong
returns-in-Number-clause-wrong c =
    let bytes = c.args.bytes.now in
    let over : IsOverLimit c.args.bytes.now c.in-Some.kind = (c.in-Some.len, c.in-Some.ensures.some, sym c.is_within_limits.ensures ∙ c.if-is_within_limits.false) in
    bad_number (subst (IsOverLimit bytes) c.in-Number.is over)

pub returns-in_default-kind : goal.returns-in_default-kind
returns-in_default-kind c =
    let over : IsOverLimit c.args.bytes.now c.in-Some.kind = (c.in-Some.len, c.in-Some.ensures.some, sym c.is_within_limits.ensures ∙ c.if-is_within_limits.false) in
    record { longest = tt; limits = tt; wrong = long_name c.in-Some.kind c.in_default-kind.not-Number over }
