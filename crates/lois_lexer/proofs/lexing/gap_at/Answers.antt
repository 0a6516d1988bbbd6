use Rattle.std.proofs.Common.{◌≡◌, ℕ, ◌<◌, length, get_or, subst, sym, ap, ◌∙◌, arith}
use Rattle.std.specs.List.{prefix_len}
use Rattle.lois_lexer.specs.Bytes.{is_comment_byte}
use Rattle.lois_lexer.specs.Tokens.{IsComment}
use Rattle.lois_lexer.specs.Tokens.IsTrivia.{one_blank, one_comment}
use Rattle.lois_lexer.specs.Refusals.{BreaksComment}
use Rattle.lois_lexer.specs.Refusals.IsWrongAt.{bad_comment}
use Rattle.lois_lexer.proofs.Gaps.{breaks, comment_ends}
use Rattle.lois_lexer.proofs.lexing.gap_at.Goals as goal
use Rattle.lois_lexer.proofs.lexing.gap_at.Goals.{else-len-bytes-via-then-len-bytes+else-bytes-len-ne10, else-len-bytes-via-else-len-bytes}

pub returns-then-is_blank-clause-gap : goal.returns-then-is_blank-clause-gap
returns-then-is_blank-clause-gap c = one_blank c.requires.nonempty (sym c.is_blank.ensures ∙ c.if-is_blank.true)

pub returns-then-bytes-len-ne10-clause-wrong : goal.returns-then-bytes-len-ne10-clause-wrong
returns-then-bytes-len-ne10-clause-wrong c =
    let bytes = c.args.bytes.now in
    let is_run = c.comment_len-len.ensures in
    bad_comment c.comment_len-len.result (subst (λ (n : ℕ). BreaksComment bytes n) (sym is_run) (breaks bytes c.if-bytes-ne35.false (omega arith) (λ e. c.if-bytes-len-ne10.true (ap (λ i. get_or bytes i 0) is_run ∙ e))))

pub returns-clause-gap : goal.returns-clause-gap
returns-clause-gap c =
    let bytes = c.args.bytes.now in
    let is_run = c.comment_len-len.ensures in
    let ends : prefix_len is_comment_byte c.args.bytes.now < length c.args.bytes.now → get_or c.args.bytes.now (prefix_len is_comment_byte c.args.bytes.now) 0 ≡ 10 = λ below.
    elim c.else-len-bytes.branch [
      | else-len-bytes-via-then-len-bytes+else-bytes-len-ne10 w ↦ ap (λ i. get_or bytes i 0) (sym is_run) ∙ w.if-bytes-len-ne10.false
      | else-len-bytes-via-else-len-bytes w ↦ absurd (omega arith)
    ] in
    one_comment c.comment_len-len.result (subst (λ (n : ℕ). IsComment bytes n) (sym is_run) (comment_ends bytes c.if-bytes-ne35.false c.requires.nonempty ends))
