use Rattle.std.proofs.Common.{◌≡◌, ◌⊎◌, ◌<◌, false, codes, inl, inr, sym, ap, ◌∙◌}
use Rattle.lois_run.proofs.Numbers.{begins, beyond_limits, number_read, within, within_limits}
use Rattle.lois_run.proofs.words.number_named.Goals as goal
use Rattle.lois_run.proofs.words.number_named.Goals.{else-number-ge1-via-then-number-ge1+else-number-le10000, else-number-ge1-via-else-number-ge1}

pub returns-in_default : goal.returns-in_default
returns-in_default c =
    let plus : begins c.args.word.now (codes "+") ≡ false = cc (c.starts_with.ensures.value, c.if-starts_with.false, c.as_bytes-bytes.ensures.value) in
    let padded : begins c.args.word.now (codes "0") ≡ false = cc (c.starts_with-else-starts_with.ensures.value, c.if-starts_with-2.false, c.as_bytes-bytes.ensures.value) in
    sym (number_read c.args.word.now c.parse.result c.parse.ensures.value.0 plus padded ∙ ap within c.in_default.is)

pub returns-then-number-le10000 : goal.returns-then-number-le10000
returns-then-number-le10000 c =
    let plus : begins c.args.word.now (codes "+") ≡ false = cc (c.starts_with.ensures.value, c.if-starts_with.false, c.as_bytes-bytes.ensures.value) in
    let padded : begins c.args.word.now (codes "0") ≡ false = cc (c.starts_with-else-starts_with.ensures.value, c.if-starts_with-2.false, c.as_bytes-bytes.ensures.value) in
    sym (number_read c.args.word.now c.parse.result c.parse.ensures.value.0 plus padded ∙ within_limits c.parse.result c.in-Ok.number c.in-Ok.is c.if-number-ge1.true c.if-number-le10000.true)

pub returns-else-number-ge1 : goal.returns-else-number-ge1
returns-else-number-ge1 c =
    let plus : begins c.args.word.now (codes "+") ≡ false = cc (c.starts_with.ensures.value, c.if-starts_with.false, c.as_bytes-bytes.ensures.value) in
    let padded : begins c.args.word.now (codes "0") ≡ false = cc (c.starts_with-else-starts_with.ensures.value, c.if-starts_with-2.false, c.as_bytes-bytes.ensures.value) in
    let outside : (c.in-Ok.number < 1) ⊎ (10000 < c.in-Ok.number) = elim c.else-number-ge1.branch [
      | else-number-ge1-via-then-number-ge1+else-number-le10000 w ↦ inr w.if-number-le10000.false
      | else-number-ge1-via-else-number-ge1 w ↦ inl w.if-number-ge1.false
    ] in
    sym (number_read c.args.word.now c.parse.result c.parse.ensures.value.0 plus padded ∙ beyond_limits c.parse.result c.in-Ok.number c.in-Ok.is outside)
