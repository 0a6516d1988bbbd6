use Rattle.std.proofs.Common.{ℕ, not, ◌==◌, take, length-take, arith}
use Rattle.std.proofs.lemmas.List.Sums.{suffix_len-le-length}
use Rattle.lois_lexer.proofs.places.place_of.Goals as goal

pub overflow_add-result : goal.overflow_add-result
overflow_add-result c =
    let before = take c.args.offset c.args.text.now in
    let within = suffix_len-le-length (λ (b : ℕ). not (b == 10)) before in
    let short = length-take c.args.offset c.args.text.now in
    omega (arith, c.last_line_len.ensures)
