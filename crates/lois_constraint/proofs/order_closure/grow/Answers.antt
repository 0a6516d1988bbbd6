use Rattle.std.proofs.Common.{◌≤◌, ◌∙◌, ℕ, List, length, ap, get_or, arith}
use Rattle.std.proofs.lemmas.Grind.{common_steps}
use Rattle.lois_constraint.proofs.Words.{zeros_more}
use Rattle.lois_constraint.proofs.order_closure.grow.Goals as goal

pub returns-clause-same : goal.returns-clause-same
returns-clause-same c = λ i.
    let words : List ℕ = c.args.words.now.items in
    let less : length words ≤ c.args.length = grind (arith, common_steps) in
    ap (λ (xs : List ℕ). get_or xs i 0) c.in_ok-resize.ensures.items ∙ zeros_more words c.args.length _ i less
