use Rattle.std.proofs.Common.{◌≡◌, ℕ, List, length, arith}
use Rattle.std.proofs.lemmas.Grind.{common_steps}
use Rattle.lois_constraint.proofs.Words.{all_joined}
use Rattle.lois_constraint.proofs.order_closure.join_all.Goals as goal

pub returns : goal.returns
returns c =
    let others : List ℕ = c.args.others.now in
    let whole : length others ≡ c.loop-index.index = grind (arith, common_steps) in
    all_joined c.args.words.now others c.loop-index.words c.loop-index.index whole c.loop-index.invariant.below c.loop-index.invariant.above
