use Rattle.lois_simplify.proofs.Shortened.{with_last, one_more_gained}
use Rattle.lois_simplify.proofs.shortening.has_gained.Goals as goal

pub loop-other-preserved : goal.loop-other-preserved
loop-other-preserved c = λ e o h. one_more_gained e c.args.others.now c.as_slice-other-items.result.now c.loop-other.other-index _ c.loop-other-test.true (c.loop-other.invariant e o h) (λ one. c.in_ok-covers_cube.ensures.yes c.if-not-branch.false e o (with_last e c.args.without.now c.in_ok-gained.gained _ c.in_ok-gained.ensures h one))
