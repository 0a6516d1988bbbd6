use Rattle.lois_base.specs.Tree.{tree}
use Rattle.lois_same.proofs.OtherValues.{written_alike}
use Rattle.lois_same.proofs.values.compare_values.Goals as goal

pub returns-then-is_equal-clause-contrast : goal.returns-then-is_equal-clause-contrast
returns-then-is_equal-clause-contrast g c =
    written_alike c.args.size c.args.under.now (tree c.args.term.now) (tree c.args.other.now) (c.is_equal.ensures.0 c.if-is_equal.true)
