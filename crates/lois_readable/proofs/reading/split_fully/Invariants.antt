use Rattle.lois_base.specs.Tree.{tree}
use Rattle.lois_simplify.specs.Simplification.{IsSimplification}
use Rattle.lois_readable.proofs.reading.split_fully.Given as goal

abbrev pub invariant-loop-round : goal.invariant-loop-round
invariant-loop-round l = IsSimplification l.under l.size (tree l.term) (tree l.whole)
