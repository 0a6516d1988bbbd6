use Rattle.std.proofs.Common.{take}
use Rattle.lois_eval.specs.WellFormed.{IsUnnamed}
use Rattle.lois_vectors_expressions.proofs.standing.named.Given as goal

abbrev pub invariant-loop-other : goal.invariant-loop-other
invariant-loop-other l = IsUnnamed l.name (take l.other-index l.other-items)
