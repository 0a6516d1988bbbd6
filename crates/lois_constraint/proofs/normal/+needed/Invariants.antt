use Rattle.std.proofs.Common.{length}
use Rattle.lois_constraint.proofs.normal.+needed.Given as goal

abbrev pub decreases-needed : goal.decreases-needed
decreases-needed l = length l.literals.now
