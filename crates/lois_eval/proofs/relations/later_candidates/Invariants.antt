use Rattle.lois_base.specs.Tree.{tree}
use Rattle.lois_eval.proofs.Candidates.{AreFoundBelow}
use Rattle.lois_eval.proofs.relations.later_candidates.Given as goal

abbrev pub invariant-loop-place : goal.invariant-loop-place
invariant-loop-place l = AreFoundBelow l.comps (tree l.s) l.from l.place l.places.items
