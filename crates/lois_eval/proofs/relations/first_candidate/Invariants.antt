use Rattle.std.proofs.Common.{ℕ, ◌<◌}
use Rattle.lois_base.specs.Tree.{tree}
use Rattle.lois_eval.proofs.Candidates.{HasValue}
use Rattle.lois_eval.proofs.relations.first_candidate.Given as goal

abbrev pub invariant-loop-place : goal.invariant-loop-place
invariant-loop-place l = (i : ℕ) → i < l.place → HasValue l.comps (tree l.s) i → ⊥
