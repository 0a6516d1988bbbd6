use Rattle.std.proofs.Common.{ℕ, ◌<◌, ◌≤◌}
use Rattle.lois_base.specs.Normal.{Occurs}
use Rattle.lois_base.specs.Tree.{tree}
use Rattle.lois_simplify.proofs.fixing.unused_binder.Given as goal

abbrev pub invariant-loop-binder : goal.invariant-loop-binder
invariant-loop-binder l = (b : ℕ) → l.from ≤ b → b < l.binder → Occurs b (tree l.item)
