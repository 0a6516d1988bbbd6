use Rattle.std.proofs.Common.{ℕ, ◌<◌, get_or}
use Rattle.lois_base.specs.declared.guards.Lit.{Lit}
use Rattle.lois_deciders.specs.Labels.{IsKeptApart}
use Rattle.lois_deciders.proofs.labels.has_conflicting_disequality.Given as goal

abbrev pub invariant-loop-lit : goal.invariant-loop-lit
invariant-loop-lit l = (k : ℕ) (d : Lit) → k < l.lit-index → IsKeptApart l.labels (get_or l.cube k d)
