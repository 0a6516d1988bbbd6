use Rattle.std.proofs.Common.{ℕ, ◌<◌, List, get_or}
use Rattle.lois_base.specs.declared.guards.Lit.{Lit}
use Rattle.lois_constraint.specs.Entailment.{Entails}
use Rattle.lois_constraint.proofs.antichain.some_entails.Given as goal

abbrev pub invariant-loop-other : goal.invariant-loop-other
invariant-loop-other l = (k : ℕ) (d : List Lit) → k < l.other-index → Entails (get_or l.cubes k d) l.cube → ⊥
