use Rattle.std.specs.Prelude.{ℕ}
use Rattle.lois_base.specs.Data.{comps_of}
use Rattle.lois_relate.proofs.Parts.{comps_from}
use Rattle.lois_automata.proofs.Loops.{OnesSoFar}
use Rattle.lois_minimise.specs.Classes.{IsTurned}
use Rattle.lois_minimise.proofs.ordering.turned.Given as goal

abbrev pub invariant-loop-comp : goal.invariant-loop-comp
invariant-loop-comp l = (n : ℕ) → OnesSoFar (λ _. IsTurned) (λ _. Unit {0}) n l.pairs (comps_from l.comp-items l.comp-index) (comps_of l.made)
