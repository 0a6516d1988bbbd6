use Rattle.std.specs.Prelude.{ℕ}
use Rattle.lois_base.specs.Data.{comps_of}
use Rattle.lois_base.specs.Values.{IsSame}
use Rattle.lois_relate.proofs.Parts.{comps_from}
use Rattle.lois_minimise.specs.Classes.{HasFirstOfShape}
use Rattle.lois_minimise.proofs.Matching.{OnesMet}
use Rattle.lois_minimise.proofs.classing.pairs_of_shape.Given as goal

abbrev pub invariant-loop-comp : goal.invariant-loop-comp
invariant-loop-comp l = (n : ℕ) → OnesMet (λ _. IsSame) (λ _. HasFirstOfShape l.wanted) (λ _. Unit {0}) n l.pairs (comps_from l.comp-items l.comp-index) (comps_of l.made)
