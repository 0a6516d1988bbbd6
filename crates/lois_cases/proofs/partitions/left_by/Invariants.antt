use Rattle.std.proofs.Common.{List, take}
use Rattle.std.specs.Prelude.{IsTrue, ◌↔◌}
use Rattle.std.specs.List.{All}
use Rattle.lois_base.specs.Atom.{Atom}
use Rattle.lois_base.specs.Fits.{ConstraintFits}
use Rattle.lois_base.specs.Truth.{holds}
use Rattle.lois_answers.specs.CaseView.{case_of}
use Rattle.lois_cases.specs.Cases.{HoldsAt}
use Rattle.lois_cases.proofs.partitions.left_by.Given as goal

abbrev pub invariant-loop-case : goal.invariant-loop-case
invariant-loop-case l = record {
  truth : (c : List Atom) → IsTrue (holds c l.left) ↔ All (λ x. HoldsAt c (case_of x) → ⊥) (take l.case-index l.cases);
  levels : ConstraintFits l.size l.left;
}
