use Rattle.std.proofs.Common.{◌+◌, ◌*◌, List, ◌++◌}
use Rattle.lois_base.specs.Atom.{Atom}
use Rattle.lois_base.specs.FormulaData.{formulas_of, depth_of_formula, depth_of_formulas}
use Rattle.lois_base.specs.FormulaTruth.{AllHold, AnyHolds}
use Rattle.lois_base.specs.FormulaView.{view, views}
use Rattle.lois_base.specs.Truth.{sampled}
use Rattle.lois_elim.proofs.Steps.{parts_from}
use Rattle.lois_simplify.proofs.sampling.+failing.Given as goal

abbrev pub decreases-fails_at : goal.decreases-fails_at
decreases-fails_at l = 2 * depth_of_formula (view l.f.now) + 1

abbrev pub decreases-some_fails_at : goal.decreases-some_fails_at
decreases-some_fails_at l = 2 * depth_of_formulas (formulas_of (views l.parts.now)) + 2

abbrev pub decreases-each_fails_at : goal.decreases-each_fails_at
decreases-each_fails_at l = 2 * depth_of_formulas (formulas_of (views l.parts.now)) + 2

abbrev pub invariant-some_fails_at-loop-part : goal.invariant-some_fails_at-loop-part
invariant-some_fails_at-loop-part l =
    (e : List Atom) → AllHold (sampled l.sample ++ e) (formulas_of (views l.parts)) → AllHold (sampled l.sample ++ e) (parts_from l.part-items l.part-index)

abbrev pub invariant-each_fails_at-loop-part : goal.invariant-each_fails_at-loop-part
invariant-each_fails_at-loop-part l =
    (e : List Atom) → AnyHolds (sampled l.sample ++ e) (formulas_of (views l.parts)) → AnyHolds (sampled l.sample ++ e) (parts_from l.part-items l.part-index)
