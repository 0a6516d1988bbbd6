use Rattle.lois_base.specs.FormulaData.{formulas_of}
use Rattle.lois_base.specs.FormulaView.{views}
use Rattle.lois_elim.proofs.Steps.{parts_from}
use Rattle.lois_elim.proofs.Turning.{LiteralsSoFar}
use Rattle.lois_elim.proofs.turns.literals_of.Given as goal

abbrev pub invariant-loop-part : goal.invariant-loop-part
invariant-loop-part l = LiteralsSoFar l.free l.bound (formulas_of (views l.parts)) (parts_from l.part-items l.part-index) l.cube
