use Rattle.std.proofs.Common.{◌≡◌, take, map}
use Rattle.lois_base.specs.FormulaView.{view, views}
use Rattle.lois_base.proofs.logic.+copy.Given as goal

abbrev pub invariant-Formulas::copy-loop-item : goal.invariant-Formulas::copy-loop-item
invariant-Formulas::copy-loop-item l = views l.copy ≡ map view (take l.item-index l.item-items)
