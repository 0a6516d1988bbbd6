use Rattle.std.proofs.Common.{◌≡◌, take, map}
use Rattle.lois_answers.specs.LineView.{line_of}
use Rattle.lois_answers.proofs.results.Lines.copy.Given as goal

abbrev pub invariant-loop-item : goal.invariant-loop-item
invariant-loop-item l = l.copy ≡ map line_of (take l.item-index l.item-items)
