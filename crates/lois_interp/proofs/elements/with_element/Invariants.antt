use Rattle.std.proofs.Common.{◌≡◌, ◌∷◌, ◌-◌, length, map, take}
use Rattle.lois_base.specs.Shift.{shift}
use Rattle.lois_base.specs.Tree.{tree}
use Rattle.lois_answers.specs.LineView.{line_of}
use Rattle.lois_interp.proofs.elements.with_element.Given as goal

abbrev pub invariant-loop-line : goal.invariant-loop-line
invariant-loop-line l =
    l.elements ≡ record { name = l.name; term = shift l.size (length l.fn.fault.sample.items - l.size) (tree l.item) } ∷ map line_of (take l.line-index l.line-items)
