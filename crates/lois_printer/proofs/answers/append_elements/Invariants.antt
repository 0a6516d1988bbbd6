use Rattle.std.proofs.Common.{◌≡◌, ◌++◌, take}
use Rattle.std.specs.List.{flat_map}
use Rattle.lois_answers.specs.LineView.{line_of}
use Rattle.lois_answers.specs.TraceText.{element_text}
use Rattle.lois_printer.proofs.answers.append_elements.Given as goal

abbrev pub invariant-loop-element : goal.invariant-loop-element
invariant-loop-element l =
    l.text.items ≡ l.initial.text.items ++ flat_map (λ x. element_text l.parameters l.size (line_of x)) (take l.element-index l.element-items)
