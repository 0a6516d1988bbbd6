use Rattle.std.proofs.Common.{◌≡◌, ◌++◌, take}
use Rattle.std.specs.List.{flat_map}
use Rattle.lois_answers.specs.LineView.{line_of}
use Rattle.lois_answers.specs.ResultsText.{line_text}
use Rattle.lois_printer.proofs.answers.append_lines.Given as goal

abbrev pub invariant-loop-line : goal.invariant-loop-line
invariant-loop-line l =
    l.text.items ≡ l.initial.text.items ++ flat_map (λ x. line_text l.parameters l.size (line_of x)) (take l.line-index l.line-items)
