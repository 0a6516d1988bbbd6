use Rattle.std.proofs.Common.{◌≡◌, ◌++◌, take}
use Rattle.std.specs.List.{flat_map}
use Rattle.lois_answers.specs.ResultsText.{spaced}
use Rattle.lois_printer.proofs.answers.append_parameters.Given as goal

abbrev pub invariant-loop-name : goal.invariant-loop-name
invariant-loop-name l =
    l.text.items ≡ l.initial.text.items ++ flat_map spaced (take l.name-index l.name-items)
