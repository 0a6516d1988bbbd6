use Rattle.std.proofs.Common.{◌≡◌, ◌++◌, take}
use Rattle.std.specs.Fmt.{decimal}
use Rattle.std.specs.List.{flat_map}
use Rattle.lois_answers.specs.ResultsText.{spaced}
use Rattle.lois_questions.proofs.outcomes.append_numbers.Given as goal

abbrev pub invariant-loop-number : goal.invariant-loop-number
invariant-loop-number l =
    l.text.items ≡ l.initial.text.items ++ flat_map (λ a. spaced (decimal a)) (take l.number-index l.number-items)
