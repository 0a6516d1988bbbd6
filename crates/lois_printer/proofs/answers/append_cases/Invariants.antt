use Rattle.std.proofs.Common.{◌≡◌, ◌++◌, take}
use Rattle.std.specs.List.{flat_map}
use Rattle.lois_answers.specs.CaseView.{case_of}
use Rattle.lois_answers.specs.ResultsText.{case_text}
use Rattle.lois_printer.proofs.answers.append_cases.Given as goal

abbrev pub invariant-loop-case : goal.invariant-loop-case
invariant-loop-case l =
    l.text.items ≡ l.initial.text.items ++ flat_map (λ x. case_text l.parameters (case_of x)) (take l.case-index l.case-items)
