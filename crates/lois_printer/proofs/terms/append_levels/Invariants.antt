use Rattle.std.proofs.Common.{◌≡◌, ◌++◌, ◌-◌}
use Rattle.lois_answers.specs.TermText.{levels_text}
use Rattle.lois_printer.proofs.terms.append_levels.Given as goal

abbrev pub invariant-loop-level : goal.invariant-loop-level
invariant-loop-level l =
    l.text.items ++ levels_text l.level (l.level-end - l.level) ≡ l.initial.text.items ++ levels_text l.size l.binders
