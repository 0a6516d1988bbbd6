use Rattle.std.proofs.Common.{◌≡◌, ◌↔◌, drop, map}
use Rattle.lois_answers.specs.LineView.{line_of}
use Rattle.lois_context.proofs.merging.are_equal.Given as goal

abbrev pub invariant-loop-i : goal.invariant-loop-i
invariant-loop-i l =
    (l.lines ≡ l.partners) ↔ (map line_of (drop l.i l.items) ≡ map line_of (drop l.i l.others))
