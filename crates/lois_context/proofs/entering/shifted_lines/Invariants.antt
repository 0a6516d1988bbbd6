use Rattle.std.proofs.Common.{◌≡◌, ◌+◌, take, map}
use Rattle.lois_answers.specs.LineView.{line_of}
use Rattle.lois_context.specs.Entered.{carried_line}
use Rattle.lois_context.specs.Kept.{LinesFit}
use Rattle.lois_context.proofs.entering.shifted_lines.Given as goal

abbrev pub invariant-loop-line : goal.invariant-loop-line
invariant-loop-line l =
    (l.moved ≡ map (carried_line l.size l.by) (map line_of (take l.line-index l.line-items))) × LinesFit (l.size + l.by) l.moved
