use Rattle.std.proofs.Common.{drop, map, ◌↔◌}
use Rattle.std.specs.List.{All}
use Rattle.lois_answers.specs.LineView.{line_of}
use Rattle.lois_answers.specs.Sound.{IsSoundLine}
use Rattle.lois_answers.proofs.sound.are_sound_lines.Given as goal

abbrev pub invariant-loop-line : goal.invariant-loop-line
invariant-loop-line l =
    All (IsSoundLine l.ordered l.levels) l.lines ↔ All (IsSoundLine l.ordered l.levels) (map line_of (drop l.line-index l.line-items))
