use Rattle.std.proofs.Common.{take, map}
use Rattle.std.specs.List.{AllZip}
use Rattle.lois_answers.specs.LineView.{line_of}
use Rattle.lois_interp.specs.Split.{IsSplitLine}
use Rattle.lois_interp.proofs.failures.split_lines.Given as goal

abbrev pub invariant-loop-line : goal.invariant-loop-line
invariant-loop-line l = AllZip IsSplitLine (map line_of (take l.line-index l.line-items)) l.split
