use Rattle.std.proofs.Common.{◌≡◌, drop, map}
use Rattle.lois_answers.specs.LineView.{line_of}
use Rattle.lois_context.specs.Hash.{lines_hash}
use Rattle.lois_context.proofs.hashing.hash_lines.Given as goal

abbrev pub invariant-loop-line : goal.invariant-loop-line
invariant-loop-line l = lines_hash l.seed l.lines ≡ lines_hash l.hash (map line_of (drop l.line-index l.line-items))
