use Rattle.std.proofs.Common.{◌-◌, ◌≤◌, length}
use Rattle.lois_lexer.specs.Tokens.{IsCut}
use Rattle.lois_lexer.proofs.lexing.cut.Given as goal

-- the text is cut up to here
abbrev pub invariant-loop-from : goal.invariant-loop-from
invariant-loop-from l = (l.from ≤ length l.text) × IsCut l.text l.from l.tokens.items

abbrev pub decreases-loop-from : goal.decreases-loop-from
decreases-loop-from l = length l.text - l.from
