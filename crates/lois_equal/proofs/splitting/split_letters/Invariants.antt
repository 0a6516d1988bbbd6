use Rattle.std.proofs.Common.{take, map}
use Rattle.std.specs.List.{AllZip}
use Rattle.lois_base.specs.Tree.{tree}
use Rattle.lois_equal.specs.SplitWords.{IsSplitLetter}
use Rattle.lois_equal.proofs.splitting.split_letters.Given as goal

abbrev pub invariant-loop-letter : goal.invariant-loop-letter
invariant-loop-letter l = AllZip IsSplitLetter (map tree (take l.letter-index l.letter-items)) l.split
