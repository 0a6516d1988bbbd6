use Rattle.std.proofs.Common.{take, map}
use Rattle.lois_base.specs.Tree.{tree}
use Rattle.lois_shortest_word.specs.Walks.{AreShiftedLetters}
use Rattle.lois_shortest_word.proofs.walking.moved.Given as goal

abbrev pub invariant-loop-letter : goal.invariant-loop-letter
invariant-loop-letter l = AreShiftedLetters l.size l.by (map tree (take l.letter-index l.letter-items)) l.among
