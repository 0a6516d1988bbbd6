use Rattle.std.proofs.Common.{drop, map, ◌↔◌}
use Rattle.lois_base.specs.Data.{terms_of}
use Rattle.lois_base.specs.Normal.{OccursInPart}
use Rattle.lois_base.specs.Tree.{tree}
use Rattle.lois_shortest_word.proofs.shortening.is_used.Given as goal

abbrev pub invariant-loop-letter : goal.invariant-loop-letter
invariant-loop-letter l =
    OccursInPart l.level (terms_of l.letters) ↔ OccursInPart l.level (terms_of (map tree (drop l.letter-index l.letter-items)))
