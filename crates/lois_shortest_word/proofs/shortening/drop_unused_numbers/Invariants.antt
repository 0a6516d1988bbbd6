use Rattle.std.proofs.Common.{◌≤◌, length}
use Rattle.lois_shortest_word.specs.Shortened.{IsShortenedWord, IsShortenedEverywhere}
use Rattle.lois_shortest_word.specs.Words.{AreUsedBetween}
use Rattle.lois_shortest_word.proofs.shortening.drop_unused_numbers.Given as goal

abbrev pub invariant-dropping : goal.invariant-dropping
invariant-dropping l = record {
  short : IsShortenedWord l.size l.fn.word l.shorter;
  everywhere : IsShortenedEverywhere l.size l.fn.word l.shorter;
  least : l.size ≤ l.left;
  most : l.left ≤ length l.shorter.sample;
  used : AreUsedBetween l.left (length l.shorter.sample) l.shorter.letters;
}

abbrev pub decreases-dropping : goal.decreases-dropping
decreases-dropping l = l.left
