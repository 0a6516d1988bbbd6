use Rattle.std.proofs.Common.{◌≡◌, ◌+◌, drop, length}
use Rattle.lois_reader.specs.Ends.{fixed_end}
use Rattle.lois_reader.proofs.words.fixed_end.Given as goal

abbrev pub invariant-loop-wanted : goal.invariant-loop-wanted
invariant-loop-wanted l = record {
  end : fixed_end (drop l.wanted-index l.text) l.rest ≡ fixed_end l.text l.bytes;
  shorter : length l.rest + l.wanted-index ≡ length l.bytes;
}
