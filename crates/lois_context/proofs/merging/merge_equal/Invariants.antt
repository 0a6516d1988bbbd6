use Rattle.std.proofs.Common.{◌≡◌, map, nat_eq}
use Rattle.std.specs.HashMap.{ContainsKey}
use Rattle.std.specs.List.{All}
use Rattle.lois_context.specs.Merged.{AreMerged}
use Rattle.lois_context.specs.Hash.{context_hash}
use Rattle.lois_context.proofs.merging.merge_equal.Given as goal

abbrev pub invariant-loop-context : goal.invariant-loop-context
invariant-loop-context l = record {
  merged : AreMerged l.yielded l.merged.items;
  hashes : l.hashes.items ≡ map context_hash l.merged.items;
  places : All (ContainsKey nat_eq l.places) l.hashes.items;
}
