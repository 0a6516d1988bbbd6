use Rattle.std.proofs.Common.{◌≡◌, ◌≤◌, take, map, length, get_or, vec_capacity}
use Rattle.lois_deciders.proofs.graph.ranked_sample.Given as goal

abbrev pub invariant-loop-label : goal.invariant-loop-label
invariant-loop-label l = record {
  taken : l.sample.items ≡ map (λ i. get_or l.ranks.items i 0) (take l.label-index l.label-items);
  room : length l.label-items ≤ vec_capacity l.sample;
}
