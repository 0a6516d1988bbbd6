use Rattle.std.proofs.Common.{◌≤◌, [], length, map, nat_eq, sym, ap, ◌∙◌, subst, arith}
use Rattle.std.specs.HashMap.{ContainsKey}
use Rattle.std.specs.List.{All}
use Rattle.lois_context.specs.Merged.{AreMerged}
use Rattle.lois_context.specs.Hash.{context_hash}
use Rattle.lois_context.proofs.Merged.{merged_none, merged_few}
use Rattle.lois_context.proofs.merging.merge_equal.Goals as goal

pub returns-then-as_slice-le1 : goal.returns-then-as_slice-le1
returns-then-as_slice-le1 c = merged_few c.args.contexts.items (subst (λ xs. length xs ≤ 1) c.as_slice.ensures.value c.if-as_slice-le1.true)

pub loop-context-init : goal.loop-context-init
loop-context-init c = record {
  merged = subst (AreMerged []) (sym c.new-merged.ensures.items) merged_none;
  hashes = c.new-hashes.ensures.items ∙ sym (ap (map context_hash) c.new-merged.ensures.items);
  places = subst (All (ContainsKey nat_eq c.new-places.result)) (sym c.new-hashes.ensures.items) (λ i d l. absurd (omega (arith, l)));
}

pub put-requires-clause-hashes : goal.put-requires-clause-hashes
put-requires-clause-hashes c = c.loop-context.invariant.hashes

pub put-requires-clause-places : goal.put-requires-clause-places
put-requires-clause-places c = c.loop-context.invariant.places

pub loop-context-preserved : goal.loop-context-preserved
loop-context-preserved c = record {
  merged = c.in_ok-put.ensures.merged c.loop-context.yielded c.loop-context.invariant.merged;
  hashes = c.in_ok-put.ensures.hashes;
  places = c.in_ok-put.ensures.places;
}
