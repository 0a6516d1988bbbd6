use Rattle.std.proofs.Common.{◌≡◌, map, take}
use Rattle.lois_answers.specs.LineView.{line_of}
use Rattle.lois_base.specs.Tree.{tree}
use Rattle.lois_run.proofs.elements.with_terms.Given as goal

abbrev pub invariant-loop-index : goal.invariant-loop-index
invariant-loop-index l = record {
  names : map (λ k. k.name) l.changed ≡ map (λ k. k.name) (map line_of (take l.index l.element-items));
  terms : map (λ k. k.term) l.changed ≡ map tree (take l.index l.items);
}
