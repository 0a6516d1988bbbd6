use Rattle.std.proofs.Common.{length, ◌≤◌}
use Rattle.lois_deciders.specs.OnlyAsked.{HasOnlyAsked}
use Rattle.lois_same.proofs.SameLines.{AreSameUpTo}
use Rattle.lois_same.proofs.lines.compare_lines.Given as goal

abbrev pub invariant-loop-index : goal.invariant-loop-index
invariant-loop-index g l = record {
  sofar : AreSameUpTo l.size l.under.constraint l.lines l.others l.index;
  within : l.index ≤ length l.others;
  only_asked : HasOnlyAsked (λ b. (goal.Decider-dyn g (b.vtable, b.value)).kind_of b.value) (λ b. (goal.Decider-dyn g (b.vtable, b.value)).questions b.value) l.fn.chosen l.chosen;
}
