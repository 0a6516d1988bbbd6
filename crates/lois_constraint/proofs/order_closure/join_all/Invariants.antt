use Rattle.std.proofs.Common.{◌≡◌, ℕ, ◌<◌, ◌≤◌, get_or}
use Rattle.std.specs.Prelude.{bit_or}
use Rattle.lois_constraint.proofs.order_closure.join_all.Given as goal

abbrev pub invariant-loop-index : goal.invariant-loop-index
invariant-loop-index l = record {
  below : (j : ℕ) → j < l.index → get_or l.words j 0 ≡ bit_or (get_or l.initial.words j 0) (get_or l.others j 0);
  above : (j : ℕ) → l.index ≤ j → get_or l.words j 0 ≡ get_or l.initial.words j 0;
}
