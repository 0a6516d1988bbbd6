use Rattle.std.proofs.Common.{◌≡◌, ℕ, length, get_or, take}
use Rattle.std.specs.List.{count_by}
use Rattle.lois_deciders.specs.Ranks.{is_step_to}
use Rattle.lois_deciders.proofs.ranks.steps_to.Given as goal

abbrev pub invariant-loop-lit : goal.invariant-loop-lit
invariant-loop-lit l = record {
  count : length l.steps.items ≡ length l.labels;
  steps : (y : ℕ) → get_or l.steps.items y 0 ≡ count_by (is_step_to l.labels y) (take l.lit-index l.lit-items);
}
