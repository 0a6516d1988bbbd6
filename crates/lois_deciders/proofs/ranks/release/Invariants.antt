use Rattle.std.proofs.Common.{◌≡◌, ℕ, ◌+◌, get_or, take}
use Rattle.lois_deciders.specs.Ranks.{occurrences, IsReleased}
use Rattle.lois_deciders.proofs.ranks.release.Given as goal

abbrev pub invariant-loop-label : goal.invariant-loop-label
invariant-loop-label l = record {
  steps : (y : ℕ) → get_or l.steps.items y 0 + occurrences y (take l.label-index l.above) ≡ get_or l.initial.steps.items y 0;
  unheld : IsReleased l.initial.steps.items l.steps.items l.initial.unheld.items l.unheld.items;
}
