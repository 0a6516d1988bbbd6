use Rattle.std.proofs.Common.{◌≡◌, ◌↔◌, drop}
use Rattle.lois_automata.proofs.joining.is_same_family.Given as goal

abbrev pub invariant-loop-index : goal.invariant-loop-index
invariant-loop-index l = (l.members ≡ l.others) ↔ (drop l.index l.members ≡ drop l.index l.others)
