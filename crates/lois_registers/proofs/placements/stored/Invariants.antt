use Rattle.std.proofs.Common.{◌≡◌, ◌+◌, ◌++◌, drop}
use Rattle.lois_registers.specs.Runs.{stored_from}
use Rattle.lois_registers.proofs.placements.stored.Given as goal

abbrev pub invariant-loop-level : goal.invariant-loop-level
invariant-loop-level l = record {
  counted : l.register ≡ l.level-index + 1;
  rest : l.after.items ++ stored_from l.register l.stores l.letter (drop l.level-index l.contents) ≡ stored_from 1 l.stores l.letter l.contents;
}
