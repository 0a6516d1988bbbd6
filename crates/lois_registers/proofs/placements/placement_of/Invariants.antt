use Rattle.std.proofs.Common.{◌≡◌, ◌-◌, ◌≤◌, ◌++◌}
use Rattle.lois_registers.specs.Placed.{contents_from, full}
use Rattle.lois_registers.proofs.placements.placement_of.Given as goal

abbrev pub invariant-loop-register : goal.invariant-loop-register
invariant-loop-register l = record {
  rest : l.contents.items ++ contents_from l.levels (l.registers - l._register) l.bits ≡ contents_from 0 l.registers l.pattern;
  levels : l.levels ≡ full l.contents.items;
  few : l.levels ≤ l._register;
}
