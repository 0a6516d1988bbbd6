use Rattle.std.proofs.Common.{◌≡◌, ◌++◌, length, map}
use Rattle.std.specs.List.{All, flat_map}
use Rattle.lois_registers.specs.Texts.{text_of_words, step_words}
use Rattle.lois_registers.specs.Valid.{IsRegStep}
use Rattle.lois_registers.proofs.reading.steps.Given as goal

abbrev pub invariant-loop-step : goal.invariant-loop-step
invariant-loop-step l = record {
  count : length l.steps ≡ l._step;
  valid : All (IsRegStep l.frame.order l.frame.registers l.frame.states.now) l.steps;
  read : l.text ≡ flat_map text_of_words (map step_words l.steps) ++ l.rest;
}
