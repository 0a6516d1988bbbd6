use Rattle.std.proofs.Common.{◌≡◌, ◌<◌, ◌^◌, drop}
use Rattle.lois_reader.specs.Pieces.{value, value_from}
use Rattle.lois_reader.proofs.constraints.value_of.Given as goal

abbrev pub invariant-loop-digit : goal.invariant-loop-digit
invariant-loop-digit l = record {
  same : value_from l.value (drop l.digit-index l.digits) ≡ value l.digits;
  fits : l.value < 2 ^ 64;
}
