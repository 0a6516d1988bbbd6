use Rattle.std.proofs.Common.{◌≡◌, ◌<◌, drop}
use Rattle.lois_script.specs.Grammar.{decimal, decimal_behind}
use Rattle.lois_parser.proofs.Digits.{power}
use Rattle.lois_parser.proofs.rest.value.Given as goal

-- what the digits so far stand for, and the rest with it
abbrev pub invariant-loop-digit : goal.invariant-loop-digit
invariant-loop-digit l = (l.value < power l.digit-index) × (decimal_behind l.value (drop l.digit-index l.digits) ≡ decimal l.digits)
