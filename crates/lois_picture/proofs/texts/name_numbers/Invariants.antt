use Rattle.std.proofs.Common.{◌≡◌, map, take}
use Rattle.lois_picture.specs.GraphText.{number_name}
use Rattle.lois_picture.proofs.texts.name_numbers.Given as goal

abbrev pub invariant-loop-number : goal.invariant-loop-number
invariant-loop-number l = l.names ≡ map number_name (take l.number-index l.number-items)
