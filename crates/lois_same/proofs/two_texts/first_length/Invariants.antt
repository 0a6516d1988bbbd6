use Rattle.std.proofs.Common.{◌≡◌, ◌+◌, drop}
use Rattle.lois_same.specs.TwoTexts.{first_length}
use Rattle.lois_same.proofs.two_texts.first_length.Given as goal

abbrev pub invariant-loop-i : goal.invariant-loop-i
invariant-loop-i l = first_length l.text ≡ l.i + first_length (drop l.i l.text)
