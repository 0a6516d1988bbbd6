use Rattle.std.proofs.Common.{◌≡◌, ◌++◌, take}
use Rattle.std.specs.List.{flat_map}
use Rattle.lois_base.specs.Tree.{tree}
use Rattle.lois_equal.specs.DifferenceText.{letter_text}
use Rattle.lois_equal.proofs.texts.append_letters.Given as goal

abbrev pub invariant-loop-letter : goal.invariant-loop-letter
invariant-loop-letter l = l.text.items ≡ l.initial.text.items ++ flat_map (λ x. letter_text l.parameters l.size (tree x)) (take l.letter-index l.letter-items)
