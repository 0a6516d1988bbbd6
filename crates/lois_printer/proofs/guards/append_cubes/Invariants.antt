use Rattle.std.proofs.Common.{◌≡◌, ◌++◌, map, take, codes}
use Rattle.lois_answers.specs.TermText.{cube_text, joined}
use Rattle.lois_printer.proofs.guards.append_cubes.Given as goal

abbrev pub invariant-loop-index : goal.invariant-loop-index
invariant-loop-index l =
    l.text.items ≡ l.initial.text.items ++ joined (codes " or ") (map (cube_text l.parameters) (take l.index l.cubes))
