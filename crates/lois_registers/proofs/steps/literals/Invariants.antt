use Rattle.std.proofs.Common.{◌≡◌, ◌%◌, [], ◌∷◌, ◌++◌, take, map}
use Rattle.std.specs.Prelude.{codes}
use Rattle.std.specs.List.{All}
use Rattle.lois_answers.specs.TermText.{literal_text}
use Rattle.lois_registers.specs.Texts.{operand_names}
use Rattle.lois_registers.specs.Valid.{IsLiteral}
use Rattle.lois_registers.proofs.Linked.{anded}
use Rattle.lois_registers.proofs.steps.literals.Given as goal

abbrev pub invariant-loop-i : goal.invariant-loop-i
invariant-loop-i l = record {
  literals : All (IsLiteral l.ordered l.registers) l.cube;
  even : l.i % 2 ≡ 0 → map (λ w. w.now) (take l.i l.words) ≡ anded (map (literal_text operand_names) l.cube);
  odd : l.i % 2 ≡ 1 → map (λ w. w.now) (take l.i l.words) ++ codes "and" ∷ [] ≡ anded (map (literal_text operand_names) l.cube);
}
