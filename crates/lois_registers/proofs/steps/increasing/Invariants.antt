use Rattle.std.proofs.Common.{◌≡◌, ℕ, ◌<◌, ◌≤◌, [], ◌∷◌, ◌++◌, take, map, ◌↔◌}
use Rattle.lois_registers.specs.Texts.{digit}
use Rattle.lois_registers.specs.Valid.{AreIncreasing}
use Rattle.lois_registers.proofs.steps.increasing.Given as goal

abbrev pub invariant-loop-word : goal.invariant-loop-word
invariant-loop-word l = record {
  increase : AreIncreasing 0 l.registers l.stores;
  further : (i : ℕ) → AreIncreasing 0 l.registers (l.stores ++ i ∷ []) ↔ ((l.last < i) × (i ≤ l.registers));
  words : map (λ w. w.now) (take l.word-index l.words) ≡ map digit l.stores;
}
