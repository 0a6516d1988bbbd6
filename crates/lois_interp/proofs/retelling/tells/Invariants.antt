use Rattle.std.proofs.Common.{map, take}
use Rattle.std.specs.List.{AllZip}
use Rattle.lois_answers.specs.LineView.{line_of}
use Rattle.lois_deciders.specs.OnlyAsked.{HasOnlyAsked}
use Rattle.lois_interp.specs.Retold.{IsRetoldLine}
use Rattle.lois_interp.proofs.retelling.tells.Given as goal

abbrev pub invariant-loop-i : goal.invariant-loop-i
invariant-loop-i g l = record {
  same : AllZip (IsRetoldLine l.own.size l.own.«when») (map line_of (take l.i l.lines)) (map line_of (take l.i l.others));
  only_asked : HasOnlyAsked (λ b. (goal.Decider-dyn g (b.vtable, b.value)).kind_of b.value) (λ b. (goal.Decider-dyn g (b.vtable, b.value)).questions b.value) l.fn.chosen l.chosen;
}
