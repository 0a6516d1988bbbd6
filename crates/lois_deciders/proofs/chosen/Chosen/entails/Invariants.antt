use Rattle.std.proofs.Common.{take}
use Rattle.lois_deciders.specs.Satisfaction.{IsEntailed}
use Rattle.lois_deciders.specs.OnlyAsked.{HasOnlyAsked}
use Rattle.lois_deciders.proofs.chosen.Chosen.entails.Given as goal

abbrev pub invariant-loop-cube : goal.invariant-loop-cube
invariant-loop-cube g l = record {
  entailed : IsEntailed l.size (take l.cube-index l.c) l.d;
  only_asked : HasOnlyAsked (λ b. (goal.Decider-dyn g (b.vtable, b.value)).kind_of b.value) (λ b. (goal.Decider-dyn g (b.vtable, b.value)).questions b.value) l.fn.self l.self;
}
