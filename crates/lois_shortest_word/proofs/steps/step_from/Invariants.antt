use Rattle.lois_base.specs.Data.{comps_of}
use Rattle.lois_base.specs.Tree.{tree}
use Rattle.lois_algebra.specs.Gathered.{IsAmong}
use Rattle.lois_deciders.specs.OnlyAsked.{HasOnlyAsked}
use Rattle.lois_relate.proofs.Parts.{comps_from}
use Rattle.lois_shortest_word.specs.Steps.{NeverAdvances}
use Rattle.lois_shortest_word.proofs.steps.step_from.Given as goal

abbrev pub invariant-loop-comp : goal.invariant-loop-comp
invariant-loop-comp g l = record {
  never : NeverAdvances l.size l.stage (IsAmong (comps_from l.comp-items l.comp-index)) (tree l.layer) → NeverAdvances l.size l.stage (IsAmong (comps_of l.steps)) (tree l.layer);
  only_asked : HasOnlyAsked (λ b. (goal.Decider-dyn g (b.vtable, b.value)).kind_of b.value) (λ b. (goal.Decider-dyn g (b.vtable, b.value)).questions b.value) l.fn.chosen l.chosen;
}
