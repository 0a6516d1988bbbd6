use Rattle.std.proofs.Common.{take}
use Rattle.std.specs.List.{All}
use Rattle.lois_base.specs.Data.{comps_of}
use Rattle.lois_base.specs.Tree.{comp_of}
use Rattle.lois_relate.proofs.Parts.{comps_from}
use Rattle.lois_automata.proofs.Loops.{OnesSoFar}
use Rattle.lois_deciders.specs.OnlyAsked.{HasOnlyAsked}
use Rattle.lois_picture.specs.Drawing.{MakesPairs}
use Rattle.lois_picture.specs.Graphs.{IsEndOf}
use Rattle.lois_picture.proofs.relations.ends_in.Given as goal

abbrev pub invariant-loop-comp : goal.invariant-loop-comp
invariant-loop-comp g l = record {
  pairs : All (λ x. MakesPairs (comp_of x)) (take l.comp-index l.comp-items);
  sofar : OnesSoFar (λ _. IsEndOf) (λ _. Unit {0}) 0 l.pairs (comps_from l.comp-items l.comp-index) (comps_of l.ends);
  only_asked : HasOnlyAsked (λ b. (goal.Decider-dyn g (b.vtable, b.value)).kind_of b.value) (λ b. (goal.Decider-dyn g (b.vtable, b.value)).questions b.value) l.fn.chosen l.chosen;
}
