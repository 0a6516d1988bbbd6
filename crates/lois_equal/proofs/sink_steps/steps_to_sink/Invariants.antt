use Rattle.lois_base.specs.Data.{comps_of}
use Rattle.lois_base.specs.Tree.{tree}
use Rattle.lois_relate.proofs.Parts.{comps_from}
use Rattle.lois_equal.proofs.SinkSteps.{LedSoFar}
use Rattle.lois_equal.proofs.sink_steps.steps_to_sink.Given as goal

abbrev pub invariant-loop-comp : goal.invariant-loop-comp
invariant-loop-comp g l = LedSoFar l.size (comps_of l.pairs) (tree l.there) (tree l.sink) (comps_from l.comp-items l.comp-index) (comps_of l.made)
