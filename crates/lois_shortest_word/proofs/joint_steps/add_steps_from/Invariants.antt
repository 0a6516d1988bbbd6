use Rattle.lois_base.specs.Data.{comps_of}
use Rattle.lois_base.specs.Fits.{ItemsFit}
use Rattle.lois_base.specs.Tree.{tree}
use Rattle.lois_base.specs.Validity.{AdmitsTerm, AdmitsItems, ItemsHaveBoundedWidths}
use Rattle.lois_relate.proofs.Parts.{comps_from}
use Rattle.lois_shortest_word.specs.Pairs.{IsStepFrom}
use Rattle.lois_shortest_word.proofs.Each.{EachSoFar}
use Rattle.lois_shortest_word.proofs.joint_steps.add_steps_from.Given as goal

abbrev pub invariant-loop-comp : goal.invariant-loop-comp
invariant-loop-comp g l = EachSoFar (IsStepFrom (tree l.held)) l.size l.steps (ItemsFit l.size (comps_of l.steps)) (λ o. AdmitsItems o (comps_of l.steps) × AdmitsTerm o (tree l.held)) (ItemsHaveBoundedWidths (comps_of l.steps)) (comps_of l.initial.made) (comps_from l.comp-items l.comp-index) (comps_of l.made)
