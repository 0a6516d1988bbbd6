use Rattle.lois_base.specs.Data.{comps_of}
use Rattle.lois_base.specs.Tree.{tree}
use Rattle.lois_base.specs.Validity.{AdmitsTerm}
use Rattle.lois_relate.proofs.Parts.{comps_from}
use Rattle.lois_automata.proofs.Loops.{OnesSoFar}
use Rattle.lois_shortest_word.specs.Pairs.{IsCommon}
use Rattle.lois_shortest_word.proofs.meeting.common_pairs.Given as goal

abbrev pub invariant-loop-comp : goal.invariant-loop-comp
invariant-loop-comp g l = OnesSoFar (IsCommon (tree l.one) (tree l.other)) (λ o. AdmitsTerm o (tree l.one) × AdmitsTerm o (tree l.other)) l.size l.pairs (comps_from l.comp-items l.comp-index) (comps_of l.made)
