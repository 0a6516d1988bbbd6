use Rattle.lois_base.specs.Data.{comps_of}
use Rattle.lois_base.specs.Tree.{tree}
use Rattle.lois_base.specs.Validity.{AdmitsTerm}
use Rattle.lois_relate.proofs.Parts.{comps_from}
use Rattle.lois_automata.proofs.Loops.{OnesSoFar}
use Rattle.lois_shortest_word.specs.Layers.{IsSourceTo}
use Rattle.lois_shortest_word.proofs.layers.sources.Given as goal

abbrev pub invariant-loop-comp : goal.invariant-loop-comp
invariant-loop-comp g l = OnesSoFar (IsSourceTo (tree l.layer)) (λ o. AdmitsTerm o (tree l.layer)) l.size l.steps (comps_from l.comp-items l.comp-index) (comps_of l.made)
