use Rattle.lois_base.specs.Data.{comps_of}
use Rattle.lois_relate.proofs.Parts.{comps_from}
use Rattle.lois_automata.specs.Adding.{IsStepOf}
use Rattle.lois_automata.proofs.Loops.{FirstsSoFar}
use Rattle.lois_automata.proofs.pairing.pair_steps.Given as goal

abbrev pub invariant-loop-first : goal.invariant-loop-first
invariant-loop-first g l = FirstsSoFar IsStepOf l.size l.one l.other (comps_from l.first-items l.first-index) (comps_of l.made)
