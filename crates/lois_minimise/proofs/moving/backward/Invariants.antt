use Rattle.lois_base.specs.Data.{comps_of}
use Rattle.lois_relate.proofs.Parts.{comps_from}
use Rattle.lois_minimise.specs.Classes.{IsMoveBack}
use Rattle.lois_automata.proofs.Loops.{FirstsSoFar}
use Rattle.lois_minimise.proofs.moving.backward.Given as goal

abbrev pub invariant-loop-first : goal.invariant-loop-first
invariant-loop-first g l = FirstsSoFar IsMoveBack l.size l.steps l.steps (comps_from l.first-items l.first-index) (comps_of l.moves)
