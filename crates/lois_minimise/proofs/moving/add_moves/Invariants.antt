use Rattle.lois_base.specs.Data.{comps_of}
use Rattle.lois_base.specs.Tree.{comp_of}
use Rattle.lois_relate.proofs.Parts.{comps_from}
use Rattle.lois_minimise.specs.Classes.{IsMoveBack}
use Rattle.lois_automata.proofs.Loops.{SecondsSoFar}
use Rattle.lois_minimise.proofs.moving.add_moves.Given as goal

abbrev pub invariant-loop-second : goal.invariant-loop-second
invariant-loop-second g l = SecondsSoFar IsMoveBack l.size (comp_of l.first) l.others (comps_of l.initial.moves) (comps_from l.second-items l.second-index) (comps_of l.moves)
