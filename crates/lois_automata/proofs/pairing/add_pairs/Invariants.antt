use Rattle.lois_base.specs.Data.{comps_of}
use Rattle.lois_base.specs.Tree.{comp_of}
use Rattle.lois_relate.proofs.Parts.{comps_from}
use Rattle.lois_automata.specs.Adding.{IsPairOf}
use Rattle.lois_automata.proofs.Loops.{SecondsSoFar}
use Rattle.lois_automata.proofs.pairing.add_pairs.Given as goal

abbrev pub invariant-loop-second : goal.invariant-loop-second
invariant-loop-second l = SecondsSoFar IsPairOf l.size (comp_of l.first) l.others (comps_of l.initial.made) (comps_from l.second-items l.second-index) (comps_of l.made)
