use Rattle.lois_base.specs.Data.{comps_of}
use Rattle.lois_relate.proofs.Parts.{comps_from}
use Rattle.lois_shortest_word.proofs.Fresh.{FreshSoFar}
use Rattle.lois_shortest_word.proofs.rounds.take_fresh.Given as goal

abbrev pub invariant-loop-comp : goal.invariant-loop-comp
invariant-loop-comp g l = FreshSoFar l.size (comps_of l.members) (comps_from l.comp-items l.comp-index) (comps_of l.initial.seen) (comps_of l.seen) (comps_of l.fresh)
