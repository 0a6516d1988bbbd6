use Rattle.lois_base.specs.Data.{coll, comps_of}
use Rattle.lois_relate.proofs.Parts.{comps_from}
use Rattle.lois_minimise.proofs.Matching.{ReadsMet}
use Rattle.lois_minimise.proofs.transitions.transitions.Given as goal

abbrev pub invariant-loop-read : goal.invariant-loop-read
invariant-loop-read l = ReadsMet l.size (coll (comps_of l.steps)) l.reads l.classes (comps_from l.read-items l.read-index) (comps_of l.made)
