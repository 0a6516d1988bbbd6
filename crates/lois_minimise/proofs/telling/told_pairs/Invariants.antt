use Rattle.lois_base.specs.Data.{coll, comps_of}
use Rattle.lois_base.specs.Validity.{AdmitsTerm}
use Rattle.lois_base.specs.Values.{point, IsIn}
use Rattle.lois_relate.proofs.Parts.{comps_from}
use Rattle.lois_automata.specs.Built.{IsLedFrom}
use Rattle.lois_minimise.proofs.Matching.{OnesMet}
use Rattle.lois_minimise.proofs.telling.told_pairs.Given as goal

abbrev pub invariant-loop-comp : goal.invariant-loop-comp
invariant-loop-comp g l = OnesMet (IsLedFrom (coll (comps_of l.held))) (λ c w. IsIn w (point (coll (comps_of l.left)) c)) (λ o. AdmitsTerm o (coll (comps_of l.held))) l.size l.moves (comps_from l.comp-items l.comp-index) (comps_of l.told)
