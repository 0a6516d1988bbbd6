use Rattle.std.specs.Prelude.{◌⊎◌}
use Rattle.lois_base.specs.Data.{coll, comps_of}
use Rattle.lois_base.specs.Validity.{AdmitsTerm}
use Rattle.lois_algebra.specs.Gathered.{IsAmong}
use Rattle.lois_relate.proofs.Parts.{comps_from}
use Rattle.lois_automata.proofs.Loops.{OnesSoFar}
use Rattle.lois_minimise.specs.Classes.{IsInFirstPart, IsInSecondPart}
use Rattle.lois_minimise.proofs.Covering.{CoversSoFar}
use Rattle.lois_minimise.proofs.partitioning.partition_by.Given as goal

abbrev pub invariant-loop-one : goal.invariant-loop-one
invariant-loop-one g l =
    OnesSoFar (IsInFirstPart (coll (comps_of l.set))) (λ o. AdmitsTerm o (coll (comps_of l.set))) l.size l.items (comps_from l.one-items l.one-index) (comps_of l.inside) ×
    OnesSoFar (IsInSecondPart (coll (comps_of l.set))) (λ o. AdmitsTerm o (coll (comps_of l.set))) l.size l.items (comps_from l.one-items l.one-index) (comps_of l.outside) ×
    CoversSoFar l.size (comps_of l.items) (comps_from l.one-items l.one-index) (λ c w. IsAmong (comps_of l.inside) c w ⊎ IsAmong (comps_of l.outside) c w)
