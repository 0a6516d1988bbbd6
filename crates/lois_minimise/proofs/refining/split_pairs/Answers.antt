use Rattle.lois_base.specs.Data.{coll, comps_of}
use Rattle.lois_minimise.proofs.Splits.{are_split_pairs}
use Rattle.lois_minimise.proofs.refining.split_pairs.Goals as goal

pub returns-clause-pairs : goal.returns-clause-pairs
returns-clause-pairs g c = λ d l.
    let n = c.args.size in
    let shares = c.in_ok-shares.shares in
    are_split_pairs n (coll (comps_of c.args.nodes.now)) (coll (comps_of c.args.set.now)) (coll (comps_of c.in_ok-inside.inside)) (coll (comps_of c.in_ok-outside.outside)) (comps_of shares.inside) (comps_of shares.outside) d l (c.in_ok-shares.ensures.shared d l) c.in_ok-inside.ensures.members c.in_ok-outside.ensures.members
