use Rattle.lois_base.specs.Tree.{tree}
use Rattle.lois_census.specs.OrbitView.{orbit_of}
use Rattle.lois_census.proofs.Lefts.{or_never}
use Rattle.lois_census.proofs.inside.or_in_listed.Goals as goal

pub returns-then-clash-clause-truth : goal.returns-then-clash-clause-truth
returns-then-clash-clause-truth g c =
    or_never g.T.Structure.ordered c.args.comp.now.binders (tree c.args.comp.now.item) (orbit_of c.args.orbit.now) c.args.taken (c.clash.ensures c.if-clash.true)
