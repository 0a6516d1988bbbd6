use Rattle.std.proofs.Common.{ap, subst}
use Rattle.lois_base.specs.Data.{coll, comps_of}
use Rattle.lois_base.specs.Tree.{tree}
use Rattle.lois_automata.specs.Built.{AreTargets}
use Rattle.lois_minimise.proofs.indexed.targets_in.Goals as goal

pub returns-clause-members : goal.returns-clause-members
returns-clause-members g c =
    let moves = coll (comps_of c.args.moves.now) in
    let targets = coll (comps_of c.in-Coll.targets) in
    subst (λ z. AreTargets c.args.size moves (coll (comps_of z)) targets) c.in_ok-copy.ensures
    (subst (λ z. AreTargets c.args.size moves (coll (comps_of c.in_ok-copy.field-0)) z) (ap tree c.in-Coll.is) c.in_ok-targets.ensures.members)
