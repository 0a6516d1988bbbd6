use Rattle.std.proofs.Common.{ap, ◌∙◌}
use Rattle.lois_base.specs.Data.{var, coll, comp, more, no_comps, comps_of}
use Rattle.lois_algebra.proofs.Unions.{has_all_atoms}
use Rattle.lois_algebra.proofs.uniting.all_atoms.Goals as goal

pub returns-clause-members : goal.returns-clause-members
returns-clause-members c =
    has_all_atoms c.args.size _ (ap (λ z. coll (comps_of z)) c.in_ok-singleton.ensures ∙ ap (λ g. coll (more (comp 1 g (var c.args.size)) no_comps)) c.in_ok-always.ensures)
