use Rattle.std.proofs.Common.{subst, sym, ap}
use Rattle.lois_base.specs.Data.{coll, comps_of}
use Rattle.lois_base.specs.Fits.{Fits}
use Rattle.lois_base.specs.Tree.{tree}
use Rattle.lois_algebra.specs.Sets.{IsUnionOfMembers}
use Rattle.lois_algebra.proofs.GatheredMembers.{set_items}
use Rattle.lois_algebra.proofs.gathering.collect_over.Goals as goal

pub collected-requires-clause-fits : goal.collected-requires-clause-fits
collected-requires-clause-fits c = subst (λ z. Fits c.args.size (tree z)) c.in-Coll.is c.requires.fits

pub collected-requires-clause-sets : goal.collected-requires-clause-sets
collected-requires-clause-sets c =
    set_items (tree c.args.s.now) (comps_of c.in-Coll.comps) (ap tree c.in-Coll.is) c.requires.sets

pub returns-clause-members : goal.returns-clause-members
returns-clause-members c =
    subst (λ z. IsUnionOfMembers c.args.size (tree z) (coll (comps_of c.in_ok-collected-in-Coll.field-0))) (sym c.in-Coll.is) c.in_ok-collected-in-Coll.ensures.members
