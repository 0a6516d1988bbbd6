use Rattle.std.proofs.Common.{◌+◌, subst, ap}
use Rattle.std.proofs.lemmas.Result.{IfOk-weaker}
use Rattle.lois_base.specs.Data.{comps_of}
use Rattle.lois_base.specs.Fits.{Fits}
use Rattle.lois_base.specs.Tree.{tree}
use Rattle.lois_algebra.specs.Gathered.{GathersItems}
use Rattle.lois_algebra.proofs.GatheredMembers.{gathers_of_items}
use Rattle.lois_algebra.proofs.gathering.gather.Goals as goal

pub gather_items-requires-clause-items : goal.gather_items-requires-clause-items
gather_items-requires-clause-items c =
    subst (λ z. Fits (c.args.size + c.args.comp.now.binders) (tree z)) c.in-Coll.is c.requires.fits.2

pub returns : goal.returns
returns c =
    let comp = c.args.comp.now in
    IfOk-weaker c.gather_items.result (λ _. GathersItems c.args.size comp.binders comp.guard (comps_of c.in-Coll.inner) (comps_of c.args.gathered.now) (comps_of c.gather_items.new.gathered)) _ (λ _ h. gathers_of_items c.args.size comp.binders comp.guard (tree comp.item) (comps_of c.in-Coll.inner) (comps_of c.args.gathered.now) (comps_of c.gather_items.new.gathered) (ap tree c.in-Coll.is) h) c.gather_items.ensures
