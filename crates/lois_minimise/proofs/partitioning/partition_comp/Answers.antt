use Rattle.std.proofs.Common.{◌+◌}
use Rattle.std.proofs.lemmas.Result.{IfOk-weaker}
use Rattle.lois_base.specs.Data.{coll, comp, comps_of}
use Rattle.lois_base.specs.Tree.{tree}
use Rattle.lois_algebra.specs.Gathered.{IsPut}
use Rattle.lois_minimise.proofs.Partitioned.{adds_share}
use Rattle.lois_minimise.proofs.partitioning.partition_comp.Goals as goal

pub returns : goal.returns
returns g c =
    let k = c.args.one.now in
    let n = c.args.size + k.binders in
    let found = c.in_ok-found.found in
    let here = c.in_ok-here.here in
    let there = c.in_ok-there.there in
    let t = coll (comps_of c.args.set.now) in
    IfOk-weaker c.put_under-2.result (λ _. IsPut (comp k.binders there (tree k.item)) (comps_of c.args.outside.now) (comps_of c.put_under-2.new.made)) _ (λ _ added.
    adds_share c.args.size k.binders k.guard found here there (tree k.item) t c.in_ok-found.ensures.truth c.in_ok-here.ensures.truth c.in_ok-there.ensures.truth
    (comps_of c.args.inside.now) (comps_of c.put_under.new.made) (comps_of c.args.outside.now) (comps_of c.put_under-2.new.made) c.in_ok-put_under.ensures added
    (λ h. c.in_ok-here.ensures.fits n h c.in_ok-found.ensures.fits)
    (λ h. c.in_ok-there.ensures.fits n h c.in_ok-found.ensures.fits)
    (λ o h p q. let told = c.in_ok-found.ensures.operators o p q in
    (c.in_ok-here.ensures.operators o h told, c.in_ok-there.ensures.operators o h told))) c.put_under-2.ensures
