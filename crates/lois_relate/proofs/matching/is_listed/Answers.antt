use Rattle.std.proofs.Common.{get_or, ap}
use Rattle.lois_base.specs.Tree.{comp_of}
use Rattle.lois_relate.proofs.Places.{alike_listed}
use Rattle.lois_relate.proofs.matching.is_listed.Goals as goal

pub returns-then-comps_match : goal.returns-then-comps_match
returns-then-comps_match c = λ h.
    let items = c.args.others.comps.now in
    let i = get_or c.args.others.places.now c.loop-place.place-index 0 in
    let other = get_or items i c.index-others-place.result in
    alike_listed c.args.s_names.now c.args.t_names.now (comp_of c.args.comp.now) items i other (c.requires c.loop-place.place-index 0 c.loop-place-test.true) (ap (get_or items i) c.index-others-place.is) (c.comps_match.ensures.0 c.if-comps_match.true)
