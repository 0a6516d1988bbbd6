use Rattle.std.proofs.Common.{arith}
use Rattle.lois_relate.proofs.AlikeSame.{parts_not_alike, items_not_alike}
use Rattle.lois_relate.proofs.Parts.{is_part_of, is_comp_of}
use Rattle.lois_relate.proofs.matching.+matching.Goals as goal

pub parts_match-returns-then-parts-partners : goal.parts_match-returns-then-parts-partners
parts_match-returns-then-parts-partners t c =
    parts_not_alike c.args.s_names.now c.args.t_names.now c.as_slice-parts.result.now c.as_slice-partners.result.now c.args.terms.now c.args.others.now c.as_slice-parts.ensures c.as_slice-partners.ensures c.if-parts-partners.true

pub parts_match-terms_match-requires : goal.parts_match-terms_match-requires
parts_match-terms_match-requires t c =
    let p = is_part_of c.as_slice-parts.result.now c.args.terms.now c.loop-i.i c.index-parts-i.result c.as_slice-parts.ensures c.loop-i-test.true c.index-parts-i.is in
    omega (arith, p.depth)

pub sets_match-returns-then-items-partners : goal.sets_match-returns-then-items-partners
sets_match-returns-then-items-partners t c =
    items_not_alike c.args.s_names.now c.args.t_names.now c.as_slice-items.result.now c.as_slice-partners.result.now c.args.comps.now c.args.others.now c.as_slice-items.ensures c.as_slice-partners.ensures c.if-items-partners.true

pub sets_match-comps_match-requires : goal.sets_match-comps_match-requires
sets_match-comps_match-requires t c =
    let k = is_comp_of c.as_slice-items.result.now c.args.comps.now c.loop-i.i c.index-items-i.result c.as_slice-items.ensures c.loop-i-test.true c.index-items-i.is in
    omega (arith, k.depth)
