use Rattle.std.proofs.Common.{◌<◌, length, arith}
use Rattle.lois_relate.proofs.Apart.{part_same, widths_apart}
use Rattle.lois_relate.proofs.Parts.{is_part_of}
use Rattle.lois_relate.proofs.clashes.+clashing.Goals as goal

pub parts_clash-returns-then-parts-partners : goal.parts_clash-returns-then-parts-partners
parts_clash-returns-then-parts-partners t c = λ h d e same.
    widths_apart c.as_slice-parts.result.now c.as_slice-partners.result.now c.args.terms.now c.args.others.now c.as_slice-parts.ensures c.as_slice-partners.ensures c.if-parts-partners.true d e same

pub parts_clash-clash-requires : goal.parts_clash-clash-requires
parts_clash-clash-requires t c =
    let p = is_part_of c.as_slice-parts.result.now c.args.terms.now c.loop-i.i c.index-parts-i.result c.as_slice-parts.ensures c.loop-i-test.true c.index-parts-i.is in
    omega (arith, p.depth)

pub parts_clash-returns-then-clash : goal.parts_clash-returns-then-clash
parts_clash-returns-then-clash t c = λ h d e same.
    let other : c.loop-i.i < length c.as_slice-partners.result.now = omega arith in
    c.clash.ensures c.if-clash.true d e (part_same c.as_slice-parts.result.now c.as_slice-partners.result.now c.args.terms.now c.args.others.now c.loop-i.i c.index-parts-i.result c.index-partners-i.result c.as_slice-parts.ensures c.as_slice-partners.ensures c.loop-i-test.true other c.index-parts-i.is c.index-partners-i.is d e same)
