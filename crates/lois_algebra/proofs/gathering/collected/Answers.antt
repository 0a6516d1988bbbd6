use Rattle.std.proofs.Common.{◌+◌, subst, sym, ap, arith}
use Rattle.lois_base.specs.Data.{comps_of}
use Rattle.lois_base.specs.Tree.{comp_of}
use Rattle.lois_relate.proofs.Parts.{comps_from, comps_are, no_comps_left, is_comp_of}
use Rattle.lois_algebra.proofs.GatheredMembers.{GatheredSoFar, gathered_begin, gathered_more, gathered_end, item_is_set}
use Rattle.lois_algebra.proofs.gathering.collected.Goals as goal

pub gather-requires-clause-fits : goal.gather-requires-clause-fits
gather-requires-clause-fits c =
    let k = is_comp_of c.as_slice-comp-items.result.now c.args.comps.now c.loop-comp.comp-index c.comp-item.result c.as_slice-comp-items.ensures c.loop-comp-test.true c.comp-item.is in
    k.fits c.args.size c.requires.fits

pub gather-requires-clause-set : goal.gather-requires-clause-set
gather-requires-clause-set c =
    item_is_set c.as_slice-comp-items.result.now c.args.comps.now c.loop-comp.comp-index c.comp-item.result c.as_slice-comp-items.ensures c.loop-comp-test.true c.comp-item.is c.requires.sets

pub loop-comp-init : goal.loop-comp-init
loop-comp-init c =
    subst (λ z. GatheredSoFar c.args.size (comps_of z) (comps_of c.args.comps.now) (comps_of c.new-gathered.result)) (sym c.as_slice-comp-items.ensures) (gathered_begin c.args.size (comps_of c.args.comps.now) (comps_of c.new-gathered.result) (ap comps_of c.new-gathered.ensures))

pub loop-comp-preserved : goal.loop-comp-preserved
loop-comp-preserved c =
    let items = c.as_slice-comp-items.result.now in
    let i = c.loop-comp.comp-index in
    let k = is_comp_of items c.args.comps.now i c.comp-item.result c.as_slice-comp-items.ensures c.loop-comp-test.true c.comp-item.is in
    gathered_more c.args.size (comps_from items i) (comps_from items (i + 1)) (comps_of c.args.comps.now) (comps_of c.loop-comp.gathered) (comps_of c.gather.new.gathered) (comp_of c.comp-item.result) (comps_are items i c.comp-item.result c.loop-comp-test.true c.comp-item.is) c.loop-comp.invariant k.admits k.widths c.in_ok-gather.ensures

pub returns-clause-members : goal.returns-clause-members
returns-clause-members c =
    gathered_end c.args.size (comps_from c.as_slice-comp-items.result.now c.loop-comp.comp-index) (comps_of c.args.comps.now) (comps_of c.loop-comp.gathered) (no_comps_left c.as_slice-comp-items.result.now c.loop-comp.comp-index (omega arith)) c.loop-comp.invariant
