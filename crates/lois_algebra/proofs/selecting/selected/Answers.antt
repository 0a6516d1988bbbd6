use Rattle.std.proofs.Common.{◌+◌, map, sym, ap, subst, ◌∙◌, arith}
use Rattle.lois_base.specs.Data.{coll, comps_of}
use Rattle.lois_base.specs.Tree.{tree}
use Rattle.lois_terms.specs.Shapes.{item_shape}
use Rattle.lois_relate.proofs.Parts.{comps_from, comps_are, no_comps_left, is_comp_of}
use Rattle.lois_algebra.proofs.Selections.{SelectedSoFar, selected_begin, selected_more, selected_end, put_item}
use Rattle.lois_algebra.proofs.selecting.selected.Goals as goal

pub guard_by_index-requires-clause-left : goal.guard_by_index-requires-clause-left
guard_by_index-requires-clause-left g c =
    let k = is_comp_of c.as_slice-comp-items.result.now c.args.comps.now c.loop-comp.comp-index c.comp-item.result c.as_slice-comp-items.ensures c.loop-comp-test.true c.comp-item.is in
    record {
      levels = k.fits c.args.size c.requires.left.levels;
      operators = k.admits g.T.Structure.ordered c.requires.left.operators;
    }

pub guard_by_index-requires-clause-shapes : goal.guard_by_index-requires-clause-shapes
guard_by_index-requires-clause-shapes g c = c.in_ok-index.ensures ∙ ap (map item_shape) c.as_slice.ensures

pub loop-comp-init : goal.loop-comp-init
loop-comp-init g c =
    subst (λ z. SelectedSoFar c.args.size c.args.wanted (coll (comps_of c.args.others.now)) (comps_of z) (comps_of c.args.comps.now) (comps_of c.new-kept.result)) (sym c.as_slice-comp-items.ensures) (selected_begin c.args.size c.args.wanted (coll (comps_of c.args.others.now)) (comps_of c.args.comps.now) (comps_of c.new-kept.result) (ap comps_of c.new-kept.ensures))

pub loop-comp-preserved : goal.loop-comp-preserved
loop-comp-preserved g c =
    let items = c.as_slice-comp-items.result.now in
    let i = c.loop-comp.comp-index in
    let k = is_comp_of items c.args.comps.now i c.comp-item.result c.as_slice-comp-items.ensures c.loop-comp-test.true c.comp-item.is in
    let fits = k.fits c.args.size c.requires.left.levels in
    let item = tree (c.comp-item.result).item in
    let m = (c.comp-item.result).binders in
    let put = put_item m c.in_ok-guard.guard item (tree c.in_ok-item.item) (comps_of c.loop-comp.kept) (comps_of c.push_comp.new.comps) (ap tree c.in_ok-item.ensures) c.in_ok-push_comp.ensures.added in
    selected_more c.args.size c.args.wanted (coll (comps_of c.args.others.now)) (comps_from items i) (comps_from items (i + 1)) (comps_of c.args.comps.now) (comps_of c.loop-comp.kept) (comps_of c.push_comp.new.comps) m (c.comp-item.result).guard c.in_ok-guard.guard item (comps_are items i c.comp-item.result c.loop-comp-test.true c.comp-item.is) c.loop-comp.invariant c.in_ok-guard.ensures.truth (fits.0, c.in_ok-guard.ensures.levels, fits.2) (λ o h t. (c.in_ok-guard.ensures.operators o (k.admits o h) t, (k.admits o h).1)) k.widths put

pub returns-clause-members : goal.returns-clause-members
returns-clause-members g c =
    selected_end c.args.size c.args.wanted (coll (comps_of c.args.others.now)) (comps_from c.as_slice-comp-items.result.now c.loop-comp.comp-index) (comps_of c.args.comps.now) (comps_of c.loop-comp.kept) (no_comps_left c.as_slice-comp-items.result.now c.loop-comp.comp-index (omega arith)) c.loop-comp.invariant
