use Rattle.std.proofs.Common.{◌+◌, subst, arith}
use Rattle.lois_base.specs.Data.{comps_of}
use Rattle.lois_base.specs.Tree.{tree, comp_of}
use Rattle.lois_relate.proofs.Parts.{comps_from, comps_are, no_comps_left}
use Rattle.lois_equal.proofs.Apart.{IsApart, apart_more, apart_end, apart_in}
use Rattle.lois_equal.proofs.completion.all_clash.Goals as goal

pub loop-comp-init : goal.loop-comp-init
loop-comp-init c = λ h. subst (λ z. IsApart (tree c.args.t.now) (comps_of z)) c.as_slice-comp-items.ensures h

pub loop-comp-preserved : goal.loop-comp-preserved
loop-comp-preserved c =
    let items = c.as_slice-comp-items.result.now in
    let i = c.loop-comp.comp-index in
    apart_more (tree c.args.t.now) (comps_from items i) (comps_from items (i + 1)) (comp_of c.comp-item.result) (IsApart (tree c.args.t.now) (comps_of c.args.items.now)) (comps_are items i c.comp-item.result c.loop-comp-test.true c.comp-item.is) (c.clash.ensures c.if-not-clash.false) c.loop-comp.invariant

pub returns : goal.returns
returns c = λ _.
    let items = c.as_slice-comp-items.result.now in
    let i = c.loop-comp.comp-index in
    let t = tree c.args.t.now in
    apart_in t (comps_of c.args.items.now) (apart_end t (comps_from items i) (IsApart t (comps_of c.args.items.now)) (no_comps_left items i (omega (arith, c.loop-comp-test.false))) c.loop-comp.invariant)
