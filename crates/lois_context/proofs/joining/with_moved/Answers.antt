use Rattle.std.proofs.Common.{[], ◌∷◌, ◌++◌, ◌+◌, take, map, refl, sym, subst}
use Rattle.lois_base.specs.Tree.{comp_of}
use Rattle.lois_relate.proofs.Parts.{is_comp_of}
use Rattle.lois_context.specs.Joined.{IsWithMoved}
use Rattle.lois_context.proofs.Joined.{with_none, with_more}
use Rattle.lois_base.proofs.Viewed.{one_more}
use Rattle.lois_context.proofs.joining.with_moved.Goals as goal

pub loop-comp-init : goal.loop-comp-init
loop-comp-init c = with_none c.args.size c.args.when.now c.args.by c.args.comps c.args.comps refl

pub moved-requires-clause-fits : goal.moved-requires-clause-fits
moved-requires-clause-fits c =
    (is_comp_of c.args.added.now (map comp_of c.args.added.now) c.loop-comp.comp-index c.comp-item.result refl c.loop-comp-test.true c.comp-item.is).fits (c.args.size + c.args.by) c.requires.fits

pub loop-comp-preserved : goal.loop-comp-preserved
loop-comp-preserved c =
    let n = c.args.size in
    let g = c.args.when.now in
    let by = c.args.by in
    let ks = c.args.comps in
    let added = c.args.added.now in
    let i = c.loop-comp.comp-index in
    let k = comp_of c.comp-item.result in
    let r = comp_of c.in_ok-moved.field-0 in
    subst (λ z. IsWithMoved n g by z ks c.push.new.self) (sym (one_more comp_of added i c.comp-item.result c.loop-comp-test.true c.comp-item.is))
    (subst (IsWithMoved n g by (map comp_of (take i added) ++ k ∷ []) ks) (sym c.in_ok-push.ensures.ok)
    (with_more n g by (map comp_of (take i added)) ks c.loop-comp.joined k r c.loop-comp.invariant c.in_ok-moved.ensures.moved c.in_ok-moved.ensures.fits))
