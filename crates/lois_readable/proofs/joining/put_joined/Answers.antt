use Rattle.std.proofs.Common.{◌<◌, length, map, subst, arith}
use Rattle.std.proofs.lemmas.List.{length-map}
use Rattle.std.proofs.lemmas.Option.{slice_get_within}
use Rattle.lois_base.specs.Data.{comp}
use Rattle.lois_base.specs.Tree.{tree, comp_of}
use Rattle.lois_readable.specs.Joined.{HasSameItemAt}
use Rattle.lois_readable.proofs.Joined.{put_last, put_into}
use Rattle.lois_readable.proofs.joining.put_joined.Goals as goal

pub returns-in_ok-guard-in-Some : goal.returns-in_ok-guard-in-Some
returns-in_ok-guard-in-Some c =
    let xs = c.args.joined.now.items in
    let k = c.args.comp in
    let p = c.in-Some.place in
    let o = c.index.result.now in
    let h = c.in_ok-guard-in-Some.guard in
    let or = c.in_ok-guard-in-Some.ensures in
    let at : HasSameItemAt (comp_of k) (map comp_of xs) p = subst (λ z. HasSameItemAt (comp_of k) (map comp_of z) p) c.deref.ensures.value c.in-Some.ensures in
    let inside : p < length xs = omega (arith, slice_get_within (map comp_of xs) p (comp k.binders at.0 (tree k.item)) at.1, length-map xs comp_of) in
    put_into xs p k o h at inside c.index.ensures (record { truth = or.truth; levels = or.fits; operators = or.operators })

pub returns-in_ok-push-in-None-2 : goal.returns-in_ok-push-in-None-2
returns-in_ok-push-in-None-2 c =
    put_last c.args.joined.now.items c.push-in-None.new.self.items c.args.comp c.in_ok-push-in-None-2.ensures.items
