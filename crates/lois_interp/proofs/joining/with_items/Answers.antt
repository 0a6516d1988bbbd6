use Rattle.std.proofs.Common.{◌≡◌, [], ◌∷◌, map, sym, ap, ◌∙◌, subst}
use Rattle.std.proofs.lemmas.Iterator.Adapters.{YieldsList-from_vec}
use Rattle.std.proofs.lemmas.Iterator.Consumers.{YieldsList-end}
use Rattle.std.proofs.lemmas.List.{map-id, map-append}
use Rattle.lois_base.specs.Data.{comps_of}
use Rattle.lois_base.specs.Tree.{tree, comp_of}
use Rattle.lois_context.specs.Entered.{comps_listed}
use Rattle.lois_context.specs.Put.{IsPutOnce}
use Rattle.lois_context.proofs.Contents.{set_of}
use Rattle.lois_context.proofs.Entered.{listed_of, listed_coll}
use Rattle.lois_interp.specs.Members.{AreBehind}
use Rattle.lois_interp.proofs.PutOnce.{none_behind, one_behind}
use Rattle.lois_interp.proofs.joining.with_items.Goals as goal

pub loop-comp-init : goal.loop-comp-init
loop-comp-init c = (c.requires.first, none_behind (comps_listed (tree c.args.first)))

pub loop-comp-preserved : goal.loop-comp-preserved
loop-comp-preserved c =
    let first = comps_listed (tree c.args.first) in
    let before = comps_listed (tree c.loop-comp.all) in
    let k = comp_of c.in-Some.comp in
    let (ls, put, is) = c.in_ok-all.ensures in
    let all = tree c.in_ok-all.all in
    let listed : comps_listed all ≡ ls = listed_coll all ls is in (
      (comps_of ls, is),
      subst (λ z. AreBehind first z (comps_listed all)) (sym (map-append comp_of c.loop-comp.yielded (c.in-Some.comp ∷ [])))
          (one_behind first (map comp_of c.loop-comp.yielded) before (comps_listed all) k c.loop-comp.invariant.1 (subst (IsPutOnce before k) (sym listed) put)),
    )

pub returns : goal.returns
returns c =
    let items = c.into_vec-comp-items.result.items in
    let end = YieldsList-end (YieldsList-from_vec items (cc) (cc)) c.loop-comp.yielded c.loop-comp.comp-iterator c.loop-comp.yielded_by c.next.result c.next.new.self c.in-None.is c.next.ensures.steps in
    let all : c.loop-comp.yielded ≡ items = sym (map-id c.loop-comp.yielded) ∙ end.0 in
    let more : map comp_of c.loop-comp.yielded ≡ comps_listed (tree c.args.set) = ap (map comp_of) all ∙ (c.into_vec-comp-items.ensures ∙ sym (ap (λ z. comps_listed (tree z)) c.in-Coll.is ∙ listed_of c.in-Coll.more)) in
    let found = tree c.loop-comp.all in
    (comps_listed found, subst (λ z. AreBehind (comps_listed (tree c.args.first)) z (comps_listed found)) more c.loop-comp.invariant.1, set_of found c.loop-comp.invariant.0)
