use Rattle.std.proofs.Common.{[], ◌∷◌, length, map, sym, subst}
use Rattle.std.proofs.lemmas.Iterator.Adapters.{YieldsList-from_vec}
use Rattle.std.proofs.lemmas.Iterator.Consumers.{YieldsList-turn}
use Rattle.std.proofs.lemmas.List.{map-append}
use Rattle.std.specs.List.{Contains}
use Rattle.lois_base.specs.Data.{CompD}
use Rattle.lois_base.specs.Tree.{comp_of}
use Rattle.lois_base.proofs.Viewed.{contains_item}
use Rattle.lois_simplify.proofs.Seen.{HasSeen, seen_once}
use Rattle.lois_simplify.proofs.distinct.distinct.Goals as goal

pub loop-comp-preserved : goal.loop-comp-preserved
loop-comp-preserved c =
    let items = c.into_vec-comp-items.result.items in
    let seen = c.loop-comp.yielded in
    let k : CompD = comp_of c.in-Some.comp in
    let turn = YieldsList-turn (YieldsList-from_vec items (cc) (cc)) seen c.loop-comp.comp-iterator c.loop-comp.yielded_by c.next.result c.next.new.self c.in-Some.comp c.in-Some.is c.next.ensures.steps in
    let there : Contains c.args.comps k = contains_item comp_of items c.args.comps (length seen) c.in-Some.comp c.into_vec-comp-items.ensures turn.0 turn.1 in
    record {
      seen = subst (λ s. HasSeen s c.args.comps c.keep_once.new.kept) (sym (map-append comp_of seen (c.in-Some.comp ∷ [])))
          (seen_once c.loop-comp.kept c.keep_once.new.kept k (map comp_of seen) c.args.comps there c.in_ok-keep_once.ensures.kept c.loop-comp.invariant.seen);
      index = c.in_ok-keep_once.ensures.index;
    }
