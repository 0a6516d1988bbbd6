use Rattle.std.proofs.Common.{◌≡◌, [], ◌∷◌, take, drop, map, sym, ap, ◌∙◌, subst}
use Rattle.std.proofs.lemmas.Iterator.Adapters.{YieldsList-from_vec}
use Rattle.std.proofs.lemmas.Iterator.Consumers.{YieldsList-end}
use Rattle.std.proofs.lemmas.List.{map-id, map-append}
use Rattle.lois_base.specs.Tree.{comp_of}
use Rattle.lois_context.specs.Put.{AreParts}
use Rattle.lois_context.proofs.content.parted.Goals as goal

pub loop-comp-preserved : goal.loop-comp-preserved
loop-comp-preserved c =
    subst (λ z. AreParts c.args.first z c.put_part.new.old c.put_part.new.added) (sym (map-append comp_of c.loop-comp.yielded (c.in-Some.comp ∷ []))) (c.in_ok-put_part.ensures (map comp_of c.loop-comp.yielded) c.loop-comp.invariant)

pub returns-clause-old : goal.returns-clause-old
returns-clause-old c =
    let items = c.into_vec-comp-items.result.items in
    let end = YieldsList-end (YieldsList-from_vec items (cc) (cc)) c.loop-comp.yielded c.loop-comp.comp-iterator c.loop-comp.yielded_by c.next.result c.next.new.self c.in-None.is c.next.ensures.steps in
    let all : c.loop-comp.yielded ≡ items = sym (map-id c.loop-comp.yielded) ∙ end.0 in
    c.loop-comp.invariant.0 ∙ ap (take c.args.first) (ap (map comp_of) all ∙ c.into_vec-comp-items.ensures)

pub returns-clause-added : goal.returns-clause-added
returns-clause-added c =
    let items = c.into_vec-comp-items.result.items in
    let end = YieldsList-end (YieldsList-from_vec items (cc) (cc)) c.loop-comp.yielded c.loop-comp.comp-iterator c.loop-comp.yielded_by c.next.result c.next.new.self c.in-None.is c.next.ensures.steps in
    let all : c.loop-comp.yielded ≡ items = sym (map-id c.loop-comp.yielded) ∙ end.0 in
    c.loop-comp.invariant.1 ∙ ap (drop c.args.first) (ap (map comp_of) all ∙ c.into_vec-comp-items.ensures)
