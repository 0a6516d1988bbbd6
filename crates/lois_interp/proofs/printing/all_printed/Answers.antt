use Rattle.std.proofs.Common.{◌∷◌, [], ◌++◌, length, sym, subst}
use Rattle.std.specs.List.{AllZip}
use Rattle.std.proofs.lemmas.Iterator.Adapters.{YieldsList-from_vec}
use Rattle.std.proofs.lemmas.Iterator.Consumers.{YieldsList-turn}
use Rattle.std.proofs.lemmas.List.Elements.{AllZip-push, All-contains}
use Rattle.lois_context.specs.Choices.{AdmitsContext}
use Rattle.lois_deciders.proofs.OnlyAsked.{only_asked_then}
use Rattle.lois_interp.specs.Printed.{IsPrinted}
use Rattle.lois_eval.proofs.LoopExit.{item_there}
use Rattle.lois_interp.proofs.printing.all_printed.Goals as goal

pub one_printed-requires : goal.one_printed-requires
one_printed-requires g c =
    let k = c.in-Some.context in
    let turn = YieldsList-turn (YieldsList-from_vec c.args.contexts.items (cc) (cc)) c.loop-context.yielded c.loop-context.context-iterator c.loop-context.yielded_by c.next.result c.next.new.self k c.in-Some.is c.next.ensures.steps in
    All-contains (AdmitsContext g.T.Structure.ordered) c.args.contexts.items k c.requires (item_there c.args.contexts.items (length c.loop-context.yielded) k turn.0 turn.1)

pub loop-context-preserved : goal.loop-context-preserved
loop-context-preserved g c =
    let k = c.in-Some.context in
    record {
      printed =
          subst (AllZip IsPrinted (c.loop-context.yielded ++ k ∷ [])) (sym c.in_ok-push.ensures.items)
          (AllZip-push IsPrinted c.loop-context.yielded c.loop-context.printed.items k c.in_ok-one_printed.field-0 c.loop-context.invariant.printed c.in_ok-one_printed.ensures.printed);
      only_asked = only_asked_then (λ b. (goal.Decider-dyn g (b.vtable, b.value)).kind_of b.value) (λ b. (goal.Decider-dyn g (b.vtable, b.value)).questions b.value) c.args.chosen.now c.loop-context.chosen c.one_printed.new.chosen c.loop-context.invariant.only_asked c.one_printed.ensures.only_asked;
    }
