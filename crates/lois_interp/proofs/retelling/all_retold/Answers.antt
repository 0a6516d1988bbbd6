use Rattle.std.proofs.Common.{[], ◌∷◌, ◌++◌, length, sym, subst}
use Rattle.std.specs.List.{All}
use Rattle.std.proofs.lemmas.Iterator.Adapters.{YieldsList-from_vec}
use Rattle.std.proofs.lemmas.Iterator.Consumers.{YieldsList-turn}
use Rattle.std.proofs.lemmas.List.Elements.{All-contains}
use Rattle.lois_context.specs.Choices.{AdmitsContext}
use Rattle.lois_deciders.proofs.OnlyAsked.{only_asked_then}
use Rattle.lois_eval.proofs.LoopExit.{item_there}
use Rattle.lois_interp.specs.Retold.{AreRetold, IsToldBy}
use Rattle.lois_interp.proofs.Retold.{told_fit, one_admits, one_more_retold}
use Rattle.lois_interp.proofs.retelling.all_retold.Goals as goal

pub lines_for-requires-clause-told : goal.lines_for-requires-clause-told
lines_for-requires-clause-told g c = subst (All (AdmitsContext g.T.Structure.ordered)) (sym c.as_slice.ensures.value) c.loop-context.invariant.admits

pub lines_for-requires-clause-own : goal.lines_for-requires-clause-own
lines_for-requires-clause-own g c =
    let k = c.in-Some.context in
    let turn = YieldsList-turn (YieldsList-from_vec c.args.contexts.items (cc) (cc)) c.loop-context.yielded c.loop-context.context-iterator c.loop-context.yielded_by c.next.result c.next.new.self k c.in-Some.is c.next.ensures.steps in
    All-contains (AdmitsContext g.T.Structure.ordered) c.args.contexts.items k c.requires (item_there c.args.contexts.items (length c.loop-context.yielded) k turn.0 turn.1)

pub with_lines-requires : goal.with_lines-requires
with_lines-requires g c = told_fit _ c.in-Some.context c.in_ok-lines.lines c.in_ok-lines.ensures.told

pub loop-context-preserved : goal.loop-context-preserved
loop-context-preserved g c =
    let o = g.T.Structure.ordered in
    let k = c.in-Some.context in
    let ks = c.loop-context.yielded in
    let ds = c.loop-context.told.items in
    let ls = c.in_ok-lines.lines in
    let d = c.with_lines.result in
    let made = c.with_lines.ensures in
    let so_far = c.loop-context.invariant in
    let pushed = sym c.in_ok-push.ensures.items in
    let told : IsToldBy (ds ++ k ∷ []) k ls = subst (λ z. IsToldBy (z ++ k ∷ []) k ls) c.as_slice.ensures.value c.in_ok-lines.ensures.told in
    let turn = YieldsList-turn (YieldsList-from_vec c.args.contexts.items (cc) (cc)) ks c.loop-context.context-iterator c.loop-context.yielded_by c.next.result c.next.new.self k c.in-Some.is c.next.ensures.steps in
    let own = All-contains (AdmitsContext o) c.args.contexts.items k c.requires (item_there c.args.contexts.items (length ks) k turn.0 turn.1) in
    record {
      told = subst (AreRetold (ks ++ k ∷ [])) pushed (one_more_retold ks ds k d ls told made.size made.condition made.store made.lines so_far.told);
      admits = subst (All (AdmitsContext o)) pushed (one_admits ks ds k d ls told made.size made.condition made.store made.lines o so_far.admits own);
      only_asked = only_asked_then (λ b. (goal.Decider-dyn g (b.vtable, b.value)).kind_of b.value) (λ b. (goal.Decider-dyn g (b.vtable, b.value)).questions b.value) c.args.chosen.now c.loop-context.chosen c.lines_for.new.chosen so_far.only_asked c.lines_for.ensures.only_asked;
    }
