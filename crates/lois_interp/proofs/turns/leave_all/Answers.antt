use Rattle.std.proofs.Common.{◌≡◌, [], ◌∷◌, ◌++◌, length, sym, ◌∙◌, subst}
use Rattle.std.proofs.lemmas.Iterator.Adapters.{YieldsList-from_vec}
use Rattle.std.proofs.lemmas.Iterator.Consumers.{YieldsList-turn, YieldsList-end}
use Rattle.std.proofs.lemmas.List.{map-id}
use Rattle.lois_script.specs.View.{cond_tree}
use Rattle.lois_eval.proofs.LoopExit.{item_there, passed_on}
use Rattle.lois_interp.specs.Failed.{FailsWithin, FailsFrom}
use Rattle.lois_interp.specs.Reached.{RunsFrom}
use Rattle.lois_interp.specs.Run.{leave_run}
use Rattle.lois_interp.proofs.Compose.{from_none, from_more}
use Rattle.lois_interp.proofs.turns.leave_all.Goals as goal

pub loop-context-init : goal.loop-context-init
loop-context-init g c = record {
  runs = subst (RunsFrom (leave_run c.args.pos.offset (cond_tree c.args.condition.now)) []) (sym c.new-left.ensures.items) (from_none (leave_run c.args.pos.offset (cond_tree c.args.condition.now)));
  asked = g.met.S.Oracle.reaches_itself c.args.steps.now;
}

pub loop-context-preserved : goal.loop-context-preserved
loop-context-preserved g c =
    let R = leave_run c.args.pos.offset (cond_tree c.args.condition.now) in
    let k = c.in-Some.context in
    record {
      runs = subst (RunsFrom R (c.loop-context.yielded ++ k ∷ [])) (sym c.in_ok-append.ensures)
          (from_more R c.loop-context.yielded c.loop-context.left.items (k ∷ []) c.in_ok-more.more.items c.loop-context.invariant.runs c.in_ok-more.ensures.runs);
      asked = g.met.S.Oracle.reaches_then c.args.steps.now c.loop-context.steps c.leave.new.steps c.loop-context.invariant.asked c.leave.ensures.asked;
    }

pub returns-in_err-more-clause-fault : goal.returns-in_err-more-clause-fault
returns-in_err-more-clause-fault g c =
    let R = leave_run c.args.pos.offset (cond_tree c.args.condition.now) in
    let k = c.in-Some.context in
    let turn = YieldsList-turn (YieldsList-from_vec c.args.contexts.items (cc) (cc)) c.loop-context.yielded c.loop-context.context-iterator c.loop-context.yielded_by c.next.result c.next.new.self k c.in-Some.is c.next.ensures.steps in
    passed_on c.from_residual.result c.in_err-more.field-0.0 (FailsWithin g.T.Structure.ordered R k) (FailsFrom g.T.Structure.ordered R c.args.contexts.items) c.from_residual.ensures.1
    (λ f h. (k, item_there c.args.contexts.items (length c.loop-context.yielded) k turn.0 turn.1, h)) c.in_err-more.ensures.fault

pub returns-clause-runs : goal.returns-clause-runs
returns-clause-runs g c =
    let R = leave_run c.args.pos.offset (cond_tree c.args.condition.now) in
    let end = YieldsList-end (YieldsList-from_vec c.args.contexts.items (cc) (cc)) c.loop-context.yielded c.loop-context.context-iterator c.loop-context.yielded_by c.next.result c.next.new.self c.in-None.is c.next.ensures.steps in
    let all : c.loop-context.yielded ≡ c.args.contexts.items = sym (map-id c.loop-context.yielded) ∙ end.0 in
    subst (λ z. RunsFrom R z c.loop-context.left.items) all c.loop-context.invariant.runs
