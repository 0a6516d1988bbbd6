use Rattle.std.proofs.Common.{◌≡◌, ◌<◌, ◌≤◌, [], ◌∷◌, ◌++◌, length, take, drop, map, suc, true, IfSome, IfOk, IfErr, vec_len, sym, ap, ◌∙◌, subst, arith, add-one}
use Rattle.std.specs.List.{Contains}
use Rattle.std.proofs.lemmas.Bool.{eqb-true}
use Rattle.std.proofs.lemmas.Iterator.Adapters.{YieldsList-from_vec}
use Rattle.std.proofs.lemmas.Iterator.Consumers.{YieldsList-turn, YieldsList-end}
use Rattle.std.proofs.lemmas.List.Elements.{All-contains, Contains-push}
use Rattle.std.proofs.lemmas.Result.{IfOk-weaker}
use Rattle.std.proofs.lemmas.List.{map-id, nil_from_length}
use Rattle.lois_base.specs.Tree.{tree as term_tree}
use Rattle.lois_base.proofs.Viewed.{one_more, all_taken}
use Rattle.lois_script.specs.Tree.{binding, for, if, while}
use Rattle.lois_script.specs.View.{binding_tree, cond_tree, stmts_of, stmts_list, tree}
use Rattle.lois_script.specs.Lists.{stmt_tree}
use Rattle.lois_script.proofs.Views.{binding_is, stmt_For, stmt_If, stmt_While}
use Rattle.lois_meaning.specs.Faults.{CondFails}
use Rattle.lois_context.specs.declared.contexts.Context.{Context}
use Rattle.lois_eval.specs.WellFormed.{IsWellFormedIn}
use Rattle.lois_eval.specs.Throughout.{IsFaultOf, IfFault}
use Rattle.lois_eval.proofs.FaultsAt.{if_fault}
use Rattle.lois_eval.proofs.LoopExit.{item_there, passed_on, err_weaker}
use Rattle.lois_interp.specs.Decided.{listed_context, IsTrueSide}
use Rattle.lois_interp.specs.Elements.{SetFails}
use Rattle.lois_interp.specs.Failed.{FailsWithin, FailsBehind, FailsFrom}
use Rattle.lois_interp.specs.Looped.{LoopRuns, FailsInside}
use Rattle.lois_interp.specs.Reached.{RunsFrom, RunsAs}
use Rattle.lois_interp.specs.Run.{stmt_run, list_run, block_run, turn_run, leave_run}
use Rattle.lois_interp.specs.WellScoped.{StmtIsWellScoped, BlockIsWellScoped, TurnIsWellScoped}
use Rattle.lois_interp.specs.Turned.{Parts}
use Rattle.lois_interp.proofs.Compose.{from_none, from_more, from_merged, from_apart, one_apart}
use Rattle.lois_interp.proofs.Contents.{run_different}
use Rattle.lois_interp.proofs.ForTurns.{set_placed, for_new, inside_may, inside_elements, for_fails_inside, for_ends, ends_admit, for_runs, for_fails_set}
use Rattle.lois_interp.proofs.IfRuns.{if_placed, if_cond_fails, if_yes_fails, if_no_fails, if_may_yes, if_may_no, if_runs}
use Rattle.lois_interp.proofs.Inside.{runs_none, runs_more, passing_runs, passing_none, cond_within, side_within, named_stop, long_enough, held_fits}
use Rattle.lois_interp.proofs.Sequence.{list_more, list_fails_at, fails_whole, list_none, may_at, block_cut}
use Rattle.lois_interp.proofs.Sizes.{stmt_size, list_size, item_size, size_for, size_if, size_while, is_leaf}
use Rattle.lois_interp.proofs.WhileRuns.{HasTurned, turn_placed, turn_may, body_placed, turn_cond_fails, turn_body_fails, turn_parts, parts_none, parts_more, parts_merged, turned_none, turned_placed, turned_leaves, turned_apart, turned_more, turned_all, turned_out, turn_fails_at, leave_fails_at}
use Rattle.lois_interp.proofs.Lists.{split_at}
use Rattle.lois_interp.proofs.running.+running.Goals as goal

-- ---- a statement from each of some contexts
pub run_each-loop-context-init : goal.run_each-loop-context-init
run_each-loop-context-init g t c =
    let R = stmt_run (stmt_tree c.args.stmt.now) in
    record { can_next = tt; is_finite = tt; runs = subst (λ z. RunsFrom R [] z) (sym c.new-next.ensures.items) (from_none R); asked = g.met.S.Oracle.reaches_itself c.args.steps.now }

pub run_each-loop-context-preserved : goal.run_each-loop-context-preserved
run_each-loop-context-preserved g t c =
    let R = stmt_run (stmt_tree c.args.stmt.now) in
    let k = c.in-Some.context in
    record {
      can_next = tt;
      is_finite = tt;
      runs = subst (λ z. RunsFrom R (c.loop-context.yielded ++ k ∷ []) z) (sym c.in_ok-append.ensures)
          (from_more R c.loop-context.yielded c.loop-context.next.items (k ∷ []) c.in_ok-ends.ends.items c.loop-context.invariant.runs c.in_ok-ends.ensures.runs);
      asked = g.met.S.Oracle.reaches_then c.args.steps.now c.loop-context.steps c.run_stmt.new.steps c.loop-context.invariant.asked c.run_stmt.ensures.asked;
    }

pub run_each-returns-in_err-ends-clause-fault : goal.run_each-returns-in_err-ends-clause-fault
run_each-returns-in_err-ends-clause-fault g t c =
    let R = stmt_run (stmt_tree c.args.stmt.now) in
    let k = c.in-Some.context in
    let gives = c.into_iter-context-iterator.ensures.into_iter_gives in
    let turn = YieldsList-turn (YieldsList-from_vec {s = c.into_iter-context-iterator.result} c.args.contexts.items gives.0 (gives.1 ∙ c.args.contexts.ok.0)) c.loop-context.yielded c.loop-context.context-iterator c.loop-context.yielded_by c.next.result c.next.new.self k c.in-Some.is c.next.ensures.steps in
    passed_on c.from_residual.result c.in_err-ends.field-0.0 (FailsWithin g.T.Structure.ordered R k) (FailsFrom g.T.Structure.ordered R c.args.contexts.items) c.from_residual.ensures.1
    (λ f h. (k, item_there c.args.contexts.items (length c.loop-context.yielded) k turn.0 turn.1, h)) c.in_err-ends.ensures.fault

pub run_each-returns-clause-runs : goal.run_each-returns-clause-runs
run_each-returns-clause-runs g t c =
    let R = stmt_run (stmt_tree c.args.stmt.now) in
    let gives = c.into_iter-context-iterator.ensures.into_iter_gives in
    let end = YieldsList-end (YieldsList-from_vec {s = c.into_iter-context-iterator.result} c.args.contexts.items gives.0 (gives.1 ∙ c.args.contexts.ok.0)) c.loop-context.yielded c.loop-context.context-iterator c.loop-context.yielded_by c.next.result c.next.new.self c.in-None.is c.next.ensures.steps in
    let all : c.loop-context.yielded ≡ c.args.contexts.items = sym (map-id c.loop-context.yielded) ∙ end.0 in
    let runs = subst (λ z. RunsFrom R z c.loop-context.next.items) all c.loop-context.invariant.runs in
    from_merged R c.args.contexts.items c.loop-context.next.items c.in_ok-merge_equal.field-0.items (from_apart R c.args.contexts.items c.loop-context.next.items runs c.requires.apart) runs c.in_ok-merge_equal.ensures

-- ---- a loop
pub run_for-enter-requires-clause-placed : goal.run_for-enter-requires-clause-placed
run_for-enter-requires-clause-placed g t c =
    let o = g.T.Structure.ordered in let k = c.args.context in let b = c.args.binding.now in
    let q = cond_tree c.args.guard.now in let body = stmts_of (stmts_list c.args.body.now) in
    set_placed b.pos.offset b.name (tree b.from) q body k o (subst (λ z. IsWellFormedIn (StmtIsWellScoped (for z q body)) o k) (binding_is b) c.requires.placed)

pub run_for-enter-requires-clause-new_name : goal.run_for-enter-requires-clause-new_name
run_for-enter-requires-clause-new_name g t c =
    let o = g.T.Structure.ordered in let k = c.args.context in let b = c.args.binding.now in
    let q = cond_tree c.args.guard.now in let body = stmts_of (stmts_list c.args.body.now) in
    for_new b.pos.offset b.name (tree b.from) q body k o (subst (λ z. IsWellFormedIn (StmtIsWellScoped (for z q body)) o k) (binding_is b) c.requires.placed)

pub run_for-returns-in_err-inside-clause-fault : goal.run_for-returns-in_err-inside-clause-fault
run_for-returns-in_err-inside-clause-fault g t c =
    let k = c.args.context in let b = c.args.binding.now in
    let q = cond_tree c.args.guard.now in let body = stmts_of (stmts_list c.args.body.now) in
    subst (λ z. IfErr c.from_residual.result (λ t. IfFault t (FailsWithin g.T.Structure.ordered (stmt_run (for z q body)) k))) (sym (binding_is b))
    (passed_on c.from_residual.result c.in_err-inside.field-0.0 (IsFaultOf g.T.Structure.ordered k (SetFails (tree b.from))) (FailsWithin g.T.Structure.ordered (stmt_run (for (binding b.pos.offset b.name (tree b.from)) q body)) k) c.from_residual.ensures.1 (λ f h. for_fails_set b.pos.offset b.name (tree b.from) q body k g.T.Structure.ordered f h) c.in_err-inside.ensures.fault)

pub run_for-run_inside-requires : goal.run_for-run_inside-requires
run_for-run_inside-requires g t c κs within =
    let o = g.T.Structure.ordered in let k = c.args.context in let b = c.args.binding.now in
    let q = cond_tree c.args.guard.now in let body = stmts_of (stmts_list c.args.body.now) in
    let may = subst (λ z. IsWellFormedIn (StmtIsWellScoped (for z q body)) o k) (binding_is b) c.requires.placed in
    let inside = c.in_ok-inside.inside.items in
    (omega arith, (within.0, (within.1, (c.requires.sound, (inside_may b.pos.offset b.name (tree b.from) q body k o may inside c.in_ok-inside.ensures.entered, inside_elements b.pos.offset b.name (tree b.from) q body k o may inside c.in_ok-inside.ensures.entered)))))

pub run_for-returns-in_err-ends-clause-fault : goal.run_for-returns-in_err-ends-clause-fault
run_for-returns-in_err-ends-clause-fault g t c =
    let o = g.T.Structure.ordered in let k = c.args.context in let b = c.args.binding.now in
    let q = cond_tree c.args.guard.now in let body = stmts_of (stmts_list c.args.body.now) in
    let may = subst (λ z. IsWellFormedIn (StmtIsWellScoped (for z q body)) o k) (binding_is b) c.requires.placed in
    subst (λ z. IfErr c.from_residual-in_err-ends.result (λ t. IfFault t (FailsWithin g.T.Structure.ordered (stmt_run (for z q body)) k))) (sym (binding_is b))
    (passed_on c.from_residual-in_err-ends.result c.in_err-ends.field-0.0 (λ f. (d : Context) × Contains c.in_ok-inside.inside.items d × FailsInside g.T.Structure.ordered b.name q body d f) (FailsWithin g.T.Structure.ordered (stmt_run (for (binding b.pos.offset b.name (tree b.from)) q body)) k) c.from_residual-in_err-ends.ensures.1
    (λ f h. for_fails_inside b.pos.offset b.name (tree b.from) q body k o may c.in_ok-inside.inside.items c.in_ok-inside.ensures.entered f h) c.in_err-ends.ensures.fault)

pub run_for-join-requires-clause-ends : goal.run_for-join-requires-clause-ends
run_for-join-requires-clause-ends g t c =
    let o = g.T.Structure.ordered in let k = c.args.context in let b = c.args.binding.now in
    let q = cond_tree c.args.guard.now in let body = stmts_of (stmts_list c.args.body.now) in
    let may = subst (λ z. IsWellFormedIn (StmtIsWellScoped (for z q body)) o k) (binding_is b) c.requires.placed in
    for_ends b.pos.offset b.name (tree b.from) q body k o may c.in_ok-inside.inside.items c.in_ok-inside.ensures.entered c.in_ok-ends.ends.items c.in_ok-ends.ensures.runs

pub run_for-join-requires-clause-end_operators : goal.run_for-join-requires-clause-end_operators
run_for-join-requires-clause-end_operators g t c =
    let o = g.T.Structure.ordered in let k = c.args.context in let b = c.args.binding.now in
    let q = cond_tree c.args.guard.now in let body = stmts_of (stmts_list c.args.body.now) in
    let may = subst (λ z. IsWellFormedIn (StmtIsWellScoped (for z q body)) o k) (binding_is b) c.requires.placed in
    ends_admit b.pos.offset b.name (tree b.from) q body k o may c.in_ok-inside.inside.items c.in_ok-inside.ensures.entered c.in_ok-ends.ends.items c.in_ok-ends.ensures.runs o may

pub run_for-returns-clause-runs : goal.run_for-returns-clause-runs
run_for-returns-clause-runs g t c =
    let o = g.T.Structure.ordered in let k = c.args.context in let b = c.args.binding.now in
    let q = cond_tree c.args.guard.now in let body = stmts_of (stmts_list c.args.body.now) in
    let may = subst (λ z. IsWellFormedIn (StmtIsWellScoped (for z q body)) o k) (binding_is b) c.requires.placed in
    let r = c.in_ok-behind.behind in
    subst (λ z. RunsAs (stmt_run (for (binding_tree b) q body)) k z) (sym c.in_ok-one.ensures)
    (subst (λ z. RunsAs (stmt_run (for z q body)) k (r ∷ [])) (sym (binding_is b))
    (for_runs b.pos.offset b.name (tree b.from) q body k o may c.in_ok-inside.inside.items c.in_ok-inside.ensures.entered c.in_ok-ends.ends.items c.in_ok-ends.ensures.runs r c.in_ok-behind.ensures.behind))

pub run_for-returns-in_err-one-clause-asked : goal.run_for-returns-in_err-one-clause-asked
run_for-returns-in_err-one-clause-asked g t c =
    let then = g.met.S.Oracle.reaches_then in
    then c.args.steps.now c.run_inside.new.steps c.join.new.self (then c.args.steps.now c.enter.new.self c.run_inside.new.steps c.enter.ensures.asked c.run_inside.ensures.asked) c.join.ensures.asked

pub run_for-returns-clause-asked : goal.run_for-returns-clause-asked
run_for-returns-clause-asked g t c =
    let then = g.met.S.Oracle.reaches_then in
    then c.args.steps.now c.run_inside.new.steps c.join.new.self (then c.args.steps.now c.enter.new.self c.run_inside.new.steps c.enter.ensures.asked c.run_inside.ensures.asked) c.join.ensures.asked

-- ---- the contexts inside
pub run_inside-loop-context-init : goal.run_inside-loop-context-init
run_inside-loop-context-init g t c =
    let q = cond_tree c.args.guard.now in let body = stmts_of (stmts_list c.args.body.now) in
    record { can_next = tt; is_finite = tt; runs = subst (λ z. LoopRuns q body [] z) (sym c.new-ends.ensures.items) (runs_none q body); asked = g.met.S.Oracle.reaches_itself c.args.steps.now }

pub run_inside-loop-context-preserved : goal.run_inside-loop-context-preserved
run_inside-loop-context-preserved g t c =
    let q = cond_tree c.args.guard.now in let body = stmts_of (stmts_list c.args.body.now) in
    let k = c.in-Some.context in
    record {
      can_next = tt;
      is_finite = tt;
      runs = subst (λ z. LoopRuns q body (c.loop-context.yielded ++ k ∷ []) z) (sym c.in_ok-append.ensures)
          (runs_more q body c.loop-context.yielded c.loop-context.ends.items k c.in_ok-more.more.items c.loop-context.invariant.runs c.in_ok-more.ensures.runs);
      asked = g.met.S.Oracle.reaches_then c.args.steps.now c.loop-context.steps c.run_member.new.steps c.loop-context.invariant.asked c.run_member.ensures.asked;
    }

pub run_inside-returns-in_err-more-clause-fault : goal.run_inside-returns-in_err-more-clause-fault
run_inside-returns-in_err-more-clause-fault g t c =
    let q = cond_tree c.args.guard.now in let body = stmts_of (stmts_list c.args.body.now) in
    let x = c.args.name.now in
    let k = c.in-Some.context in
    let gives = c.into_iter-context-iterator.ensures.into_iter_gives in
    let turn = YieldsList-turn (YieldsList-from_vec {s = c.into_iter-context-iterator.result} c.args.inside.items gives.0 (gives.1 ∙ c.args.inside.ok.0)) c.loop-context.yielded c.loop-context.context-iterator c.loop-context.yielded_by c.next.result c.next.new.self k c.in-Some.is c.next.ensures.steps in
    passed_on c.from_residual.result c.in_err-more.field-0.0 (FailsInside g.T.Structure.ordered x q body k) (λ f. (d : Context) × Contains c.args.inside.items d × FailsInside g.T.Structure.ordered x q body d f) c.from_residual.ensures.1
    (λ f h. (k, item_there c.args.inside.items (length c.loop-context.yielded) k turn.0 turn.1, h)) c.in_err-more.ensures.fault

pub run_inside-returns-clause-runs : goal.run_inside-returns-clause-runs
run_inside-returns-clause-runs g t c =
    let q = cond_tree c.args.guard.now in let body = stmts_of (stmts_list c.args.body.now) in
    let gives = c.into_iter-context-iterator.ensures.into_iter_gives in
    let end = YieldsList-end (YieldsList-from_vec {s = c.into_iter-context-iterator.result} c.args.inside.items gives.0 (gives.1 ∙ c.args.inside.ok.0)) c.loop-context.yielded c.loop-context.context-iterator c.loop-context.yielded_by c.next.result c.next.new.self c.in-None.is c.next.ensures.steps in
    let all : c.loop-context.yielded ≡ c.args.inside.items = sym (map-id c.loop-context.yielded) ∙ end.0 in
    subst (λ z. LoopRuns q body z c.loop-context.ends.items) all c.loop-context.invariant.runs

pub run_member-named_inside-requires-clause-levels : goal.run_member-named_inside-requires-clause-levels
run_member-named_inside-requires-clause-levels g t c = held_fits c.args.name.now c.args.context (term_tree c.in_ok-item.item) c.in_ok-item.ensures

pub run_member-named_inside-requires-clause-sample : goal.run_member-named_inside-requires-clause-sample
run_member-named_inside-requires-clause-sample g t c =
    let q = cond_tree c.args.guard.now in let body = stmts_of (stmts_list c.args.body.now) in let k = c.args.context in
    if_fault c.in-Err.stop (FailsWithin g.T.Structure.ordered (turn_run q body) k) (λ f. k.size ≤ length f.sample.items) (λ f h. long_enough g.T.Structure.ordered (turn_run q body) k f h) c.in-Err.ensures.fault

pub run_member-returns-clause-fault : goal.run_member-returns-clause-fault
run_member-returns-clause-fault g t c =
    named_stop g.T.Structure.ordered c.args.name.now (term_tree c.in_ok-item.item) (cond_tree c.args.guard.now) (stmts_of (stmts_list c.args.body.now)) c.args.context c.in-Err.stop c.named_inside.result c.requires.element c.in_ok-item.ensures c.in-Err.ensures.fault c.named_inside.ensures

pub run_member-item_of-requires : goal.run_member-item_of-requires
run_member-item_of-requires g t c = (c.requires.element.item, c.requires.element.held)

-- ---- where the condition holds
pub run_passing-sides-requires-clause-placed : goal.run_passing-sides-requires-clause-placed
run_passing-sides-requires-clause-placed g t c =
    turn_placed (cond_tree c.args.guard.now) (stmts_of (stmts_list c.args.body.now)) c.args.context g.T.Structure.ordered c.requires.placed

pub run_passing-returns-in_err-sides-clause-fault : goal.run_passing-returns-in_err-sides-clause-fault
run_passing-returns-in_err-sides-clause-fault g t c =
    let q = cond_tree c.args.guard.now in let body = stmts_of (stmts_list c.args.body.now) in let k = c.args.context in
    passed_on c.from_residual.result c.in_err-sides.field-0.0 (IsFaultOf g.T.Structure.ordered k (CondFails q)) (FailsWithin g.T.Structure.ordered (turn_run q body) k) c.from_residual.ensures.1 (λ f h. cond_within q body g.T.Structure.ordered k f h) c.in_err-sides.ensures.fault

pub run_passing-run_stmts-requires : goal.run_passing-run_stmts-requires
run_passing-run_stmts-requires g t c κs within =
    let k = c.args.context in let q = cond_tree c.args.guard.now in let body = stmts_of (stmts_list c.args.body.now) in
    let side : IsTrueSide q true k c.in-Some.passing = subst (λ z. IfSome z (IsTrueSide q true k)) c.in-Some.is c.in_ok-sides.ensures.decided.yes in
    (omega arith, (within.0, (within.1, (c.requires.sound, body_placed q body k g.T.Structure.ordered c.in-Some.passing c.requires.placed side))))

pub run_passing-returns-in-Some-clause-runs : goal.run_passing-returns-in-Some-clause-runs
run_passing-returns-in-Some-clause-runs g t c =
    let k = c.args.context in let q = cond_tree c.args.guard.now in let body = stmts_of (stmts_list c.args.body.now) in
    IfOk-weaker c.run_stmts.result (λ r. RunsAs (block_run body) c.in-Some.passing r.items) (λ r. LoopRuns q body (k ∷ []) r.items)
    (λ r h. passing_runs q body k c.in_ok-sides.sides c.in-Some.passing r.items c.in_ok-sides.ensures.decided c.in-Some.is h) c.run_stmts.ensures.runs

pub run_passing-returns-in-Some-clause-fault : goal.run_passing-returns-in-Some-clause-fault
run_passing-returns-in-Some-clause-fault g t c =
    let k = c.args.context in let q = cond_tree c.args.guard.now in let body = stmts_of (stmts_list c.args.body.now) in
    let side : IsTrueSide q true k c.in-Some.passing = subst (λ z. IfSome z (IsTrueSide q true k)) c.in-Some.is c.in_ok-sides.ensures.decided.yes in
    err_weaker c.run_stmts.result (FailsWithin g.T.Structure.ordered (block_run body) c.in-Some.passing) (FailsWithin g.T.Structure.ordered (turn_run q body) k) (λ f h. side_within q body g.T.Structure.ordered k c.in-Some.passing f side h) c.run_stmts.ensures.fault

pub run_passing-returns-in-Some-clause-asked : goal.run_passing-returns-in-Some-clause-asked
run_passing-returns-in-Some-clause-asked g t c = g.met.S.Oracle.reaches_then c.args.steps.now c.sides.new.self c.run_stmts.new.steps c.sides.ensures.asked c.run_stmts.ensures.asked

pub run_passing-returns-clause-runs : goal.run_passing-returns-clause-runs
run_passing-returns-clause-runs g t c =
    let k = c.args.context in let q = cond_tree c.args.guard.now in let body = stmts_of (stmts_list c.args.body.now) in
    subst (λ z. LoopRuns q body (k ∷ []) z) (sym c.new.ensures.items) (passing_none q body k c.in_ok-sides.sides c.in_ok-sides.ensures.decided c.in-None.is)

-- ---- one statement
pub run_stmt-run_for-requires : goal.run_stmt-run_for-requires
run_stmt-run_for-requires g t c κs within =
    let is : stmt_tree c.args.stmt.now ≡ for (binding_tree c.in-For.binding) (cond_tree c.in-For.guard) (stmts_of (stmts_list c.in-For.body)) = ap stmt_tree c.in-For.is ∙ stmt_For c.in-For.binding c.in-For.guard c.in-For.body in
    (omega (arith, ap stmt_size is, size_for (binding_tree c.in-For.binding) (cond_tree c.in-For.guard) (stmts_of (stmts_list c.in-For.body))), (within.0, (within.1, (c.requires.sound, subst (λ z. IsWellFormedIn (StmtIsWellScoped z) g.T.Structure.ordered c.args.context) is c.requires.placed))))

pub run_stmt-returns-in-For-clause-runs : goal.run_stmt-returns-in-For-clause-runs
run_stmt-returns-in-For-clause-runs g t c =
    let is : stmt_tree c.args.stmt.now ≡ for (binding_tree c.in-For.binding) (cond_tree c.in-For.guard) (stmts_of (stmts_list c.in-For.body)) = ap stmt_tree c.in-For.is ∙ stmt_For c.in-For.binding c.in-For.guard c.in-For.body in
    subst (λ z. IfOk c.run_for.result (λ r. RunsAs (stmt_run z) c.args.context r.items)) (sym is) c.run_for.ensures.runs

pub run_stmt-returns-in-For-clause-fault : goal.run_stmt-returns-in-For-clause-fault
run_stmt-returns-in-For-clause-fault g t c =
    let is : stmt_tree c.args.stmt.now ≡ for (binding_tree c.in-For.binding) (cond_tree c.in-For.guard) (stmts_of (stmts_list c.in-For.body)) = ap stmt_tree c.in-For.is ∙ stmt_For c.in-For.binding c.in-For.guard c.in-For.body in
    subst (λ z. IfErr c.run_for.result (λ s. IfFault s (FailsWithin g.T.Structure.ordered (stmt_run z) c.args.context))) (sym is) c.run_for.ensures.fault

pub run_stmt-run_if-requires : goal.run_stmt-run_if-requires
run_stmt-run_if-requires g t c κs within =
    let q = cond_tree c.in-If.condition in let a = stmts_of (stmts_list c.in-If.yes) in let b = stmts_of (stmts_list c.in-If.no) in
    let is : stmt_tree c.args.stmt.now ≡ (if) q a b = ap stmt_tree c.in-If.is ∙ stmt_If c.in-If.condition c.in-If.yes c.in-If.no in
    (omega (arith, ap stmt_size is, size_if q a b), (within.0, (within.1, (c.requires.sound, subst (λ z. IsWellFormedIn (StmtIsWellScoped z) g.T.Structure.ordered c.args.context) is c.requires.placed))))

pub run_stmt-returns-in-If-clause-runs : goal.run_stmt-returns-in-If-clause-runs
run_stmt-returns-in-If-clause-runs g t c =
    let q = cond_tree c.in-If.condition in let a = stmts_of (stmts_list c.in-If.yes) in let b = stmts_of (stmts_list c.in-If.no) in
    let is : stmt_tree c.args.stmt.now ≡ (if) q a b = ap stmt_tree c.in-If.is ∙ stmt_If c.in-If.condition c.in-If.yes c.in-If.no in
    subst (λ z. IfOk c.run_if.result (λ r. RunsAs (stmt_run z) c.args.context r.items)) (sym is) c.run_if.ensures.runs

pub run_stmt-returns-in-If-clause-fault : goal.run_stmt-returns-in-If-clause-fault
run_stmt-returns-in-If-clause-fault g t c =
    let q = cond_tree c.in-If.condition in let a = stmts_of (stmts_list c.in-If.yes) in let b = stmts_of (stmts_list c.in-If.no) in
    let is : stmt_tree c.args.stmt.now ≡ (if) q a b = ap stmt_tree c.in-If.is ∙ stmt_If c.in-If.condition c.in-If.yes c.in-If.no in
    subst (λ z. IfErr c.run_if.result (λ s. IfFault s (FailsWithin g.T.Structure.ordered (stmt_run z) c.args.context))) (sym is) c.run_if.ensures.fault

pub run_stmt-run_while-requires : goal.run_stmt-run_while-requires
run_stmt-run_while-requires g t c κs within =
    let q = cond_tree c.in-While.condition in let body = stmts_of (stmts_list c.in-While.body) in
    let is : stmt_tree c.args.stmt.now ≡ while c.in-While.pos.offset q c.in-While.turns body = ap stmt_tree c.in-While.is ∙ stmt_While c.in-While.pos c.in-While.condition c.in-While.turns c.in-While.body in
    (omega (arith, ap stmt_size is, size_while c.in-While.pos.offset q c.in-While.turns body), (within.0, (within.1, (c.requires.sound, subst (λ z. IsWellFormedIn (StmtIsWellScoped z) g.T.Structure.ordered c.args.context) is c.requires.placed))))

pub run_stmt-returns-in-While-clause-runs : goal.run_stmt-returns-in-While-clause-runs
run_stmt-returns-in-While-clause-runs g t c =
    let q = cond_tree c.in-While.condition in let body = stmts_of (stmts_list c.in-While.body) in
    let is : stmt_tree c.args.stmt.now ≡ while c.in-While.pos.offset q c.in-While.turns body = ap stmt_tree c.in-While.is ∙ stmt_While c.in-While.pos c.in-While.condition c.in-While.turns c.in-While.body in
    subst (λ z. IfOk c.run_while.result (λ r. RunsAs (stmt_run z) c.args.context r.items)) (sym is) c.run_while.ensures.runs

pub run_stmt-returns-in-While-clause-fault : goal.run_stmt-returns-in-While-clause-fault
run_stmt-returns-in-While-clause-fault g t c =
    let q = cond_tree c.in-While.condition in let body = stmts_of (stmts_list c.in-While.body) in
    let is : stmt_tree c.args.stmt.now ≡ while c.in-While.pos.offset q c.in-While.turns body = ap stmt_tree c.in-While.is ∙ stmt_While c.in-While.pos c.in-While.condition c.in-While.turns c.in-While.body in
    subst (λ z. IfErr c.run_while.result (λ s. IfFault s (FailsWithin g.T.Structure.ordered (stmt_run z) c.args.context))) (sym is) c.run_while.ensures.fault

pub run_stmt-simple-requires-clause-leaf : goal.run_stmt-simple-requires-clause-leaf
run_stmt-simple-requires-clause-leaf g t c = is_leaf c.args.stmt.now c.in_default.not-For c.in_default.not-If c.in_default.not-While

-- ---- statements one after another
pub run_stmts-loop-stmt-init : goal.run_stmts-loop-stmt-init
run_stmts-loop-stmt-init g t c = record {
  runs = subst (λ z. RunsAs (list_run []) c.args.context z) (sym c.in_ok-contexts.ensures) (list_none c.args.context);
  asked = g.met.S.Oracle.reaches_itself c.args.steps.now;
}

pub run_stmts-run_each-requires : goal.run_stmts-run_each-requires
run_stmts-run_each-requires g t c κs within =
    let o = g.T.Structure.ordered in let k = c.args.context in let items = c.as_slice-stmt-items.result.now in let i = c.loop-stmt.stmt-index in
    let a = stmt_tree c.stmt-item.result in
    let done = map stmt_tree (take i items) in
    let rest = map stmt_tree (drop (suc i) items) in
    let whole : stmts_list c.args.body.now ≡ done ++ a ∷ rest = sym c.as_slice-stmt-items.ensures.items ∙ split_at stmt_tree items i c.stmt-item.result c.loop-stmt-test.true c.stmt-item.is in
    let size : stmt_size a < list_size (stmts_of (stmts_list c.args.body.now)) = subst (λ z. stmt_size a < list_size (stmts_of z)) (sym whole) (item_size done a rest) in (
      omega (arith, size),
      (
        within.0,
        (
          within.1,
          (
            c.requires.sound,
            (
              may_at done a rest k c.loop-stmt.contexts.items c.loop-stmt.invariant.runs o (subst (λ z. IsWellFormedIn (BlockIsWellScoped (stmts_of z)) o k) whole c.requires.placed),
              from_apart (list_run done) (k ∷ []) c.loop-stmt.contexts.items c.loop-stmt.invariant.runs (one_apart k),
            ),
          ),
        ),
      ),
    )

pub run_stmts-returns-in_err-contexts-2-clause-first : goal.run_stmts-returns-in_err-contexts-2-clause-first
run_stmts-returns-in_err-contexts-2-clause-first g t c =
    let k = c.args.context in let items = c.as_slice-stmt-items.result.now in let i = c.loop-stmt.stmt-index in
    let a = stmt_tree c.stmt-item.result in
    let done = map stmt_tree (take i items) in
    let rest = map stmt_tree (drop (suc i) items) in
    let whole : stmts_list c.args.body.now ≡ done ++ a ∷ rest = sym c.as_slice-stmt-items.ensures.items ∙ split_at stmt_tree items i c.stmt-item.result c.loop-stmt-test.true c.stmt-item.is in
    subst (λ z. IfErr c.from_residual-in_err-contexts-2.result (λ t. IfFault t (FailsBehind g.T.Structure.ordered z k))) (sym whole)
    (passed_on c.from_residual-in_err-contexts-2.result c.in_err-contexts-2.field-0.0 (FailsFrom g.T.Structure.ordered (stmt_run a) c.loop-stmt.contexts.items) (FailsBehind g.T.Structure.ordered (done ++ a ∷ rest) k) c.from_residual-in_err-contexts-2.ensures.1 (λ f h. list_fails_at done a rest k c.loop-stmt.contexts.items c.loop-stmt.invariant.runs g.T.Structure.ordered f h) c.in_err-contexts-2.ensures.fault)

pub run_stmts-returns-in_err-contexts-2-clause-fault : goal.run_stmts-returns-in_err-contexts-2-clause-fault
run_stmts-returns-in_err-contexts-2-clause-fault g t c =
    let k = c.args.context in let l = stmts_list c.args.body.now in
    err_weaker c.from_residual-in_err-contexts-2.result (FailsBehind g.T.Structure.ordered l k) (FailsWithin g.T.Structure.ordered (block_run (stmts_of l)) k) (λ f h. fails_whole g.T.Structure.ordered l k f h) (run_stmts-returns-in_err-contexts-2-clause-first g t c)

pub run_stmts-loop-stmt-preserved : goal.run_stmts-loop-stmt-preserved
run_stmts-loop-stmt-preserved g t c =
    let k = c.args.context in let items = c.as_slice-stmt-items.result.now in let i = c.loop-stmt.stmt-index in
    let a = stmt_tree c.stmt-item.result in
    let done = map stmt_tree (take i items) in
    record {
      runs = subst (λ z. RunsAs (list_run z) k c.in_ok-contexts-2.contexts.items) (sym (one_more stmt_tree items i c.stmt-item.result c.loop-stmt-test.true c.stmt-item.is))
          (list_more done a (k ∷ []) c.loop-stmt.contexts.items c.in_ok-contexts-2.contexts.items c.loop-stmt.invariant.runs c.in_ok-contexts-2.ensures.runs);
      asked = g.met.S.Oracle.reaches_then c.args.steps.now c.loop-stmt.steps c.run_each.new.steps c.loop-stmt.invariant.asked c.run_each.ensures.asked;
    }

pub run_stmts-returns-clause-runs : goal.run_stmts-returns-clause-runs
run_stmts-returns-clause-runs g t c =
    let k = c.args.context in let items = c.as_slice-stmt-items.result.now in let l = stmts_list c.args.body.now in
    let all : map stmt_tree (take c.loop-stmt.stmt-index items) ≡ l = all_taken stmt_tree items l c.loop-stmt.stmt-index c.as_slice-stmt-items.ensures.items c.loop-stmt-test.false in
    let cut = block_cut l k c.len-outside.result c.loop-stmt.contexts.items c.in_ok-cut.cut.items c.len-outside.ensures.counted
    (subst (λ z. RunsAs (list_run z) k c.loop-stmt.contexts.items) all c.loop-stmt.invariant.runs) c.in_ok-cut.ensures in
    from_merged (block_run (stmts_of l)) (k ∷ []) c.in_ok-cut.cut.items c.in_ok-merge_equal.field-0.items (from_apart (block_run (stmts_of l)) (k ∷ []) c.in_ok-cut.cut.items cut (one_apart k)) cut c.in_ok-merge_equal.ensures

pub run_stmts-returns-clause-different : goal.run_stmts-returns-clause-different
run_stmts-returns-clause-different g t c =
    let k = c.args.context in let items = c.as_slice-stmt-items.result.now in let l = stmts_list c.args.body.now in
    let all : map stmt_tree (take c.loop-stmt.stmt-index items) ≡ l = all_taken stmt_tree items l c.loop-stmt.stmt-index c.as_slice-stmt-items.ensures.items c.loop-stmt-test.false in
    let cut = block_cut l k c.len-outside.result c.loop-stmt.contexts.items c.in_ok-cut.cut.items c.len-outside.ensures.counted
    (subst (λ z. RunsAs (list_run z) k c.loop-stmt.contexts.items) all c.loop-stmt.invariant.runs) c.in_ok-cut.ensures in
    let merged = from_merged (block_run (stmts_of l)) (k ∷ []) c.in_ok-cut.cut.items c.in_ok-merge_equal.field-0.items (from_apart (block_run (stmts_of l)) (k ∷ []) c.in_ok-cut.cut.items cut (one_apart k)) cut c.in_ok-merge_equal.ensures in
    run_different (block_run (stmts_of l)) k c.in_ok-merge_equal.field-0.items merged c.in_ok-merge_equal.ensures.different

-- ---- both sides of a condition
pub run_if-sides-requires-clause-placed : goal.run_if-sides-requires-clause-placed
run_if-sides-requires-clause-placed g t c =
    let q = cond_tree c.args.condition.now in let a = stmts_of (stmts_list c.args.yes.now) in let b = stmts_of (stmts_list c.args.no.now) in
    if_placed q a b c.args.context g.T.Structure.ordered c.requires.placed

pub run_if-returns-in_err-sides-clause-fault : goal.run_if-returns-in_err-sides-clause-fault
run_if-returns-in_err-sides-clause-fault g t c =
    let k = c.args.context in let q = cond_tree c.args.condition.now in
    let a = stmts_of (stmts_list c.args.yes.now) in let b = stmts_of (stmts_list c.args.no.now) in
    passed_on c.from_residual.result c.in_err-sides.field-0.0 (IsFaultOf g.T.Structure.ordered k (CondFails q)) (FailsWithin g.T.Structure.ordered (stmt_run ((if) q a b)) k) c.from_residual.ensures.1 (λ f h. if_cond_fails q a b k g.T.Structure.ordered f h) c.in_err-sides.ensures.fault

pub run_if-run_side-requires : goal.run_if-run_side-requires
run_if-run_side-requires g t c κs within =
    let o = g.T.Structure.ordered in let k = c.args.context in let q = cond_tree c.args.condition.now in
    let a = stmts_of (stmts_list c.args.yes.now) in let b = stmts_of (stmts_list c.args.no.now) in
    (omega arith, (within.0, (within.1, (c.requires.sound, if_may_yes q a b k o c.in_ok-sides.sides.yes c.requires.placed c.in_ok-sides.ensures.decided.yes))))

pub run_if-run_side-requires-2 : goal.run_if-run_side-requires-2
run_if-run_side-requires-2 g t c κs within =
    let o = g.T.Structure.ordered in let k = c.args.context in let q = cond_tree c.args.condition.now in
    let a = stmts_of (stmts_list c.args.yes.now) in let b = stmts_of (stmts_list c.args.no.now) in
    (omega arith, (within.0, (within.1, (c.requires.sound, if_may_no q a b k o c.in_ok-sides.sides.no c.requires.placed c.in_ok-sides.ensures.decided.no))))

pub run_if-returns-in_err-ends-clause-fault : goal.run_if-returns-in_err-ends-clause-fault
run_if-returns-in_err-ends-clause-fault g t c =
    let k = c.args.context in let q = cond_tree c.args.condition.now in
    let a = stmts_of (stmts_list c.args.yes.now) in let b = stmts_of (stmts_list c.args.no.now) in
    passed_on c.from_residual-in_err-ends.result c.in_err-ends.field-0.0 (FailsFrom g.T.Structure.ordered (block_run a) (listed_context c.in_ok-sides.sides.yes)) (FailsWithin g.T.Structure.ordered (stmt_run ((if) q a b)) k) c.from_residual-in_err-ends.ensures.1 (λ f h. if_yes_fails q a b k g.T.Structure.ordered c.in_ok-sides.sides f c.in_ok-sides.ensures.decided h) c.in_err-ends.ensures.fault

pub run_if-returns-in_err-others-clause-fault : goal.run_if-returns-in_err-others-clause-fault
run_if-returns-in_err-others-clause-fault g t c =
    let k = c.args.context in let q = cond_tree c.args.condition.now in
    let a = stmts_of (stmts_list c.args.yes.now) in let b = stmts_of (stmts_list c.args.no.now) in
    passed_on c.from_residual-in_err-others.result c.in_err-others.field-0.0 (FailsFrom g.T.Structure.ordered (block_run b) (listed_context c.in_ok-sides.sides.no)) (FailsWithin g.T.Structure.ordered (stmt_run ((if) q a b)) k) c.from_residual-in_err-others.ensures.1 (λ f h. if_no_fails q a b k g.T.Structure.ordered c.in_ok-sides.sides f c.in_ok-sides.ensures.decided h) c.in_err-others.ensures.fault

pub run_if-returns-clause-runs : goal.run_if-returns-clause-runs
run_if-returns-clause-runs g t c =
    let k = c.args.context in let q = cond_tree c.args.condition.now in
    let a = stmts_of (stmts_list c.args.yes.now) in let b = stmts_of (stmts_list c.args.no.now) in
    subst (λ z. RunsAs (stmt_run ((if) q a b)) k z) (sym c.in_ok-append.ensures)
    (if_runs q a b k c.in_ok-sides.sides c.in_ok-ends.ends.items c.in_ok-others.others.items c.in_ok-sides.ensures.decided c.in_ok-ends.ensures.runs c.in_ok-others.ensures.runs)

pub run_side-returns-in-Some-clause-fault : goal.run_side-returns-in-Some-clause-fault
run_side-returns-in-Some-clause-fault g t c =
    let body = stmts_of (stmts_list c.args.body.now) in let k = c.in-Some.context in
    err_weaker c.run_stmts.result (FailsWithin g.T.Structure.ordered (block_run body) k) (FailsFrom g.T.Structure.ordered (block_run body) (listed_context c.args.side))
    (λ f h. subst (λ z. FailsFrom g.T.Structure.ordered (block_run body) (listed_context z) f) (sym c.in-Some.is) (k, Contains-push [] k, h)) c.run_stmts.ensures.fault

-- ---- one turn
pub run_turn-loop-context-init : goal.run_turn-loop-context-init
run_turn-loop-context-init g t c =
    let q = cond_tree c.args.condition.now in let body = stmts_of (stmts_list c.args.body.now) in
    let P = Parts (leave_run 0 q) (turn_run q body) (TurnIsWellScoped q body) [] in
    record {
      can_next = tt;
      is_finite = tt;
      parts = subst (λ z. P z c.new-going.result.items) (sym c.new-left.ensures.items) (subst (P []) (sym c.new-going.ensures.items) (parts_none (leave_run 0 q) (turn_run q body) (TurnIsWellScoped q body)));
      asked = g.met.S.Oracle.reaches_itself c.args.steps.now;
    }

pub run_turn-sides-requires-clause-placed : goal.run_turn-sides-requires-clause-placed
run_turn-sides-requires-clause-placed g t c =
    let q = cond_tree c.args.condition.now in let body = stmts_of (stmts_list c.args.body.now) in let o = g.T.Structure.ordered in
    let k = c.in-Some.context in
    let gives = c.into_iter-context-iterator.ensures.into_iter_gives in
    let turn = YieldsList-turn (YieldsList-from_vec {s = c.into_iter-context-iterator.result} c.args.contexts.items gives.0 (gives.1 ∙ c.args.contexts.ok.0)) c.loop-context.yielded c.loop-context.context-iterator c.loop-context.yielded_by c.next.result c.next.new.self k c.in-Some.is c.next.ensures.steps in
    turn_placed q body k o (All-contains (IsWellFormedIn (TurnIsWellScoped q body) o) c.args.contexts.items k c.requires.placed (item_there c.args.contexts.items (length c.loop-context.yielded) k turn.0 turn.1))

pub run_turn-returns-in_err-sides-clause-fault : goal.run_turn-returns-in_err-sides-clause-fault
run_turn-returns-in_err-sides-clause-fault g t c =
    let q = cond_tree c.args.condition.now in let body = stmts_of (stmts_list c.args.body.now) in
    let k = c.in-Some.context in
    let gives = c.into_iter-context-iterator.ensures.into_iter_gives in
    let turn = YieldsList-turn (YieldsList-from_vec {s = c.into_iter-context-iterator.result} c.args.contexts.items gives.0 (gives.1 ∙ c.args.contexts.ok.0)) c.loop-context.yielded c.loop-context.context-iterator c.loop-context.yielded_by c.next.result c.next.new.self k c.in-Some.is c.next.ensures.steps in
    passed_on c.from_residual.result c.in_err-sides.field-0.0 (IsFaultOf g.T.Structure.ordered k (CondFails q)) (FailsFrom g.T.Structure.ordered (turn_run q body) c.args.contexts.items) c.from_residual.ensures.1
    (λ f h. (k, item_there c.args.contexts.items (length c.loop-context.yielded) k turn.0 turn.1, turn_cond_fails q body k g.T.Structure.ordered f h)) c.in_err-sides.ensures.fault

pub run_turn-run_side-requires : goal.run_turn-run_side-requires
run_turn-run_side-requires g t c κs within =
    let q = cond_tree c.args.condition.now in let body = stmts_of (stmts_list c.args.body.now) in let o = g.T.Structure.ordered in
    let k = c.in-Some.context in
    let gives = c.into_iter-context-iterator.ensures.into_iter_gives in
    let turn = YieldsList-turn (YieldsList-from_vec {s = c.into_iter-context-iterator.result} c.args.contexts.items gives.0 (gives.1 ∙ c.args.contexts.ok.0)) c.loop-context.yielded c.loop-context.context-iterator c.loop-context.yielded_by c.next.result c.next.new.self k c.in-Some.is c.next.ensures.steps in
    let placed = All-contains (IsWellFormedIn (TurnIsWellScoped q body) o) c.args.contexts.items k c.requires.placed (item_there c.args.contexts.items (length c.loop-context.yielded) k turn.0 turn.1) in
    (omega arith, (within.0, (within.1, (c.requires.sound, turn_may q body k o c.in_ok-sides.sides.yes placed c.in_ok-sides.ensures.decided.yes))))

pub run_turn-returns-in_err-more-clause-fault : goal.run_turn-returns-in_err-more-clause-fault
run_turn-returns-in_err-more-clause-fault g t c =
    let q = cond_tree c.args.condition.now in let body = stmts_of (stmts_list c.args.body.now) in
    let k = c.in-Some.context in
    let gives = c.into_iter-context-iterator.ensures.into_iter_gives in
    let turn = YieldsList-turn (YieldsList-from_vec {s = c.into_iter-context-iterator.result} c.args.contexts.items gives.0 (gives.1 ∙ c.args.contexts.ok.0)) c.loop-context.yielded c.loop-context.context-iterator c.loop-context.yielded_by c.next.result c.next.new.self k c.in-Some.is c.next.ensures.steps in
    passed_on c.from_residual-in_err-more.result c.in_err-more.field-0.0 (FailsFrom g.T.Structure.ordered (block_run body) (listed_context c.in_ok-sides.sides.yes)) (FailsFrom g.T.Structure.ordered (turn_run q body) c.args.contexts.items) c.from_residual-in_err-more.ensures.1
    (λ f h. (k, item_there c.args.contexts.items (length c.loop-context.yielded) k turn.0 turn.1, turn_body_fails q body k g.T.Structure.ordered c.in_ok-sides.sides f c.in_ok-sides.ensures.decided h)) c.in_err-more.ensures.fault

pub run_turn-loop-context-preserved : goal.run_turn-loop-context-preserved
run_turn-loop-context-preserved g t c =
    let q = cond_tree c.args.condition.now in let body = stmts_of (stmts_list c.args.body.now) in
    let k = c.in-Some.context in
    let sides = c.in_ok-sides.sides in
    let more = c.in_ok-more.more.items in
    let P = Parts (leave_run 0 q) (turn_run q body) (TurnIsWellScoped q body) (c.loop-context.yielded ++ k ∷ []) in
    let one = turn_parts q body k sides more c.in_ok-sides.ensures.decided c.in_ok-more.ensures.runs in
    let both = parts_more (leave_run 0 q) (turn_run q body) (TurnIsWellScoped q body) c.loop-context.yielded c.loop-context.left.items c.loop-context.going.items (k ∷ []) (listed_context sides.no) more c.loop-context.invariant.parts one in
    record {
      can_next = tt;
      is_finite = tt;
      parts = subst (λ z. P z c.append.new.contexts.items) (sym c.in_ok-put.ensures) (subst (P (c.loop-context.left.items ++ listed_context sides.no)) (sym c.in_ok-append.ensures) both);
      asked = g.met.S.Oracle.reaches_then c.args.steps.now c.loop-context.steps c.run_side.new.steps c.loop-context.invariant.asked (g.met.S.Oracle.reaches_then c.loop-context.steps c.sides.new.self c.run_side.new.steps c.sides.ensures.asked c.run_side.ensures.asked);
    }

pub run_turn-returns-clause-turn : goal.run_turn-returns-clause-turn
run_turn-returns-clause-turn g t c =
    let q = cond_tree c.args.condition.now in let body = stmts_of (stmts_list c.args.body.now) in
    let gives = c.into_iter-context-iterator.ensures.into_iter_gives in
    let end = YieldsList-end (YieldsList-from_vec {s = c.into_iter-context-iterator.result} c.args.contexts.items gives.0 (gives.1 ∙ c.args.contexts.ok.0)) c.loop-context.yielded c.loop-context.context-iterator c.loop-context.yielded_by c.next.result c.next.new.self c.in-None.is c.next.ensures.steps in
    let all : c.loop-context.yielded ≡ c.args.contexts.items = sym (map-id c.loop-context.yielded) ∙ end.0 in
    let parts = subst (λ z. Parts (leave_run 0 q) (turn_run q body) (TurnIsWellScoped q body) z c.loop-context.left.items c.loop-context.going.items) all c.loop-context.invariant.parts in
    parts_merged (leave_run 0 q) (turn_run q body) (TurnIsWellScoped q body) c.args.contexts.items c.loop-context.left.items c.loop-context.going.items c.in_ok-going.going.items c.requires.apart parts c.in_ok-going.ensures

-- ---- turn after turn
pub run_while-loop-turn-init : goal.run_while-loop-turn-init
run_while-loop-turn-init g t c =
    let q = cond_tree c.args.condition.now in let body = stmts_of (stmts_list c.args.body.now) in let k = c.args.context in
    let H = HasTurned c.args.pos.offset q c.args.turns body k 0 in
    record {
      turned = subst (λ z. H z c.in_ok-going.going.items) (sym c.new-done.ensures.items) (subst (H []) (sym c.in_ok-going.ensures) (turned_none c.args.pos.offset q c.args.turns body k));
      asked = g.met.S.Oracle.reaches_itself c.args.steps.now;
    }

pub run_while-returns-then-is_empty-clause-runs : goal.run_while-returns-then-is_empty-clause-runs
run_while-returns-then-is_empty-clause-runs g t c =
    let q = cond_tree c.args.condition.now in let body = stmts_of (stmts_list c.args.body.now) in let k = c.args.context in
    turned_out c.args.pos.offset q c.args.turns body k c.loop-turn._turn c.loop-turn.done.items c.loop-turn.going.items c.loop-turn.invariant.turned (nil_from_length c.loop-turn.going.items (sym c.loop-turn.going.ok.0 ∙ eqb-true (vec_len c.loop-turn.going) 0 (sym c.is_empty.ensures ∙ c.if-is_empty.true)))

pub run_while-run_turn-requires : goal.run_while-run_turn-requires
run_while-run_turn-requires g t c κs within =
    let q = cond_tree c.args.condition.now in let body = stmts_of (stmts_list c.args.body.now) in let k = c.args.context in let o = g.T.Structure.ordered in
    let i = c.loop-turn._turn in
    (omega arith, (within.0, (within.1, (c.requires.sound, (turned_placed c.args.pos.offset q c.args.turns body k i c.loop-turn.done.items c.loop-turn.going.items c.loop-turn.invariant.turned o c.requires.placed, turned_apart c.args.pos.offset q c.args.turns body k i c.loop-turn.done.items c.loop-turn.going.items c.loop-turn.invariant.turned)))))

pub run_while-returns-in_err-behind-clause-fault : goal.run_while-returns-in_err-behind-clause-fault
run_while-returns-in_err-behind-clause-fault g t c =
    let q = cond_tree c.args.condition.now in let body = stmts_of (stmts_list c.args.body.now) in let k = c.args.context in
    let i = c.loop-turn._turn in
    passed_on c.from_residual-in_err-behind.result c.in_err-behind.field-0.0 (FailsFrom g.T.Structure.ordered (turn_run q body) c.loop-turn.going.items) (FailsWithin g.T.Structure.ordered (stmt_run (while c.args.pos.offset q c.args.turns body)) k) c.from_residual-in_err-behind.ensures.1
    (λ f h. turn_fails_at c.args.pos.offset q c.args.turns body k g.T.Structure.ordered i c.loop-turn-test.true c.loop-turn.done.items c.loop-turn.going.items f c.loop-turn.invariant.turned h) c.in_err-behind.ensures.fault

pub run_while-loop-turn-preserved : goal.run_while-loop-turn-preserved
run_while-loop-turn-preserved g t c =
    let q = cond_tree c.args.condition.now in let body = stmts_of (stmts_list c.args.body.now) in let k = c.args.context in
    let i = c.loop-turn._turn in
    let further = c.in_ok-behind.behind.going.items in
    let turned = turned_more c.args.pos.offset q c.args.turns body k i c.loop-turn-test.true c.loop-turn.done.items c.loop-turn.going.items c.in_ok-behind.behind.left.items further c.loop-turn.invariant.turned c.in_ok-behind.ensures.turn in
    record {
      turned = subst (λ z. HasTurned c.args.pos.offset q c.args.turns body k z c.append.new.contexts.items further) (sym (add-one i))
          (subst (λ z. HasTurned c.args.pos.offset q c.args.turns body k (suc i) z further) (sym c.in_ok-append.ensures) turned);
      asked = g.met.S.Oracle.reaches_then c.args.steps.now c.loop-turn.steps c.run_turn.new.steps c.loop-turn.invariant.asked c.run_turn.ensures.asked;
    }

pub run_while-leave_all-requires-clause-placed : goal.run_while-leave_all-requires-clause-placed
run_while-leave_all-requires-clause-placed g t c =
    let q = cond_tree c.args.condition.now in let body = stmts_of (stmts_list c.args.body.now) in let k = c.args.context in
    turned_leaves c.args.pos.offset q c.args.turns body k c.loop-turn._turn c.loop-turn.done.items c.loop-turn.going.items c.loop-turn.invariant.turned g.T.Structure.ordered c.requires.placed

pub run_while-returns-in_err-last-clause-fault : goal.run_while-returns-in_err-last-clause-fault
run_while-returns-in_err-last-clause-fault g t c =
    let q = cond_tree c.args.condition.now in let body = stmts_of (stmts_list c.args.body.now) in let k = c.args.context in
    let all : c.loop-turn._turn ≡ c.args.turns = omega arith in
    let turned = subst (λ i. HasTurned c.args.pos.offset q c.args.turns body k i c.loop-turn.done.items c.loop-turn.going.items) all c.loop-turn.invariant.turned in
    passed_on c.from_residual-in_err-last.result c.in_err-last.field-0.0 (FailsFrom g.T.Structure.ordered (leave_run c.args.pos.offset q) c.loop-turn.going.items) (FailsWithin g.T.Structure.ordered (stmt_run (while c.args.pos.offset q c.args.turns body)) k) c.from_residual-in_err-last.ensures.1
    (λ f h. leave_fails_at c.args.pos.offset q c.args.turns body k g.T.Structure.ordered c.loop-turn.done.items c.loop-turn.going.items f turned h) c.in_err-last.ensures.fault

pub run_while-returns-clause-runs : goal.run_while-returns-clause-runs
run_while-returns-clause-runs g t c =
    let q = cond_tree c.args.condition.now in let body = stmts_of (stmts_list c.args.body.now) in let k = c.args.context in
    let all : c.loop-turn._turn ≡ c.args.turns = omega arith in
    let turned = subst (λ i. HasTurned c.args.pos.offset q c.args.turns body k i c.loop-turn.done.items c.loop-turn.going.items) all c.loop-turn.invariant.turned in
    subst (λ z. RunsAs (stmt_run (while c.args.pos.offset q c.args.turns body)) k z) (sym c.in_ok-append-2.ensures)
    (turned_all c.args.pos.offset q c.args.turns body k c.loop-turn.done.items c.in_ok-last.last.items c.loop-turn.going.items turned c.in_ok-last.ensures.runs)

-- whatever is answered
pub run_while-returns-then-is_empty-clause-asked : goal.run_while-returns-then-is_empty-clause-asked
run_while-returns-then-is_empty-clause-asked g t c = c.loop-turn.invariant.asked

pub run_while-returns-in_err-behind-clause-asked : goal.run_while-returns-in_err-behind-clause-asked
run_while-returns-in_err-behind-clause-asked g t c =
    g.met.S.Oracle.reaches_then c.args.steps.now c.loop-turn.steps c.run_turn.new.steps c.loop-turn.invariant.asked c.run_turn.ensures.asked

pub run_while-returns-in_err-append-clause-asked : goal.run_while-returns-in_err-append-clause-asked
run_while-returns-in_err-append-clause-asked g t c =
    g.met.S.Oracle.reaches_then c.args.steps.now c.loop-turn.steps c.run_turn.new.steps c.loop-turn.invariant.asked c.run_turn.ensures.asked

pub run_while-returns-in_err-append-2-clause-asked : goal.run_while-returns-in_err-append-2-clause-asked
run_while-returns-in_err-append-2-clause-asked g t c =
    g.met.S.Oracle.reaches_then c.args.steps.now c.loop-turn.steps c.leave_all.new.steps c.loop-turn.invariant.asked c.leave_all.ensures.asked

pub run_while-returns-in_err-last-clause-asked : goal.run_while-returns-in_err-last-clause-asked
run_while-returns-in_err-last-clause-asked g t c =
    g.met.S.Oracle.reaches_then c.args.steps.now c.loop-turn.steps c.leave_all.new.steps c.loop-turn.invariant.asked c.leave_all.ensures.asked

pub run_while-returns-clause-asked : goal.run_while-returns-clause-asked
run_while-returns-clause-asked g t c =
    g.met.S.Oracle.reaches_then c.args.steps.now c.loop-turn.steps c.leave_all.new.steps c.loop-turn.invariant.asked c.leave_all.ensures.asked
