-- Where a block or a script ends it doesn't fail.
use Rattle.std.proofs.Common.{◌<◌, [], ◌∷◌, List, sym, subst}
use Rattle.std.proofs.lemmas.List.Elements.{Contains-push}
use Rattle.lois_answers.specs.declared.results.Results.{Results}
use Rattle.lois_script.specs.Tree.{ScriptD, StmtsD}
use Rattle.lois_meaning.proofs.TheLaws.{never_both}
use Rattle.lois_context.specs.Slots.{store_at}
use Rattle.lois_context.specs.declared.contexts.Context.{Context}
use Rattle.lois_context.proofs.Counts.{times_of, times_some}
use Rattle.lois_eval.specs.Throughout.{FailsNowhere}
use Rattle.lois_interp.specs.Failed.{FailsAlongSome}
use Rattle.lois_interp.specs.Interpreted.{AreResultsOf}
use Rattle.lois_interp.specs.Failures.{ScriptFailsNowhere}
use Rattle.lois_interp.specs.Reached.{RunsAs}
use Rattle.lois_interp.specs.Run.{block_run}
use Rattle.lois_interp.proofs.Kept.{as_reached}

-- one of the contexts that it comes to admits the choice, and there the block has ended
pub block_fails_nowhere : (body : StmtsD) (k : Context) (after : List Context) → RunsAs (block_run body) k after → FailsNowhere k (FailsAlongSome (block_run body))
block_fails_nowhere body k after runs c adm at kind (path, bad) =
    let some = times_some c after (subst (λ n. 0 < n) (sym (runs.choices c)) (times_of c (k ∷ []) k (Contains-push [] k) adm)) in
    let there = (as_reached (block_run body) k after runs some.0 some.1).ends_there c some.2 in
    never_both.ends body (store_at c k.store) there.run.0 there.printed at kind path there.run.1 bad

pub script_fails_nowhere : (s : ScriptD) (r : Results) → AreResultsOf s r → ScriptFailsNowhere s
script_fails_nowhere s r h choice is at kind path bad =
    let lines = (h.choices choice is).lines in
    never_both.scripts s choice lines.printed at kind path lines.ends bad
