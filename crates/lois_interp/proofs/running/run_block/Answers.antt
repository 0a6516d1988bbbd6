use Rattle.std.proofs.Common.{inl, inr, rules}
use Rattle.std.proofs.lemmas.Result.{IfOk-weaker}
use Rattle.lois_deciders.specs.OnlyAsked.{HasOnlyAsked}
use Rattle.lois_deciders.specs.declared.chosen.Chosen.{Chosen}
use Rattle.lois_deciders.proofs.OnlyAsked.{only_asked_nothing, only_asked_then}
use Rattle.lois_deciders.proofs.Reached.{reached_keeps, kept_between}
use Rattle.lois_script.specs.View.{stmts_of, stmts_list}
use Rattle.lois_interp.proofs.Nowhere.{block_fails_nowhere}
use Rattle.lois_interp.proofs.running.run_block.Goals as goal

pub returns-clause-nowhere : goal.returns-clause-nowhere
returns-clause-nowhere g c =
    let body = stmts_of (stmts_list c.args.body.now) in let k = c.args.context in
    IfOk-weaker c.run_stmts.result _ _ (λ r runs. block_fails_nowhere body k r.items runs) c.run_stmts.ensures.runs

pub returns-clause-only_asked : goal.returns-clause-only_asked
returns-clause-only_asked g c =
    let Keeps : Chosen _ _ → Chosen _ _ → Type 0 = HasOnlyAsked (λ d. (goal.Decider-dyn g (d.vtable, d.value)).kind_of d.value) (λ d. (goal.Decider-dyn g (d.vtable, d.value)).questions d.value) in
    let kept = reached_keeps _ Keeps (only_asked_nothing _ _) (only_asked_then _ _) (λ a b leads. elim leads [
      | inl x ↦ kept_between Keeps a b x.before.now x.after.now x.from x.to (assumption x.call)
      | inr more ↦ elim more [
        | inl x ↦ kept_between Keeps a b x.before.now x.after.now x.from x.to (assumption x.call)
        | inr rest ↦ elim rest [
          | inl x ↦ kept_between Keeps a b x.before.now x.after.now x.from x.to (assumption x.call)
          | inr x ↦ kept_between Keeps a b x.before.now x.after.now x.from x.to (assumption x.call)
        ]
      ]
    ]) _ _ c.run_stmts.ensures.asked.0 in
    let same = c.run_stmts.ensures.asked.1 in
    search rules
