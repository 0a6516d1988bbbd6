use Rattle.std.proofs.Common.{inl, inr, rules}
use Rattle.std.proofs.lemmas.Result.{IfOk-weaker}
use Rattle.lois_deciders.specs.OnlyAsked.{HasOnlyAsked}
use Rattle.lois_deciders.specs.declared.chosen.Chosen.{Chosen}
use Rattle.lois_deciders.proofs.OnlyAsked.{only_asked_nothing, only_asked_then}
use Rattle.lois_deciders.proofs.Reached.{reached_keeps, kept_between}
use Rattle.lois_meaning.specs.Expressions.{HasTruth}
use Rattle.lois_script.specs.View.{cond_tree}
use Rattle.lois_eval.specs.Evaluated.{IsConstraintOf}
use Rattle.lois_eval.specs.WellFormed.{CondIsWellFormed}
use Rattle.lois_eval.proofs.Evaluations.{cond_fails_nowhere}
use Rattle.lois_eval.proofs.evaluating.decide.Goals as goal

pub returns-clause-truth : goal.returns-clause-truth
returns-clause-truth g c =
    let k = c.args.context.now in
    let d = cond_tree c.args.c.now in
    IfOk-weaker c.decided.result (IsConstraintOf k (HasTruth d) (CondIsWellFormed d)) _ (λ r h. h.truth) c.decided.ensures.constraint

pub returns-clause-nowhere : goal.returns-clause-nowhere
returns-clause-nowhere g c =
    let k = c.args.context.now in
    let d = cond_tree c.args.c.now in
    IfOk-weaker c.decided.result (IsConstraintOf k (HasTruth d) (CondIsWellFormed d)) _ (λ r h. cond_fails_nowhere k d r h.truth) c.decided.ensures.constraint

pub returns-clause-levels : goal.returns-clause-levels
returns-clause-levels g c =
    let k = c.args.context.now in
    let d = cond_tree c.args.c.now in
    IfOk-weaker c.decided.result (IsConstraintOf k (HasTruth d) (CondIsWellFormed d)) _ (λ r h. h.levels) c.decided.ensures.constraint

pub returns-clause-operators : goal.returns-clause-operators
returns-clause-operators g c =
    let k = c.args.context.now in
    let d = cond_tree c.args.c.now in
    IfOk-weaker c.decided.result (IsConstraintOf k (HasTruth d) (CondIsWellFormed d)) _ (λ r h. h.operators) c.decided.ensures.constraint

pub returns-clause-only_asked : goal.returns-clause-only_asked
returns-clause-only_asked g c =
    let Keeps : Chosen _ _ → Chosen _ _ → Type 0 = HasOnlyAsked (λ d. (goal.Decider-dyn g (d.vtable, d.value)).kind_of d.value) (λ d. (goal.Decider-dyn g (d.vtable, d.value)).questions d.value) in
    let kept = reached_keeps _ Keeps (only_asked_nothing _ _) (only_asked_then _ _) (λ a b leads. elim leads [
      | inl x ↦ kept_between Keeps a b x.before.now x.after.now x.from x.to (assumption x.call)
      | inr more ↦ elim more [
        | inl x ↦ kept_between Keeps a b x.before.now x.after.now x.from x.to (assumption x.call)
        | inr others ↦ elim others [
          | inl x ↦ kept_between Keeps a b x.before.now x.after.now x.from x.to (assumption x.call)
          | inr rest ↦ elim rest [
            | inl x ↦ kept_between Keeps a b x.before.now x.after.now x.from x.to (assumption x.call)
            | inr x ↦ kept_between Keeps a b x.before.now x.after.now x.from x.to (assumption x.call)
          ]
        ]
      ]
    ]) _ _ c.decided.ensures.asked.0 in
    let same = c.decided.ensures.asked.1 in
    search rules
