use Rattle.std.proofs.Common.{inl, inr, rules}
use Rattle.std.proofs.lemmas.Result.{IfOk-weaker}
use Rattle.lois_base.specs.Tree.{tree as term_tree}
use Rattle.lois_base.specs.declared.values.Term.{Term}
use Rattle.lois_deciders.specs.OnlyAsked.{HasOnlyAsked}
use Rattle.lois_deciders.specs.declared.chosen.Chosen.{Chosen}
use Rattle.lois_deciders.proofs.OnlyAsked.{only_asked_nothing, only_asked_then}
use Rattle.lois_deciders.proofs.Reached.{reached_keeps, kept_between}
use Rattle.lois_meaning.specs.Expressions.{Gives}
use Rattle.lois_script.specs.View.{tree}
use Rattle.lois_eval.specs.Evaluated.{IsTermOf}
use Rattle.lois_eval.specs.WellFormed.{IsWellFormed}
use Rattle.lois_eval.proofs.Evaluations.{fails_nowhere}
use Rattle.lois_eval.proofs.evaluating.eval.Goals as goal

pub returns-clause-value : goal.returns-clause-value
returns-clause-value g c =
    let k = c.args.context.now in
    let e = tree c.args.e.now in
    IfOk-weaker c.evaluated.result (λ (t : Term). IsTermOf k (Gives e) (IsWellFormed e) (term_tree t)) _ (λ t h. h.value) c.evaluated.ensures.term

pub returns-clause-nowhere : goal.returns-clause-nowhere
returns-clause-nowhere g c =
    let k = c.args.context.now in
    let e = tree c.args.e.now in
    IfOk-weaker c.evaluated.result (λ (t : Term). IsTermOf k (Gives e) (IsWellFormed e) (term_tree t)) _ (λ t h. fails_nowhere k e (term_tree t) h.value) c.evaluated.ensures.term

pub returns-clause-levels : goal.returns-clause-levels
returns-clause-levels g c =
    let k = c.args.context.now in
    let e = tree c.args.e.now in
    IfOk-weaker c.evaluated.result (λ (t : Term). IsTermOf k (Gives e) (IsWellFormed e) (term_tree t)) _ (λ t h. h.levels) c.evaluated.ensures.term

pub returns-clause-operators : goal.returns-clause-operators
returns-clause-operators g c =
    let k = c.args.context.now in
    let e = tree c.args.e.now in
    IfOk-weaker c.evaluated.result (λ (t : Term). IsTermOf k (Gives e) (IsWellFormed e) (term_tree t)) _ (λ t h. h.operators) c.evaluated.ensures.term

pub returns-clause-widths : goal.returns-clause-widths
returns-clause-widths g c =
    let k = c.args.context.now in
    let e = tree c.args.e.now in
    IfOk-weaker c.evaluated.result (λ (t : Term). IsTermOf k (Gives e) (IsWellFormed e) (term_tree t)) _ (λ t h. h.widths) c.evaluated.ensures.term

pub returns-clause-only_asked : goal.returns-clause-only_asked
returns-clause-only_asked g c =
    let Keeps : Chosen _ _ → Chosen _ _ → Type 0 = HasOnlyAsked (λ d. (goal.Decider-dyn g (d.vtable, d.value)).kind_of d.value) (λ d. (goal.Decider-dyn g (d.vtable, d.value)).questions d.value) in
    let kept = reached_keeps _ Keeps (only_asked_nothing _ _) (only_asked_then _ _) (λ a b leads. elim leads [
      | inl x ↦ kept_between Keeps a b x.before.now x.after.now x.from x.to (assumption x.call)
      | inr more ↦ elim more [
        | inl x ↦ kept_between Keeps a b x.before.now x.after.now x.from x.to (assumption x.call)
        | inr others ↦ elim others [
          | inl x ↦ kept_between Keeps a b x.before.now x.after.now x.from x.to (assumption x.call)
          | inr rest ↦ elim rest [
            | inl x ↦ kept_between Keeps a b x.before.now x.after.now x.from x.to (assumption x.call)
            | inr x ↦ kept_between Keeps a b x.before.now x.after.now x.from x.to (assumption x.call)
          ]
        ]
      ]
    ]) _ _ c.evaluated.ensures.asked.0 in
    let same = c.evaluated.ensures.asked.1 in
    search rules
