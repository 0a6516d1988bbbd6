use Rattle.std.proofs.Common.{inl, inr, rules}
use Rattle.lois_deciders.specs.OnlyAsked.{HasOnlyAsked}
use Rattle.lois_deciders.specs.declared.chosen.Chosen.{Chosen}
use Rattle.lois_deciders.proofs.OnlyAsked.{only_asked_nothing, only_asked_then}
use Rattle.lois_deciders.proofs.Reached.{reached_keeps, kept_between}
use Rattle.lois_simplify.proofs.simplifying.simplify_worded.Goals as goal

pub returns-clause-only_asked : goal.returns-clause-only_asked
returns-clause-only_asked g c =
    let Keeps : Chosen _ _ → Chosen _ _ → Type 0 = HasOnlyAsked (λ d. (goal.Decider-dyn g (d.vtable, d.value)).kind_of d.value) (λ d. (goal.Decider-dyn g (d.vtable, d.value)).questions d.value) in
    let kept = reached_keeps _ Keeps (only_asked_nothing _ _) (only_asked_then _ _) (λ a b leads. elim leads [
      | inl x ↦ kept_between Keeps a b x.before.now x.after.now x.from x.to x.call.1.1.1
      | inr two ↦ elim two [
        | inl x ↦ kept_between Keeps a b x.before.now x.after.now x.from x.to x.call.1.1.1
        | inr x ↦ kept_between Keeps a b x.before.now x.after.now x.from x.to x.call.1.1.1
      ]
    ]) _ _ c.simplified_copy.ensures.asked.0 in
    let same = c.simplified_copy.ensures.asked.1 in
    search rules
