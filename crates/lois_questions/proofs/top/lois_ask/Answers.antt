use Rattle.std.proofs.Common.{◌≡◌, List, ℕ, refl, sym, ◌∙◌, subst, inl, inr}
use Rattle.lois_outside.specs.Writing.{AppendsProperPrefix, FailsWriting}
use Rattle.lois_questions.specs.Outcomes.{outcome_text}
use Rattle.lois_questions.proofs.TextsOfOutcomes.{gave_for, never_seven}
use Rattle.lois_questions.proofs.top.lois_ask.Goals as goal

pub returns-in_default-text-clause-answer : goal.returns-in_default-text-clause-answer
returns-in_default-text-clause-answer g c =
    inl (refl, refl, gave_for g.S.Source.left g.S.Source.takes c.args.source.now c.outcome.new.source c.in-Ok.outcome c.in-Ok.ensures.outcome)

pub returns-clause-answer : goal.returns-clause-answer
returns-clause-answer g c =
    let text : c.deref.result.now ≡ outcome_text c.in-Ok.outcome = cc (c.deref.ensures.value, c.in-Ok-text.ensures) in
    inr (
      c.in-Ok.outcome,
      c.in-Ok.ensures.outcome,
      c.in-Ok.ensures.written,
      inr (
        refl,
        c.in-Err.ensures.fault,
        subst (λ (bytes : List ℕ). AppendsProperPrefix (g.K.Sink.held c.args.sink.now) (g.K.Sink.held c.write_all.new.sink) bytes) text c.in-Err.ensures.proper_prefix,
        subst (λ (bytes : List ℕ). FailsWriting g.K.Sink.puts c.args.sink.now bytes c.write_all.new.sink) text c.in-Err.ensures.calls_to_fault,
      ),
    )

pub returns-in-Ok-write_all-clause-write_fault : goal.returns-in-Ok-write_all-clause-write_fault
returns-in-Ok-write_all-clause-write_fault g c = λ e. absurd (never_seven c.in-Ok.outcome (sym c.status.ensures ∙ e))
