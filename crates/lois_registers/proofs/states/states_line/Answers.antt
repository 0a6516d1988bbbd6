use Rattle.std.proofs.Common.{◌≡◌, true, length, refl, sym, subst, ap, ◌∙◌, arith}
use Rattle.lois_answers.specs.Sound.{AreDistinct}
use Rattle.lois_registers.proofs.Cuts.{left_weaker, err_left}
use Rattle.lois_registers.proofs.states.states_line.Goals as goal
use Rattle.lois_registers.proofs.states.states_line.Goals.{then-count-eq0-via-then-count-eq0, then-count-eq0-via-else-count-eq0+then-count-gt-MOST_STATES, then-count-eq0-via-else-count-eq0+else-count-gt-MOST_STATES+then-not-are_distinct}

pub returns-in_err-names-clause-left : goal.returns-in_err-names-clause-left
returns-in_err-names-clause-left c =
    err_left c.from_residual.result c.in_err-names.field-0.0 _ c.from_residual.ensures.1
    (left_weaker c.args.text.now _ _ c.in_err-names.field-0.0 (λ none v more p e. none v (p.form, (more, e))) c.in_err-names.ensures.left)

pub returns-then-count-eq0-clause-left : goal.returns-then-count-eq0-clause-left
returns-then-count-eq0-clause-left c = (
  refl,
  λ v more p e.
      let same : v ≡ c.in_ok-names.names = c.in_ok-names.ensures.only v (p.form, (more, e)) in
      elim c.then-count-eq0.branch [
        | then-count-eq0-via-then-count-eq0 w ↦ absurd (omega (arith, ap length same, p.some, c.len-count.ensures, w.if-count-eq0.true))
        | then-count-eq0-via-else-count-eq0+then-count-gt-MOST_STATES w ↦ absurd (omega (arith, ap length same, p.few, c.len-count.ensures, w.if-count-gt-MOST_STATES.true))
        | then-count-eq0-via-else-count-eq0+else-count-gt-MOST_STATES+then-not-are_distinct w ↦
            let yes : w.are_distinct.result ≡ true = w.are_distinct.ensures.1 (subst AreDistinct (same ∙ sym w.as_slice.ensures) p.distinct) in
            let no = w.if-not-are_distinct.true in absurd (cc)
      ],
)
