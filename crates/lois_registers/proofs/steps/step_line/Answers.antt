use Rattle.std.proofs.Common.{map, refl, sym, ap, ◌∙◌}
use Rattle.lois_registers.specs.Texts.{step_words}
use Rattle.lois_registers.specs.Valid.{IsRegStep}
use Rattle.lois_registers.proofs.Cuts.{left_weaker, err_left, words_unique}
use Rattle.lois_registers.proofs.StepWords.{step_are, none_of}
use Rattle.lois_registers.proofs.steps.step_line.Goals as goal

pub returns-in_err-words-clause-left : goal.returns-in_err-words-clause-left
returns-in_err-words-clause-left c =
    err_left c.from_residual.result c.in_err-words.field-0.0 _ c.from_residual.ensures.1
    (left_weaker c.args.text.now _ _ c.in_err-words.field-0.0 (λ none v more p e. none (step_words v) more e) c.in_err-words.ensures.left)

pub returns-clause-left : goal.returns-clause-left
returns-clause-left c = (
  refl,
  λ v more p e.
      let read = c.in_ok-words.ensures.read in
      let are = step_are c.args.frame.order c.args.frame.registers c.args.frame.states.now v c.requires.count.1 p c.requires.form in
      let u = words_unique (map (λ w. w.now) c.in_ok-words.words.items) (step_words v) c.in_ok-words.rest.now more read.0 are (sym read.1 ∙ e) in
      none_of (IsRegStep c.args.frame.order c.args.frame.registers c.args.frame.states.now) step_words (map (λ w. w.now) c.deref.result.now) c.in_ok-step.field-0 c.in_ok-step.ensures c.in-None.is v p (ap (map (λ w. w.now)) c.deref.ensures.value ∙ u.0),
)
