use Rattle.std.proofs.Common.{refl}
use Rattle.lois_answers.specs.LineView.{line_of}
use Rattle.lois_answers.specs.Sound.{IsSoundLine}
use Rattle.lois_answers.proofs.Lists.{all_begin, all_step, all_end}
use Rattle.lois_answers.proofs.sound.are_sound_lines.Goals as goal

pub loop-line-init : goal.loop-line-init
loop-line-init c =
    all_begin (IsSoundLine c.args.ordered c.args.levels) line_of c.as_slice-line-items.result.now c.args.lines.now c.as_slice-line-items.ensures.items

pub returns-then-not-is_sound_line : goal.returns-then-not-is_sound_line
returns-then-not-is_sound_line c =
    let step = all_step (IsSoundLine c.args.ordered c.args.levels) line_of c.as_slice-line-items.result.now c.loop-line.line-index c.line-item.result c.loop-line-test.true c.line-item.is in
    record { exact = (λ h. absurd (cc), λ a. c.if-not-is_sound_line.ensures.exact.1 (step.0 (c.loop-line.invariant.0 a)).0) }

pub loop-line-preserved : goal.loop-line-preserved
loop-line-preserved c =
    let step = all_step (IsSoundLine c.args.ordered c.args.levels) line_of c.as_slice-line-items.result.now c.loop-line.line-index c.line-item.result c.loop-line-test.true c.line-item.is in
    (λ a. (step.0 (c.loop-line.invariant.0 a)).1, λ a. c.loop-line.invariant.1 (step.1 (c.if-not-is_sound_line.ensures.exact.0 refl, a)))

pub returns : goal.returns
returns c =
    let rest = all_end (IsSoundLine c.args.ordered c.args.levels) line_of c.as_slice-line-items.result.now c.loop-line.line-index c.loop-line-test.false in
    record { exact = (λ h. c.loop-line.invariant.1 rest, λ a. refl) }
