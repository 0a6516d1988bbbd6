use Rattle.std.proofs.Common.{refl}
use Rattle.lois_answers.specs.CaseView.{case_of}
use Rattle.lois_answers.specs.Sound.{IsSoundCase}
use Rattle.lois_answers.proofs.Lists.{all_begin, all_step, all_end}
use Rattle.lois_answers.proofs.sound.are_sound_cases.Goals as goal

pub loop-case-init : goal.loop-case-init
loop-case-init c =
    all_begin (IsSoundCase c.args.ordered c.args.levels) case_of c.as_slice-case-items.result.now c.args.cases.now c.as_slice-case-items.ensures.items

pub returns-then-not-is_sound_case : goal.returns-then-not-is_sound_case
returns-then-not-is_sound_case c =
    let step = all_step (IsSoundCase c.args.ordered c.args.levels) case_of c.as_slice-case-items.result.now c.loop-case.case-index c.case-item.result c.loop-case-test.true c.case-item.is in
    record { exact = (λ h. absurd (cc), λ a. c.if-not-is_sound_case.ensures.exact.1 (step.0 (c.loop-case.invariant.0 a)).0) }

pub loop-case-preserved : goal.loop-case-preserved
loop-case-preserved c =
    let step = all_step (IsSoundCase c.args.ordered c.args.levels) case_of c.as_slice-case-items.result.now c.loop-case.case-index c.case-item.result c.loop-case-test.true c.case-item.is in
    (λ a. (step.0 (c.loop-case.invariant.0 a)).1, λ a. c.loop-case.invariant.1 (step.1 (c.if-not-is_sound_case.ensures.exact.0 refl, a)))

pub returns : goal.returns
returns c =
    let rest = all_end (IsSoundCase c.args.ordered c.args.levels) case_of c.as_slice-case-items.result.now c.loop-case.case-index c.loop-case-test.false in
    record { exact = (λ h. c.loop-case.invariant.1 rest, λ a. refl) }
