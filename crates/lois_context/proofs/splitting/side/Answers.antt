use Rattle.std.proofs.Common.{Some}
use Rattle.lois_deciders.specs.Conjunction.{IsSampledConjunction}
use Rattle.lois_context.proofs.Sides.{side_met, choices_met}
use Rattle.lois_deciders.proofs.Oracle.{some_is, none_is}
use Rattle.lois_context.proofs.splitting.side.Goals as goal

pub narrowed_copy-requires : goal.narrowed_copy-requires
narrowed_copy-requires g c =
    let own = some_is (λ m. IsSampledConjunction c.args.context.now.size c.args.context.now.«when» c.args.condition.now m.constraint m.sample) c.in_ok-met.met c.in-Some.met c.in-Some.is c.in_ok-met.ensures.met in
    (own.levels, own.sample)

pub returns-in_ok-narrowed_copy-in-Some-clause-side : goal.returns-in_ok-narrowed_copy-in-Some-clause-side
returns-in_ok-narrowed_copy-in-Some-clause-side g c =
    let own = some_is (λ m. IsSampledConjunction c.args.context.now.size c.args.context.now.«when» c.args.condition.now m.constraint m.sample) c.in_ok-met.met c.in-Some.met c.in-Some.is c.in_ok-met.ensures.met in
    side_met c.args.context.now c.args.condition.now (Some c.in-Some.met) (Some c.in_ok-narrowed_copy-in-Some.field-0) own c.in_ok-narrowed_copy-in-Some.ensures

pub returns-in_ok-narrowed_copy-in-Some-clause-choices : goal.returns-in_ok-narrowed_copy-in-Some-clause-choices
returns-in_ok-narrowed_copy-in-Some-clause-choices g c =
    let own = some_is (λ m. IsSampledConjunction c.args.context.now.size c.args.context.now.«when» c.args.condition.now m.constraint m.sample) c.in_ok-met.met c.in-Some.met c.in-Some.is c.in_ok-met.ensures.met in
    choices_met c.args.context.now c.args.condition.now (Some c.in-Some.met) (Some c.in_ok-narrowed_copy-in-Some.field-0) own (λ i. absurd (cc)) c.in_ok-narrowed_copy-in-Some.ensures

pub returns-in-None-clause-choices : goal.returns-in-None-clause-choices
returns-in-None-clause-choices g c = λ d. (
  λ a. absurd a,
  λ a. c.in_ok-met.ensures.none.0 (none_is c.in_ok-met.met c.in-None.is) d a.0.0 a.0.1 a.1,
)
