use Rattle.std.proofs.Common.{not}
use Rattle.std.proofs.lemmas.Result.{IfOk-weaker}
use Rattle.lois_base.specs.Truth.{holds}
use Rattle.lois_deciders.proofs.OnlyAsked.{only_asked_then}
use Rattle.lois_context.specs.Sides.{HasSamplePathCondition}
use Rattle.lois_context.proofs.Sides.{side_of, side_met, operators_met, choices_met, can_narrow, denied_choices}
use Rattle.lois_context.proofs.splitting.split.Goals as goal

pub meet-requires-2-clause-second : goal.meet-requires-2-clause-second
meet-requires-2-clause-second g c = c.in_ok-denied.ensures.fits c.args.context.size c.requires

pub sides-requires-clause-yes : goal.sides-requires-clause-yes
sides-requires-clause-yes g c = can_narrow c.args.context c.args.condition.now c.in_ok-yes.yes c.in_ok-yes.ensures.met

pub sides-requires-clause-no : goal.sides-requires-clause-no
sides-requires-clause-no g c = can_narrow c.args.context c.in_ok-denied.denied c.in_ok-no.no c.in_ok-no.ensures.met

pub returns-clause-yes : goal.returns-clause-yes
returns-clause-yes g c =
    IfOk-weaker c.sides.result (λ s. HasSamplePathCondition c.args.context c.in_ok-yes.yes s.yes) _
    (λ s by. side_met c.args.context c.args.condition.now c.in_ok-yes.yes s.yes c.in_ok-yes.ensures.met by) c.sides.ensures.yes

pub returns-clause-no : goal.returns-clause-no
returns-clause-no g c =
    IfOk-weaker c.sides.result (λ s. HasSamplePathCondition c.args.context c.in_ok-no.no s.no) _
    (λ s by. side_of c.args.context (λ d. holds d c.in_ok-denied.denied) (λ d. not (holds d c.args.condition.now)) c.in_ok-denied.ensures.truth s.no
    (side_met c.args.context c.in_ok-denied.denied c.in_ok-no.no s.no c.in_ok-no.ensures.met by)) c.sides.ensures.no

pub returns-clause-yes_choices : goal.returns-clause-yes_choices
returns-clause-yes_choices g c =
    IfOk-weaker c.sides.result (λ s. HasSamplePathCondition c.args.context c.in_ok-yes.yes s.yes) _
    (λ s by. choices_met c.args.context c.args.condition.now c.in_ok-yes.yes s.yes c.in_ok-yes.ensures.met c.in_ok-yes.ensures.none.0 by) c.sides.ensures.yes

pub returns-clause-no_choices : goal.returns-clause-no_choices
returns-clause-no_choices g c =
    IfOk-weaker c.sides.result (λ s. HasSamplePathCondition c.args.context c.in_ok-no.no s.no) _
    (λ s by d. denied_choices c.args.context c.args.condition.now c.in_ok-denied.denied s.no c.in_ok-denied.ensures.truth d
    (choices_met c.args.context c.in_ok-denied.denied c.in_ok-no.no s.no c.in_ok-no.ensures.met c.in_ok-no.ensures.none.0 by d)) c.sides.ensures.no

pub returns-clause-yes_operators : goal.returns-clause-yes_operators
returns-clause-yes_operators g c =
    IfOk-weaker c.sides.result (λ s. HasSamplePathCondition c.args.context c.in_ok-yes.yes s.yes) _
    (λ s by. operators_met c.args.context c.args.condition.now c.in_ok-yes.yes s.yes c.in_ok-yes.ensures.met by) c.sides.ensures.yes

pub returns-clause-no_operators : goal.returns-clause-no_operators
returns-clause-no_operators g c =
    IfOk-weaker c.sides.result (λ s. HasSamplePathCondition c.args.context c.in_ok-no.no s.no) _
    (λ s by o a b. operators_met c.args.context c.in_ok-denied.denied c.in_ok-no.no s.no c.in_ok-no.ensures.met by o a (c.in_ok-denied.ensures.operators o b)) c.sides.ensures.no

pub returns-clause-only_asked : goal.returns-clause-only_asked
returns-clause-only_asked g c =
    only_asked_then (λ b. (goal.Decider-dyn g (b.vtable, b.value)).kind_of b.value) (λ b. (goal.Decider-dyn g (b.vtable, b.value)).questions b.value) c.args.chosen.now c.meet.new.self c.meet-2.new.self c.meet.ensures.only_asked c.meet-2.ensures.only_asked
