use Rattle.std.proofs.Common.{◌-◌, ◌^◌, Bool}
use Rattle.lois_base.specs.Data.{comps_of}
use Rattle.lois_base.specs.Validity.{AdmitsItems, ItemsHaveBoundedWidths}
use Rattle.lois_deciders.specs.OnlyAsked.{HasOnlyAsked}
use Rattle.lois_shortest_word.specs.Rounds.{HasReachedLevels, AdmitsReached}
use Rattle.lois_shortest_word.proofs.Meetings.{AreReached}
use Rattle.lois_shortest_word.proofs.meeting.first_meeting.Given as goal

abbrev pub invariant-rounds : goal.invariant-rounds
invariant-rounds g l = record {
  reached : AreReached l.size l.under (comps_of l.one.states.now) (comps_of l.one.letters.now) (comps_of l.one.steps.now) (comps_of l.one.initial.now) (comps_of l.one.accepting.now) (comps_of l.other.states.now) (comps_of l.other.letters.now) (comps_of l.other.steps.now) (comps_of l.other.initial.now) (comps_of l.other.accepting.now) (comps_of l.starts) l.count l.reached;
  levels : HasReachedLevels l.size l.reached;
  operators : (o : Bool) → AdmitsItems o (comps_of l.starts) → AdmitsItems o (comps_of l.one.steps.now) → AdmitsItems o (comps_of l.other.steps.now) → AdmitsReached o l.reached;
  widths : ItemsHaveBoundedWidths (comps_of l.one.steps.now) → ItemsHaveBoundedWidths (comps_of l.other.steps.now) → ItemsHaveBoundedWidths (comps_of l.reached.steps);
  only_asked : HasOnlyAsked (λ b. (goal.Decider-dyn g (b.vtable, b.value)).kind_of b.value) (λ b. (goal.Decider-dyn g (b.vtable, b.value)).questions b.value) l.fn.chosen l.chosen;
}

abbrev pub decreases-rounds : goal.decreases-rounds
decreases-rounds g l = 2 ^ 64 - l.count
