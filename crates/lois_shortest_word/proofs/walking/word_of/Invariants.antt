use Rattle.std.proofs.Common.{◌+◌, ◌≤◌, Bool, length}
use Rattle.std.specs.List.{All}
use Rattle.lois_base.specs.Data.{comps_of}
use Rattle.lois_base.specs.Tree.{tree}
use Rattle.lois_base.specs.Validity.{AdmitsTerm, AdmitsItems, HasBoundedWidths, ItemsHaveBoundedWidths}
use Rattle.lois_automata.specs.Projections.{automaton_at}
use Rattle.lois_deciders.specs.OnlyAsked.{HasOnlyAsked}
use Rattle.lois_shortest_word.specs.Walks.{IsWay, HaveAtLeast}
use Rattle.lois_shortest_word.proofs.walking.word_of.Given as goal

abbrev pub invariant-walking : goal.invariant-walking
invariant-walking g l = record {
  way : IsWay l.size l.under (automaton_at (comps_of l.sets.states.now) (comps_of l.sets.letters.now) (comps_of l.sets.steps.now) (comps_of l.sets.initial.now) (comps_of l.sets.accepting.now)) l.left l.letters l.here;
  within : l.left ≤ length l.all;
  shortest : HaveAtLeast l.size l.under (automaton_at (comps_of l.sets.states.now) (comps_of l.sets.letters.now) (comps_of l.sets.steps.now) (comps_of l.sets.initial.now) (comps_of l.sets.accepting.now)) (length l.letters + l.left);
  state : AdmitsTerm g.T.Structure.ordered (tree l.here.state);
  operators : (o : Bool) → AdmitsItems o (comps_of l.sets.steps.now) → All (AdmitsTerm o) l.letters;
  widths : ItemsHaveBoundedWidths (comps_of l.sets.steps.now) → All HasBoundedWidths l.letters;
  only_asked : HasOnlyAsked (λ b. (goal.Decider-dyn g (b.vtable, b.value)).kind_of b.value) (λ b. (goal.Decider-dyn g (b.vtable, b.value)).questions b.value) l.fn.chosen l.chosen;
}

abbrev pub decreases-walking : goal.decreases-walking
decreases-walking g l = l.left
