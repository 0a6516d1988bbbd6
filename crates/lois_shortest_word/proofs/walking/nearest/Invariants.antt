use Rattle.std.proofs.Common.{◌-◌, ◌^◌, length}
use Rattle.std.specs.List.{All}
use Rattle.lois_base.specs.Data.{comps_of}
use Rattle.lois_base.specs.Tree.{tree}
use Rattle.lois_automata.specs.Projections.{automaton_at}
use Rattle.lois_deciders.specs.OnlyAsked.{HasOnlyAsked}
use Rattle.lois_shortest_word.specs.Layers.{IsLayer, IsReadable, AreLayers}
use Rattle.lois_shortest_word.specs.Walks.{HaveAtLeast}
use Rattle.lois_shortest_word.proofs.walking.nearest.Given as goal

abbrev pub invariant-layering : goal.invariant-layering
invariant-layering g l =
    let m = automaton_at (comps_of l.sets.states.now) (comps_of l.sets.letters.now) (comps_of l.sets.steps.now) (comps_of l.sets.initial.now) (comps_of l.sets.accepting.now) in
    record {
      layers : AreLayers l.size m l.layers;
      readable : All (IsReadable g.T.Structure.ordered l.size) l.layers;
      layer : IsLayer l.size m (length l.layers) (tree l.layer);
      layer_readable : IsReadable g.T.Structure.ordered l.size (tree l.layer);
      shortest : HaveAtLeast l.size l.under m (length l.layers);
      only_asked : HasOnlyAsked (λ b. (goal.Decider-dyn g (b.vtable, b.value)).kind_of b.value) (λ b. (goal.Decider-dyn g (b.vtable, b.value)).questions b.value) l.fn.chosen l.chosen;
    }

abbrev pub decreases-layering : goal.decreases-layering
decreases-layering g l = 2 ^ 64 - length l.layers
