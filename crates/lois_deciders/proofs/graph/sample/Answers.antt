use Rattle.lois_deciders.specs.Labels.{IsUnmet}
use Rattle.lois_deciders.proofs.StrictParts.{none_weaker, part_unmet}
use Rattle.lois_deciders.proofs.graph.sample.Goals as goal

pub ranked_sample-requires-2-clause-levels : goal.ranked_sample-requires-2-clause-levels
ranked_sample-requires-2-clause-levels c = c.in_ok-tightest.ensures.levels c.args.size c.requires

pub ranked_sample-requires-3-clause-levels : goal.ranked_sample-requires-3-clause-levels
ranked_sample-requires-3-clause-levels c = c.in_ok-part.ensures.levels c.args.size c.requires

pub returns-clause-none : goal.returns-clause-none
returns-clause-none c =
    none_weaker (IsUnmet c.args.size c.in_ok-part.part) (IsUnmet c.args.size c.args.cube.now) c.ranked_sample-3.result
    (part_unmet c.args.size c.args.cube.now c.in_ok-part.part (c.in_ok-part.ensures.levels c.args.size c.requires) c.in_ok-part.ensures.met) c.ranked_sample-3.ensures.none
