use Rattle.std.proofs.Common.{rules, arith}
use Rattle.std.proofs.lemmas.Grind.{common_steps}
use Rattle.lois_deciders.proofs.Satisfied.{ranks_meet}
use Rattle.lois_deciders.proofs.graph.ranked_sample.Goals as goal

pub returns-clause-found : goal.returns-clause-found
returns-clause-found c =
    ranks_meet c.args.size c.args.cube.now c.in_ok-labels.labels.items c.in-Some.ranks.items c.requires.levels c.requires.strict (search rules) (search rules) (search rules) c.loop-label.sample.items (grind (arith, common_steps))
